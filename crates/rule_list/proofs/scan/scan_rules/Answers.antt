use Rattle.std.proofs.Common.{rules, ◌≡◌, ℕ, ◌+◌, sym, ap, ◌∙◌, set, get_or, eqb, ℤ, pos, w32}
use Rattle.std.proofs.lemmas.Int.{to_z-of_z}
use mir.Val.{SFits}
use Rattle.literal.specs.Literal.{variable}
use Rattle.literal.specs.Slots.{slot}
use Rattle.rule_list.proofs.Scanning.{closed, twice, joined, complete}
use Rattle.rule_list.proofs.scan.scan_rules.Goals as goal
use Rattle.rule_list.proofs.scan.scan_rules.Goals.{then-number-eq0+else-clauses-eq-MAX_CLAUSES, else-number-eq0+else-n-number+else-literals-eq-MAX_LITERALS+else-is_stamped}

pub returns-then-is_stamped : goal.returns-then-is_stamped
returns-then-is_stamped c =
    let l = c.loop-place in
    let x : ℤ = get_or c.args.rules.now l.place (pos 0) in
    let fits : SFits w32 x = search rules in
    let read = to_z-of_z w32 x fits in
    twice c.args.n c.args.rules.now l.stamps l.clauses l.literals l.is_open l.place l.invariant c.loop-place-test.true
    c.variable_of-number.result.0 (c.variable_of-number.ensures ∙ ap variable read) c.if-number-eq0.false c.if-n-number.false c.if-literals-eq-MAX_LITERALS.false
    (sym (c.is_stamped.ensures ∙ ap (λ (y : ℤ). eqb (get_or l.stamps (slot y) 0) (l.clauses + 1)) read) ∙ c.if-is_stamped.true)

pub loop-place-preserved : goal.loop-place-preserved
loop-place-preserved c =
    let l = c.loop-place in
    let x : ℤ = get_or c.args.rules.now l.place (pos 0) in
    let fits : SFits w32 x = search rules in
    let read = to_z-of_z w32 x fits in
    let handed = c.variable_of-number.ensures ∙ ap variable read in
    elim c.if-number-eq0.branch [
      | then-number-eq0+else-clauses-eq-MAX_CLAUSES w ↦
          rw (w.stamps-is, w.clauses-is, w.literals-is, w.is_open-is)
          (closed c.args.n c.args.rules.now l.stamps l.clauses l.literals l.is_open l.place l.invariant c.loop-place-test.true
          c.variable_of-number.result.0 handed w.if-number-eq0.true w.if-clauses-eq-MAX_CLAUSES.false)
      | else-number-eq0+else-n-number+else-literals-eq-MAX_LITERALS+else-is_stamped w ↦
          rw (w.stamps-is, w.clauses-is, w.literals-is, w.is_open-is, w.stamp.ensures, read)
          (joined c.args.n c.args.rules.now l.stamps l.clauses l.literals l.is_open l.place l.invariant c.loop-place-test.true
          c.variable_of-number.result.0 handed w.if-number-eq0.false w.if-n-number.false w.if-literals-eq-MAX_LITERALS.false
          c.requires (sym (w.is_stamped.ensures ∙ ap (λ (y : ℤ). eqb (get_or l.stamps (slot y) 0) (l.clauses + 1)) read) ∙ w.if-is_stamped.false))
    ]

pub returns : goal.returns
returns c =
    let l = c.loop-place in
    complete c.args.n c.args.rules.now l.stamps l.clauses l.literals l.is_open l.place l.invariant c.loop-place-test.false c.if-is_open.false
