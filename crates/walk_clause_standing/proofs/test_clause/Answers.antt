use Rattle.std.proofs.Common.{◌≡◌, sym, ap, ◌∙◌, ◌≤◌, ℤ, pos, max, true, false, length, get_or, drop, arith, rules}
use Rattle.std.proofs.lemmas.Int.{to_z-of_z}
use mir.Syntax.{w32}
use mir.Val.{SFits}
use Rattle.literal.specs.Literal.{closes}
use Rattle.formula.specs.Formula.{clause_length}
use Rattle.formula.specs.Laws.{length_past}
use Rattle.walk_clause_standing.specs.Clause.{passing_closed, passing_past, passing_found, passing_next}
use Rattle.walk_clause_standing.proofs.test_clause.Goals as goal

pub returns-then-closes : goal.returns-then-closes
returns-then-closes g c = λ p d.
    let x : ℤ = get_or c.args.rules.now c.loop-i.i (pos 0) in
    let fits : SFits w32 x = search rules in
    let closed : closes x ≡ true = ap closes (sym (to_z-of_z w32 x fits)) ∙ sym c.closes.ensures ∙ c.if-closes.true in
    passing_closed p c.args.rules.now c.args.from c.loop-i.i (c.loop-i.invariant p d) (omega arith) closed

pub returns-then-test : goal.returns-then-test
returns-then-test g c = λ p d.
    let x : ℤ = get_or c.args.rules.now c.loop-i.i (pos 0) in
    let fits : SFits w32 x = search rules in
    let literal : closes x ≡ false = ap closes (sym (to_z-of_z w32 x fits)) ∙ sym c.closes.ensures ∙ c.if-closes.false in
    let passes : p x ≡ true = sym (d x fits c.test.result (rw (to_z-of_z w32 x fits) at c.test.ensures)) ∙ c.if-test.true in
    passing_found p c.args.rules.now c.args.from c.loop-i.i (c.loop-i.invariant p d) (omega arith) literal passes c.clause_end.result c.clause_end.ensures

pub loop-i-preserved : goal.loop-i-preserved
loop-i-preserved g c = λ p d.
    let x : ℤ = get_or c.args.rules.now c.loop-i.i (pos 0) in
    let fits : SFits w32 x = search rules in
    let literal : closes x ≡ false = ap closes (sym (to_z-of_z w32 x fits)) ∙ sym c.closes.ensures ∙ c.if-closes.false in
    let fails : p x ≡ false = sym (d x fits c.test.result (rw (to_z-of_z w32 x fits) at c.test.ensures)) ∙ c.if-test.false in
    passing_next p c.args.rules.now c.args.from c.loop-i.i (c.loop-i.invariant p d) (omega arith) literal fails

pub returns : goal.returns
returns g c = λ p d.
    let t = passing_past p c.args.rules.now c.args.from c.loop-i.i (c.loop-i.invariant p d) c.loop-i-test.false in
    let past : length c.args.rules.now ≤ c.args.from → clause_length (drop c.args.from c.args.rules.now) ≡ 0 = λ h. length_past c.args.rules.now c.args.from h in
    let most : c.max.result ≡ max c.args.from (length c.args.rules.now) = search rules in
    let e : c.max.result ≡ c.loop-i.i = grind (arith, t.ends, past, most) in
    rw e t
