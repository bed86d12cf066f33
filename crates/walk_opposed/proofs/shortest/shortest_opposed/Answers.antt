use Rattle.std.specs.Prelude.{Option, Some}
use mathlib.Core.Path.{◌≡◌, sym, ap, ◌∙◌}
use mathlib.Core.Bool.{not}
use mathlib.Core.List.{List, ◌∷◌}
use Prim.Native.Nat.{◌+◌, ◌-◌, ◌≤◌}
use native.Mathlib.Omega.{arith}
use lib.IntN.{ℤ}
use lib.ListN.{length, take, drop}
use Rattle.formula.specs.Formula.{clauses}
use Rattle.formula.specs.Laws.{end_inside, clauses_step}
use Rattle.walk.specs.State.{unassigned_in}
use Rattle.walk.specs.Branching.{is_opposed, shorter_of, shortest}
use Rattle.walk_clause_standing.specs.Clause.{clause_at_lem}
use Rattle.walk_opposed.specs.OpposesLaws.{told_opposed}
use Rattle.walk_opposed.specs.Laws.{shortest_first, kept_other, kept_shorter, kept_two}
use Rattle.walk_opposed.proofs.shortest.shortest_opposed.Goals as goal
use Rattle.walk_opposed.proofs.shortest.shortest_opposed.Goals.{then-not-reading, else-not-reading}

pub slice_bounds-kept-end : goal.slice_bounds-kept-end
slice_bounds-kept-end c =
    end_inside c.args.rules.now c.args.first c.clause_end-first_end.result (omega (arith, c.requires.first_in_bounds.0)) c.clause_end-first_end.ensures

pub loop-from-init : goal.loop-from-init
loop-from-init c = (
  ap (shortest c.args.row.now c.args.assignment.now) (clauses_step c.args.rules.now c.args.first c.clause_end-first_end.result c.requires.first_in_bounds.0 c.clause_end-first_end.ensures)
      ∙ shortest_first c.args.row.now c.args.assignment.now (take (c.clause_end-first_end.result - c.args.first) (drop c.args.first c.args.rules.now)) (clauses (drop (c.clause_end-first_end.result + 1) c.args.rules.now))
      (ap (is_opposed c.args.row.now c.args.assignment.now) (clause_at_lem c.args.rules.now c.args.first c.clause_end-first_end.result c.clause_end-first_end.ensures) ∙ c.requires.first_in_bounds.1),
  c.unassigned_in-size.ensures,
)

pub returns-then-size-lt3 : goal.returns-then-size-lt3
returns-then-size-lt3 c =
    sym (kept_two c.args.row.now c.args.assignment.now (clauses (drop c.args.first c.args.rules.now)) c.requires.none_short c.loop-from.kept.now (shortest c.args.row.now c.args.assignment.now (clauses (drop c.loop-from.from c.args.rules.now))) c.loop-from.invariant.0 (omega (arith, c.loop-from.invariant.1, c.if-size-lt3.true)))

-- a clause that was read ends inside the list, and its part of the list is opposed if it is
module _ (c : goal.Then-not-reading) where
  inside-then-reading : c.read_opposed-reading.result.end ≤ length c.args.rules.now
  inside-then-reading =
      end_inside c.args.rules.now c.loop-from.from c.read_opposed-reading.result.end (omega (arith, c.loop-from-test.true)) c.read_opposed-reading.ensures.ends

  told-then-reading : not c.read_opposed-reading.result.passed ≡ is_opposed c.args.row.now c.args.assignment.now (take (c.read_opposed-reading.result.end - c.loop-from.from) (drop c.loop-from.from c.args.rules.now))
  told-then-reading =
      told_opposed c.args.row.now c.args.assignment.now c.args.rules.now c.loop-from.from c.read_opposed-reading.result.end c.read_opposed-reading.result.passed c.read_opposed-reading.ensures
      ∙ sym (ap (is_opposed c.args.row.now c.args.assignment.now) (clause_at_lem c.args.rules.now c.loop-from.from c.read_opposed-reading.result.end c.read_opposed-reading.ensures.ends))

pub slice_bounds-shorter-end : goal.slice_bounds-shorter-end
slice_bounds-shorter-end c = inside-then-reading c

-- a clause that was read ends inside the list, and its part of the list is opposed if it is
module _ (c : goal.Joined-not-reading) where
  inside-joined-reading : c.read_opposed-reading.result.end ≤ length c.args.rules.now
  inside-joined-reading =
      end_inside c.args.rules.now c.loop-from.from c.read_opposed-reading.result.end (omega (arith, c.loop-from-test.true)) c.read_opposed-reading.ensures.ends

  told-joined-reading : not c.read_opposed-reading.result.passed ≡ is_opposed c.args.row.now c.args.assignment.now (take (c.read_opposed-reading.result.end - c.loop-from.from) (drop c.loop-from.from c.args.rules.now))
  told-joined-reading =
      told_opposed c.args.row.now c.args.assignment.now c.args.rules.now c.loop-from.from c.read_opposed-reading.result.end c.read_opposed-reading.result.passed c.read_opposed-reading.ensures
      ∙ sym (ap (is_opposed c.args.row.now c.args.assignment.now) (clause_at_lem c.args.rules.now c.loop-from.from c.read_opposed-reading.result.end c.read_opposed-reading.ensures.ends))

pub overflow_add-from-in-loop-from : goal.overflow_add-from-in-loop-from
overflow_add-from-in-loop-from c = omega (arith, inside-joined-reading c)

pub loop-from-preserved : goal.loop-from-preserved
loop-from-preserved c =
    let clause : List ℤ = take (c.read_opposed-reading.result.end - c.loop-from.from) (drop c.loop-from.from c.args.rules.now) in
    let rest : List (List ℤ) = clauses (drop (c.read_opposed-reading.result.end + 1) c.args.rules.now) in
    let before : shortest c.args.row.now c.args.assignment.now (clauses (drop c.args.first c.args.rules.now)) ≡ Some (shorter_of c.args.assignment.now c.loop-from.kept.now (shortest c.args.row.now c.args.assignment.now (clause ∷ rest))) =
    c.loop-from.invariant.0 ∙ ap (λ (f : List (List ℤ)). Some (shorter_of c.args.assignment.now c.loop-from.kept.now (shortest c.args.row.now c.args.assignment.now f))) (clauses_step c.args.rules.now c.loop-from.from c.read_opposed-reading.result.end c.loop-from-test.true c.read_opposed-reading.ensures.ends) in
    let next : (s : List ℤ) → c.if-not-reading.kept.now ≡ s → shorter_of c.args.assignment.now c.loop-from.kept.now (shortest c.args.row.now c.args.assignment.now (clause ∷ rest)) ≡ shorter_of c.args.assignment.now s (shortest c.args.row.now c.args.assignment.now rest) → c.if-not-reading.size ≡ unassigned_in c.args.assignment.now s
    → (shortest c.args.row.now c.args.assignment.now (clauses (drop c.args.first c.args.rules.now)) ≡ Some (shorter_of c.args.assignment.now c.if-not-reading.kept.now (shortest c.args.row.now c.args.assignment.now rest))) × (c.if-not-reading.size ≡ unassigned_in c.args.assignment.now c.if-not-reading.kept.now) =
    λ s p e q. (before ∙ ap {B = Option (List ℤ)} Some (e ∙ sym (ap (λ (t : List ℤ). shorter_of c.args.assignment.now t (shortest c.args.row.now c.args.assignment.now rest)) p)), q ∙ sym (ap (unassigned_in c.args.assignment.now) p)) in
    elim c.if-not-reading.branch [
      | then-not-reading w ↦ next _ (ap (λ x. x.now) w.kept-is ∙ w.shorter-best.ensures) (kept_shorter c.args.row.now c.args.assignment.now clause rest (sym (told-joined-reading c) ∙ w.if-not-reading.true) c.loop-from.kept.now) (w.size-is ∙ w.unassigned_in-size-then-not-reading.ensures ∙ ap (unassigned_in c.args.assignment.now) w.shorter-best.ensures)
      | else-not-reading w ↦ next c.loop-from.kept.now (ap (λ x. x.now) w.kept-is) (kept_other c.args.row.now c.args.assignment.now clause rest (sym (told-joined-reading c) ∙ w.if-not-reading.false) c.loop-from.kept.now) (w.size-is ∙ c.loop-from.invariant.1)
    ]
