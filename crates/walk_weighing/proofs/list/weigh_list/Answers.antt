use mathlib.Core.Path.{◌≡◌, sym, ap, subst, ◌∙◌}
use mathlib.Core.Bool.{false, ◌&&◌}
use mathlib.Core.List.{List, []}
use Prim.Native.Nat.{ℕ, ◌+◌, ◌-◌, ◌<◌}
use native.Mathlib.Omega.{arith}
use lib.IntN.{ℤ}
use lib.ListN.{length, get_or}
use Rattle.formula.specs.Formula.{clauses}
use Rattle.walk.specs.Branching.{is_opposed}
use Rattle.walk_weighing.specs.Weights.{Weighable, Weighed, WeighableList}
use Rattle.walk_weighing.specs.ListLaws.{weighing_clause, weighing_next, weighable_kept}
use Rattle.walk_weighing.proofs.list.weigh_list.Goals as goal

-- its number is one more than k
before_it : (k : ℕ) → k + 1 - 1 ≡ k
before_it k = omega arith

-- before the loop: the list can be weighed with the cleared numbers
module _ (c : goal.After-weigh_at-arg-in-loop-k-1) where
  abbrev zeros-after-weigh_at-arg-in-loop-k-1 : List ℕ
  zeros-after-weigh_at-arg-in-loop-k-1 = c.fill.new.self

  zeros_kept-after-weigh_at-arg-in-loop-k-1 : length zeros-after-weigh_at-arg-in-loop-k-1 ≡ length c.args.weights.now
  zeros_kept-after-weigh_at-arg-in-loop-k-1 = c.fill.auto.self

  weighable-after-weigh_at-arg-in-loop-k-1 : WeighableList (length c.args.assignment.now) c.args.rules.now zeros-after-weigh_at-arg-in-loop-k-1
  weighable-after-weigh_at-arg-in-loop-k-1 = weighable_kept (length c.args.assignment.now) c.args.rules.now c.args.weights.now zeros-after-weigh_at-arg-in-loop-k-1 c.requires.weighable_list zeros_kept-after-weigh_at-arg-in-loop-k-1

-- at the loop's head
module _ (c : goal.After-weigh_at-arg-in-loop-k-1) where
  abbrev clause-after-weigh_at-arg-in-loop-k-1 : ℕ → List ℤ
  clause-after-weigh_at-arg-in-loop-k-1 j = get_or (clauses c.args.rules.now) j []

  -- there is a clause where the loop goes on
  more-after-weigh_at-arg-in-loop-k-1 : c.loop-k.k < length c.loop-k.witnesses → c.loop-k.k < length (clauses c.args.rules.now)
  more-after-weigh_at-arg-in-loop-k-1 h = omega (arith, h, c.loop-k.invariant.known.many)

  -- it can be weighed
  able-after-weigh_at-arg-in-loop-k-1 : c.loop-k.k < length c.loop-k.witnesses → Weighable (length c.args.assignment.now) (clause-after-weigh_at-arg-in-loop-k-1 c.loop-k.k) c.loop-k.weights
  able-after-weigh_at-arg-in-loop-k-1 h = weighing_clause c.args.row.now c.args.assignment.now c.args.fewest c.args.spent c.args.rules.now (zeros-after-weigh_at-arg-in-loop-k-1 c) (weighable-after-weigh_at-arg-in-loop-k-1 c) c.loop-k.witnesses c.loop-k.weights c.loop-k.k c.loop-k.invariant (more-after-weigh_at-arg-in-loop-k-1 h)

pub weigh_at-requires : goal.weigh_at-requires
weigh_at-requires c = record { located = (c.requires.located.0, c.loop-k.invariant.known, omega arith, omega (arith, more-after-weigh_at-arg-in-loop-k-1 c (omega arith))); weighable = subst (λ (j : ℕ). Weighable (length c.args.assignment.now) (clause-after-weigh_at-arg-in-loop-k-1 c j) c.loop-k.weights) (sym (before_it c.loop-k.k)) (able-after-weigh_at-arg-in-loop-k-1 c (omega arith)) }

-- what a turn leaves in the lent slices: the witnesses and the weights
module _ (c : goal.Else-weigh_at) where
  abbrev witnesses_then : List ℕ
  witnesses_then = c.weigh_at.new.witnesses

  abbrev weights_then : List ℕ
  weights_then = c.weigh_at.new.weights

  weights_kept : length weights_then ≡ length c.loop-k.weights
  weights_kept = c.weigh_at.auto.weights

-- before the loop: the list can be weighed with the cleared numbers
module _ (c : goal.Else-weigh_at) where
  abbrev zeros-else-weigh_at : List ℕ
  zeros-else-weigh_at = c.fill.new.self

  zeros_kept-else-weigh_at : length zeros-else-weigh_at ≡ length c.args.weights.now
  zeros_kept-else-weigh_at = c.fill.auto.self

  weighable-else-weigh_at : WeighableList (length c.args.assignment.now) c.args.rules.now zeros-else-weigh_at
  weighable-else-weigh_at = weighable_kept (length c.args.assignment.now) c.args.rules.now c.args.weights.now zeros-else-weigh_at c.requires.weighable_list zeros_kept-else-weigh_at

-- at the loop's head
module _ (c : goal.Else-weigh_at) where
  abbrev clause-else-weigh_at : ℕ → List ℤ
  clause-else-weigh_at j = get_or (clauses c.args.rules.now) j []

  -- there is a clause where the loop goes on
  more-else-weigh_at : c.loop-k.k < length c.loop-k.witnesses → c.loop-k.k < length (clauses c.args.rules.now)
  more-else-weigh_at h = omega (arith, h, c.loop-k.invariant.known.many)

  -- it can be weighed
  able-else-weigh_at : c.loop-k.k < length c.loop-k.witnesses → Weighable (length c.args.assignment.now) (clause-else-weigh_at c.loop-k.k) c.loop-k.weights
  able-else-weigh_at h = weighing_clause c.args.row.now c.args.assignment.now c.args.fewest c.args.spent c.args.rules.now (zeros-else-weigh_at c) (weighable-else-weigh_at c) c.loop-k.witnesses c.loop-k.weights c.loop-k.k c.loop-k.invariant (more-else-weigh_at h)

-- what was told of that clause
module _ (c : goal.Else-weigh_at) where
  told_dead : c.weigh_at.result ≡ c.args.spent && is_opposed c.args.row.now c.args.assignment.now (clause-else-weigh_at c c.loop-k.k)
  told_dead = c.weigh_at.ensures.dead ∙ ap (λ (j : ℕ). c.args.spent && is_opposed c.args.row.now c.args.assignment.now (clause-else-weigh_at c j)) (before_it c.loop-k.k)

  told_weighed : c.weigh_at.result ≡ false → Weighed c.args.row.now c.args.assignment.now c.args.fewest (clause-else-weigh_at c c.loop-k.k) c.loop-k.weights (weights_then c)
  told_weighed e =
      subst (λ (j : ℕ). Weighed c.args.row.now c.args.assignment.now c.args.fewest (clause-else-weigh_at c j) c.loop-k.weights (weights_then c))
      (before_it c.loop-k.k) (c.weigh_at.ensures.weighed e)

pub loop-k-preserved : goal.loop-k-preserved
loop-k-preserved c =
    weighing_next c.args.row.now c.args.assignment.now c.args.fewest c.args.spent c.args.rules.now (zeros-else-weigh_at c) (weighable-else-weigh_at c) c.loop-k.witnesses c.loop-k.weights c.loop-k.k c.loop-k.invariant (more-else-weigh_at c (omega arith))
    (witnesses_then c) (weights_then c) c.weigh_at.ensures.witness (weights_kept c) (sym (told_dead c) ∙ c.if-weigh_at.false) (told_weighed c c.if-weigh_at.false)
