-- `walk_pick::pick_branch` meets its contract, by whether the limit is spent.
use Rattle.std.specs.Prelude.{Option}
use mathlib.Core.Path.{◌≡◌, ap, ◌∙◌}
use mathlib.Core.List.{List}
use Prim.Native.Nat.{ℕ}
use native.Mathlib.Omega.{arith}
use lib.ListN.{length}
use Rattle.formula.specs.Formula.{clauses}
use Rattle.walk_weighing.specs.Weights.{WeighableList, Totals}
use Rattle.walk.specs.Branching.{branching_variable}
use Rattle.walk_pick.specs.BranchLaws.{totals_branch, totals_scorable, sound_weighable}
use Rattle.walk_pick.specs.Pick.{branch_on, pick_below}
use borrow.Author.Rules.{rules}
use Rattle.walk_pick.proofs.pick_branch.Goals as goal

-- a sound list can be weighed with the lent numbers
weighable-after-weigh_list-arg-2-1 : (c : goal.After-weigh_list-arg-2-1) → WeighableList (length c.args.a.now) c.args.rules.now c.args.weights.now
weighable-after-weigh_list-arg-2-1 c = sound_weighable (length c.args.a.now) c.args.rules.now c.args.weights.now c.requires.broken_value.1 c.requires.a_in_bounds

pub weigh_list-requires : goal.weigh_list-requires
weigh_list-requires c = record { weighable_list = weighable-after-weigh_list-arg-2-1 c; located = c.requires.located }

-- a sound list can be weighed with the lent numbers
weighable-after-slice_known-4-1 : (c : goal.After-slice_known-4-1) → WeighableList (length c.args.a.now) c.args.rules.now c.args.weights.now
weighable-after-slice_known-4-1 c = sound_weighable (length c.args.a.now) c.args.rules.now c.args.weights.now c.requires.broken_value.1 c.requires.a_in_bounds

-- the weights that the weighing leaves; below the limit it does not stop
module _ (c : goal.After-slice_known-4-1) where
  abbrev weights_then-after-slice_known-4-1 : List ℕ
  weights_then-after-slice_known-4-1 = c.weigh_list.new.weights

  weights_kept-after-slice_known-4-1 : length weights_then-after-slice_known-4-1 ≡ length c.args.weights.now
  weights_kept-after-slice_known-4-1 = c.weigh_list.auto.weights

  totals-after-slice_known-4-1 : Totals c.args.row.now c.args.a.now c.fewest_opposed-size.result (clauses c.args.rules.now) weights_then-after-slice_known-4-1
  totals-after-slice_known-4-1 = c.weigh_list.ensures.weighed c.weigh_list.ensures.dead

pub best_branch-requires : goal.best_branch-requires
best_branch-requires c =
    totals_scorable c.args.row.now c.args.a.now c.fewest_opposed-size.result c.args.rules.now c.args.weights.now (weights_then-after-slice_known-4-1 c) (weighable-after-slice_known-4-1 c) (weights_kept-after-slice_known-4-1 c) (totals-after-slice_known-4-1 c)

-- the weights that the weighing leaves; below the limit it does not stop
module _ (c : goal.After-best_branch) where
  abbrev weights_then-after-best_branch : List ℕ
  weights_then-after-best_branch = c.weigh_list.new.weights

  weights_kept-after-best_branch : length weights_then-after-best_branch ≡ length c.args.weights.now
  weights_kept-after-best_branch = c.weigh_list.auto.weights

  totals-after-best_branch : Totals c.args.row.now c.args.a.now c.fewest_opposed-size.result (clauses c.args.rules.now) weights_then-after-best_branch
  totals-after-best_branch = c.weigh_list.ensures.weighed c.weigh_list.ensures.dead

pub returns : goal.returns
returns c =
    let f = clauses c.args.rules.now in record {
      pick = c.best_branch.ensures
          ∙ ap (branch_on c.args.row.now c.fewest_opposed-size.result) (totals_branch c.args.row.now c.args.a.now c.fewest_opposed-size.result f (weights_then-after-best_branch c) (totals-after-best_branch c) c.fewest_opposed-size.ensures)
          ∙ ap (λ (o : Option ℕ). branch_on c.args.row.now o (branching_variable c.args.row.now c.args.a.now f)) c.fewest_opposed-size.ensures
          ∙ pick_below f c.args.row.now c.args.d c.args.a.now c.args.broken c.requires.broken_value.0 (λ e. omega (arith, c.if-broken-d.false));
      witness = c.weigh_list.ensures.witness;
    }
