-- `walk_pick::pick_at_limit` meets its contract: the weighing tells whether some clause is opposed, and where none is, the best variable is the branching variable.
use Rattle.std.specs.Prelude.{None}
use mathlib.Core.Path.{◌≡◌, sym, ap, ◌∙◌}
use mathlib.Core.List.{List}
use Prim.Native.Nat.{ℕ}
use lib.ListN.{length}
use Rattle.formula.specs.Formula.{clauses}
use Rattle.walk_weighing.specs.Weights.{WeighableList}
use Rattle.walk_pick.specs.BranchLaws.{totals_branch, totals_scorable, sound_weighable}
use Rattle.walk_pick.specs.Pick.{branch_on, none_fewest, spent_branch}
use borrow.Author.Rules.{rules}
use Rattle.walk_pick.proofs.pick_at_limit.Goals as goal

-- a sound list can be weighed with the lent numbers
weighable-after-weigh_list-arg-2-1 : (c : goal.After-weigh_list-arg-2-1) → WeighableList (length c.args.a.now) c.args.rules.now c.args.weights.now
weighable-after-weigh_list-arg-2-1 c = sound_weighable (length c.args.a.now) c.args.rules.now c.args.weights.now c.requires.sound_list c.requires.a_in_bounds

pub weigh_list-requires : goal.weigh_list-requires
weigh_list-requires c = record { weighable_list = weighable-after-weigh_list-arg-2-1 c; located = c.requires.located }

-- a sound list can be weighed with the lent numbers
weighable-else-weigh_list : (c : goal.Else-weigh_list) → WeighableList (length c.args.a.now) c.args.rules.now c.args.weights.now
weighable-else-weigh_list c = sound_weighable (length c.args.a.now) c.args.rules.now c.args.weights.now c.requires.sound_list c.requires.a_in_bounds

-- the weights that the weighing leaves
module _ (c : goal.Else-weigh_list) where
  abbrev weights_then-else-weigh_list : List ℕ
  weights_then-else-weigh_list = c.weigh_list.new.weights

  weights_kept-else-weigh_list : length weights_then-else-weigh_list ≡ length c.args.weights.now
  weights_kept-else-weigh_list = c.weigh_list.auto.weights

pub best_branch-requires : goal.best_branch-requires
best_branch-requires c =
    totals_scorable c.args.row.now c.args.a.now None c.args.rules.now c.args.weights.now (weights_then-else-weigh_list c) (weighable-else-weigh_list c) (weights_kept-else-weigh_list c) (c.weigh_list.ensures.weighed c.if-weigh_list.false)

-- the weights that the weighing leaves
module _ (c : goal.After-best_branch) where
  abbrev weights_then-after-best_branch : List ℕ
  weights_then-after-best_branch = c.weigh_list.new.weights

  weights_kept-after-best_branch : length weights_then-after-best_branch ≡ length c.args.weights.now
  weights_kept-after-best_branch = c.weigh_list.auto.weights

pub returns : goal.returns
returns c =
    let f = clauses c.args.rules.now in
    let none-opposed = sym c.weigh_list.ensures.dead ∙ c.if-weigh_list.false in record {
      pick = c.best_branch.ensures
          ∙ ap (branch_on c.args.row.now None) (totals_branch c.args.row.now c.args.a.now None f (weights_then-after-best_branch c) (c.weigh_list.ensures.weighed c.if-weigh_list.false) (none_fewest f c.args.row.now c.args.a.now none-opposed))
          ∙ spent_branch f c.args.row.now c.args.a.now none-opposed;
      witness = c.weigh_list.ensures.witness;
    }
