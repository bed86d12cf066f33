-- `walk_weighing::weigh_clause` meets its contract, by what its callees ensure.
use mathlib.Core.Path.{◌≡◌, ap, ◌∙◌}
use mathlib.Core.Bool.{◌||◌, cond}
use mathlib.Core.List.{List}
use Prim.Native.Nat.{ℕ, ◌+◌, ◌*◌, ◌<◌}
use native.Mathlib.Omega.{arith}
use lib.IntN.{pos}
use lib.ListN.{length, get_or}
use Rattle.formula.specs.Formula.{any}
use Rattle.literal.specs.Slots.{is_at}
use Rattle.walk.specs.Branching.{mentions}
use Rattle.walk_weighing.specs.ClauseLaws.{power_top, marked_source, weighed_open}
use Rattle.walk_weighing.specs.PartLaws as parts
use Rattle.walk_weighing.specs.Weights.{weights_of, marks_of, marks_lent, with_weights, with_marks, is_marked}
use Rattle.walk_weighing.proofs.clause.weigh_clause.Goals as goal

-- the call: n variables, and what is lent for them
module _ (s : goal.After-add_weight-arg-1) where
  abbrev n-after-add_weight-arg-1 : ℕ
  n-after-add_weight-arg-1 = length s.args.assignment.now

  wide-after-add_weight-arg-1 : 3 * n-after-add_weight-arg-1 + 2 < length s.args.weights.now
  wide-after-add_weight-arg-1 = s.requires.weighable.wide

pub add_weight-requires : goal.add_weight-requires
add_weight-requires c =
    record { inside = λ k h. parts.slot_inside (n-after-add_weight-arg-1 c) c.args.weights.now (wide-after-add_weight-arg-1 c) (get_or c.args.clause.now k (pos 0)) (c.requires.weighable.within k h); once = c.requires.weighable.once; fits = λ i. omega (arith, c.requires.weighable.fits i, c.clause_weight.ensures, power_top c.args.count) }

-- the call: n variables, and what is lent for them
module _ (s : goal.After-slice_known-then-is_source-1) where
  abbrev n-after-slice_known-then-is_source-1 : ℕ
  n-after-slice_known-then-is_source-1 = length s.args.assignment.now

  wide-after-slice_known-then-is_source-1 : 3 * n-after-slice_known-then-is_source-1 + 2 < length s.args.weights.now
  wide-after-slice_known-then-is_source-1 = s.requires.weighable.wide

-- the weights written anew: the part, and the whole
module _ (c : goal.After-slice_known-then-is_source-1) where
  abbrev part : List ℕ
  part = c.add_weight.new.weights

  same : length part ≡ length (weights_of (n-after-slice_known-then-is_source-1 c) c.args.weights.now)
  same = c.add_weight.auto.weights

  abbrev summed : List ℕ
  summed = with_weights (n-after-slice_known-then-is_source-1 c) c.args.weights.now part

  summed_long : length summed ≡ length c.args.weights.now
  summed_long = parts.weights_long (n-after-slice_known-then-is_source-1 c) c.args.weights.now (wide-after-slice_known-then-is_source-1 c) part same

  summed_wide : 3 * n-after-slice_known-then-is_source-1 c + 2 < length summed
  summed_wide = omega (arith, wide-after-slice_known-then-is_source-1 c, summed_long)

  kept : marks_of (n-after-slice_known-then-is_source-1 c) summed ≡ marks_of (n-after-slice_known-then-is_source-1 c) c.args.weights.now
  kept = parts.marks_left (n-after-slice_known-then-is_source-1 c) c.args.weights.now (wide-after-slice_known-then-is_source-1 c) part same

  sums : (i : ℕ) → get_or (weights_of (n-after-slice_known-then-is_source-1 c) summed) i 0 ≡ get_or (weights_of (n-after-slice_known-then-is_source-1 c) c.args.weights.now) i 0 + cond (any (is_at i) c.args.clause.now) c.clause_weight.result 0
  sums i = ap (λ (l : List ℕ). get_or l i 0) (parts.weights_new (n-after-slice_known-then-is_source-1 c) c.args.weights.now (wide-after-slice_known-then-is_source-1 c) part same) ∙ c.add_weight.ensures i

-- the marks written anew
module _ (c : goal.After-slice_known-then-is_source-1) where
  abbrev marks : List ℕ
  marks = c.mark_variables.new.marks

  -- they are as long as the part lent
  same_marks : length marks ≡ length (marks_lent (n-after-slice_known-then-is_source-1 c) (summed c))
  same_marks = c.mark_variables.auto.marks

  abbrev all : List ℕ
  all = with_marks (n-after-slice_known-then-is_source-1 c) (summed c) marks

  all_long : length all ≡ length c.args.weights.now
  all_long = parts.marks_long (n-after-slice_known-then-is_source-1 c) (summed c) (summed_wide c) marks same_marks ∙ summed_long c

  all_sums : weights_of (n-after-slice_known-then-is_source-1 c) all ≡ weights_of (n-after-slice_known-then-is_source-1 c) (summed c)
  all_sums = parts.weights_left (n-after-slice_known-then-is_source-1 c) (summed c) (summed_wide c) marks same_marks

  all_marks : (v : ℕ) → is_marked (marks_of (n-after-slice_known-then-is_source-1 c) all) v ≡ is_marked (marks_of (n-after-slice_known-then-is_source-1 c) c.args.weights.now) v || mentions v c.args.clause.now
  all_marks v =
      ap (λ (l : List ℕ). is_marked l v) (parts.marks_new (n-after-slice_known-then-is_source-1 c) (summed c) (summed_wide c) marks same_marks)
      ∙ c.mark_variables.ensures v
      ∙ ap (λ (l : List ℕ). is_marked l v || mentions v c.args.clause.now) (parts.marks_whole (n-after-slice_known-then-is_source-1 c) (summed c) (summed_wide c) ∙ kept c)

pub returns-then-is_source : goal.returns-then-is_source
returns-then-is_source c =
    let size = c.args.fewest in
    weighed_open c.args.row.now c.args.assignment.now c.args.clause.now c.args.count c.clause_weight.result c.requires.clause_value.0 c.requires.clause_value.1 c.clause_weight.ensures size c.args.weights.now (all c)
    (λ i. ap (λ (l : List ℕ). get_or l i 0) (all_sums c) ∙ sums c i)
    (marked_source c.args.row.now c.args.assignment.now c.args.clause.now size c.is_source.result c.is_source.ensures c.if-is_source.true (marks_of (n-after-slice_known-then-is_source-1 c) c.args.weights.now) (marks_of (n-after-slice_known-then-is_source-1 c) (all c)) (all_marks c))
