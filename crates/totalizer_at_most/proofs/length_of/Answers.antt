-- `totalizer_at_most::length_of` meets its contract: the formula for the size of any tree.
use mathlib.Core.Path.{◌≡◌}
use mathlib.Core.List.{List}
use Prim.Native.Nat.{ℕ}
use native.Mathlib.Omega.{arith}
use lib.IntN.{ℤ}
use lib.ListN.{length}
use Rattle.totalizer_at_most.specs.Limit.{sizes, length_limited, length_unlimited}
use Rattle.totalizer_at_most.proofs.length_of.Goals as goal

pub overflow_mul-own-3 : goal.overflow_mul-own-3
overflow_mul-own-3 c = omega (arith, sizes c.args.m c.added_by.result c.requires c.added_by.ensures)

pub overflow_add-own : goal.overflow_add-own
overflow_add-own c = omega (arith, sizes c.args.m c.added_by.result c.requires c.added_by.ensures)

pub overflow_add-result : goal.overflow_add-result
overflow_add-result c = omega (arith, sizes c.args.m c.added_by.result c.requires c.added_by.ensures)

pub returns-then-d-m : goal.returns-then-d-m
returns-then-d-m c =
    let small = sizes c.args.m c.added_by.result c.requires c.added_by.ensures in (
      λ (n : ℕ) (l : List ℤ) (long : length l ≡ c.args.m). omega (arith, small, length_limited n l c.args.m c.args.d c.added_by.result long (c.added_by.ensures l long) c.if-d-m.true),
      omega (arith, small),
    )

pub returns-else-d-m : goal.returns-else-d-m
returns-else-d-m c =
    let small = sizes c.args.m c.added_by.result c.requires c.added_by.ensures in (
      λ (n : ℕ) (l : List ℤ) (long : length l ≡ c.args.m). omega (arith, small, length_unlimited n l c.args.m c.args.d c.added_by.result long (c.added_by.ensures l long) c.if-d-m.false),
      omega (arith, small),
    )
