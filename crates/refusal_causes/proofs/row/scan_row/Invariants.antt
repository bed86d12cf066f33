-- `refusal_causes::row::scan_row` meets its contract. The loop's invariant: the bytes passed are good, and their wishes are counted and weighed.
use Rattle.std.proofs.Common.{◌≡◌, List, ℕ, ◌+◌, ◌≤◌, length, drop}
use Rattle.wish.specs.Wish as W
use Rattle.limits.specs.Limits.{max_wishes}
use Rattle.refusal_causes.specs.Sound.{bad_wish}
use Rattle.refusal_causes.proofs.row.scan_row.Given as goal

abbrev pub Passed : List ℕ → ℕ → ℕ → ℕ → Type 0
Passed row wishes weight i =
    (i ≤ length row)
    × (weight ≤ max_wishes)
    × (bad_wish 0 0 row ≡ bad_wish weight i (drop i row))
    × (wishes + W.wish_count (drop i row) ≡ W.wish_count row)
    × (weight + W.total_weight (drop i row) ≡ W.total_weight row)

abbrev pub invariant-loop-place : goal.invariant-loop-place
invariant-loop-place l = Passed l.row l.wishes l.weight l.place
