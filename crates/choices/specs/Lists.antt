-- The members of a list: which they are by index, and what `any` and `all` of crate formula and `keep` and `least` of crate distance say of them.
use Rattle.std.specs.Prelude.{ℕ, ◌≤◌}
use mathlib.Core.List.{List, Memᴰ}
use Rattle.distance.specs.Distance.{least}

-- what it is to be the least number of a list
pub record Minimum (l : List ℕ) (k : ℕ) : Type 0 where
  pub attained : Memᴰ k l
  pub below : (j : ℕ) → Memᴰ j l → k ≤ j
