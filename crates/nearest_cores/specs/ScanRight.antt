-- What a scan finds: disjoint cores of the state, whose least weights and what the state breaks make up the bound; and what it leaves stands in none of them.
use Rattle.std.specs.Prelude.{◌≡◌, true, ℕ, ◌+◌, ℤ}
use mathlib.Core.List.{List, Memᴰ}
use Rattle.distance.specs.Distance.{disagreement}
use Rattle.nearest_cores.specs.Cores.{Scan, is_left, scan}
use Rattle.nearest_cores.specs.Facts.{least_sum, variables_of, Cores}

-- what a scan has found: disjoint cores of the state b, which make up its bound and hold nothing that is left
pub record Found (n : ℕ) (f : List (List ℤ)) (row b : List ℕ) (s : Scan) : Type 0 where
  pub cores : List (List ℕ)
  pub are_cores : Cores n f row b cores
  pub sum : s.bound ≡ disagreement row b + least_sum row cores
  pub apart : (v : ℕ) → is_left s.taken v ≡ true → Memᴰ v (variables_of cores) → ⊥
