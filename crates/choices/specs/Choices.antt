-- What stands in `choices`, `permitted` and `within` of crate distance, and what `nearest` gives, said of single choices.
use Rattle.std.specs.Prelude.{◌≡◌, true, ℕ, ◌≤◌, ◌<◌, ℤ, length, get_or, None, Some}
use mathlib.Core.List.{List}
use Rattle.formula.specs.Formula.{models}
use Rattle.distance.specs.Distance.{disagreement}

-- "A choice has n bytes, 0 or 1."
pub record Choice (n : ℕ) (a : List ℕ) : Type 0 where
  pub size : length a ≡ n
  pub bytes : (i : ℕ) → get_or a i 0 < 2

-- a choice that meets all rules
pub record Model (n : ℕ) (f : List (List ℤ)) (a : List ℕ) : Type 0 where
  pub choice : Choice n a
  pub satisfies : models a f ≡ true

-- the least number of broken wishes with a choice: some model breaks so many, and none breaks fewer
pub record Nearest (n : ℕ) (f : List (List ℤ)) (row : List ℕ) (k : ℕ) : Type 0 where
  pub attained : (a : List ℕ) × Model n f a × (disagreement row a ≡ k)
  pub below : (a : List ℕ) → Model n f a → k ≤ disagreement row a
