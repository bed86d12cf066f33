-- The branching variable: it is an unassigned variable of the formula, and there is one wherever steps 1 and 2 decide nothing.
use Rattle.std.specs.Prelude.{◌≡◌, true, false, ℕ, min, ◌≤◌, ℤ, Option, None, Some}
use mathlib.Core.List.{List, Memᴰ}
use Rattle.literal.specs.Literal.{variable}
use Rattle.formula.specs.Formula.{satisfied}
use Rattle.walk.specs.State.{is_unassigned, unassigned_in}
use Rattle.walk.specs.Branching.{is_opposed, fewest, is_source}

-- the smaller of two numbers, where there are two
abbrev pub fewer : Option ℕ → Option ℕ → Option ℕ
fewer None k = k
fewer (Some j) None = Some j
fewer (Some j) (Some k) = Some (min j k)

-- the first kind of rule, if there is one: some opposed clause has so few, and none has fewer
pub record Fewest (row a : List ℕ) (f : List (List ℤ)) (k : ℕ) : Type 0 where
  pub attained : (c : List ℤ) × Memᴰ c f × (is_opposed row a c ≡ true) × (unassigned_in a c ≡ k)
  pub below : (c : List ℤ) → Memᴰ c f → is_opposed row a c ≡ true → k ≤ unassigned_in a c

abbrev pub IsFewest : List ℕ → List ℕ → List (List ℤ) → Option ℕ → Type 0
IsFewest row a f None = (c : List ℤ) → Memᴰ c f → is_opposed row a c ≡ false
IsFewest row a f (Some k) = Fewest row a f k

-- and every candidate comes from one
pub record Candidate (row a : List ℕ) (f : List (List ℤ)) (v : ℕ) : Type 0 where
  pub clause : List ℤ
  pub listed : Memᴰ clause f
  pub source : is_source row a (fewest row a f) clause ≡ true
  pub literal : ℤ
  pub stands : Memᴰ literal clause
  pub named : variable literal ≡ v
  pub unset : is_unassigned a literal ≡ true

-- some clause of a formula is open
abbrev pub SomeOpen : List ℕ → List (List ℤ) → Type 0
SomeOpen a f = (c : List ℤ) × Memᴰ c f × (satisfied a c ≡ false)
