-- Clauses that ask for something: open ones with fewer than two unassigned literals. Making a literal hold brings up only such that hold the opposite literal.
use Rattle.std.specs.Prelude.{◌≡◌, false, ℕ, ◌-◌, ◌<◌, ℤ}
use mathlib.Core.List.{List, Memᴰ}
use Rattle.formula.specs.Formula.{satisfied}
use Rattle.walk.specs.State.{unassigned_in}

pub record Due (a : List ℕ) (c : List ℤ) : Type 0 where
  pub unmet : satisfied a c ≡ false
  pub short : unassigned_in a c < 2

-- no clause of a formula does
abbrev pub NoneDue : List (List ℤ) → List ℕ → Type 0
NoneDue f a = (c : List ℤ) → Memᴰ c f → Due a c → ⊥
