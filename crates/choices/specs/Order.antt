-- The order of choices, that `choices` of crate distance lists them in it, and what it is to be the first.
use Rattle.std.specs.Prelude.{◌≡◌, ◌⊎◌, ℕ, ◌≤◌, ◌<◌, ℤ}
use mathlib.Core.List.{List, [], ◌∷◌, Memᴰ}
use Rattle.literal.specs.Literal.{value}
use Rattle.formula.specs.Formula.{models}
use Rattle.distance.specs.Distance.{disagreement, within, nearest}
use Rattle.choices.specs.Choices.{Model}

-- "off before on, compared from setting 1 upward" (document 02, L5): a comes before b if, where they first differ, a is off and b is on
pub record Before (a b : List ℕ) : Type 0 where
  pub at : ℕ
  pub off : value a at ≡ 0
  pub on : value b at ≡ 1
  pub same : (v : ℕ) → v < at → value a v ≡ value b v

-- the first of the models within a limit: all others within it come later
pub record FirstWithin (n : ℕ) (f : List (List ℤ)) (row : List ℕ) (d : ℕ) (a : List ℕ) : Type 0 where
  pub model : Model n f a
  pub limited : disagreement row a ≤ d
  pub first : (b : List ℕ) → Model n f b → disagreement row b ≤ d → (a ≡ b) ⊎ Before a b

-- the first nearest model: no model breaks fewer wishes, and all others that break as few come later
pub record FirstNearest (n : ℕ) (f : List (List ℤ)) (row : List ℕ) (a : List ℕ) : Type 0 where
  pub model : Model n f a
  pub below : (b : List ℕ) → Model n f b → disagreement row a ≤ disagreement row b
  pub first : (b : List ℕ) → Model n f b → disagreement row b ≡ disagreement row a → (a ≡ b) ⊎ Before a b

-- each element of a list comes before all that follow it
abbrev pub Rising : List (List ℕ) → Type 0
Rising [] = Unit {0}
Rising (a ∷ l) = ((b : List ℕ) → Memᴰ b l → Before a b) × Rising l
