-- Unit propagation in any order: unit clauses are taken as they come, and not the lowest numbered first.
use Rattle.std.specs.Prelude.{◌≡◌, true, false, ℕ, ℤ, Some}
use mathlib.Core.List.{List, [], ◌∷◌, Memᴰ}
use Rattle.walk.specs.State.{find, unassigned, satisfy, is_unassigned, is_unit}

-- "an open rule has exactly one unsettled entry": x is that entry, of some unit clause of f
pub record UnitOf (f : List (List ℤ)) (a : List ℕ) (x : ℤ) : Type 0 where
  pub clause : List ℤ
  pub stands : Memᴰ clause f
  pub unit : is_unit a clause ≡ true
  pub literal : find (is_unassigned a) clause ≡ Some x

-- the literals xs are made to hold one after the other, each the unassigned one of some unit clause; this leads from a to b
abbrev pub Steps : List (List ℤ) → List ℕ → List ℤ → List ℕ → Type 0
Steps f a [] b = a ≡ b
Steps f a (x ∷ xs) b = UnitOf f a x × Steps f (satisfy a x) xs b

-- no clause of f is unit
abbrev pub Quiet : List (List ℤ) → List ℕ → Type 0
Quiet f a = (c : List ℤ) → Memᴰ c f → is_unit a c ≡ false
