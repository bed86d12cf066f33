-- When one assignment extends another, and what stays as it is then: what holds, what is falsified, and the wishes that are broken.
use Rattle.std.specs.Prelude.{◌≡◌, ℕ, get_or}
use mathlib.Core.List.{List}

-- b extends a if it has a's value wherever a has one
pub record Extends (b a : List ℕ) : Type 0 where
  pub keeps : (i : ℕ) → (get_or a i 2 ≡ 2 → ⊥) → get_or b i 2 ≡ get_or a i 2
