-- Pseudo-Boolean constraints: linear inequalities with whole coefficients over variables that are 0 or 1, as solvers of the format OPB take them.
use mathlib.Core.List.{List, [], ◌∷◌, Memᴰ}
use Rattle.std.specs.Prelude.{ℕ, ℤ, pos, ◌+ℤ◌, ◌*ℤ◌, ◌≤ℤ◌}
use Rattle.literal.specs.Literal.{value}

-- a term of a sum: a coefficient, and the variable that it multiplies
pub record Term : Type 0 where
  pub coefficient : ℤ
  pub variable : ℕ

-- the sum of some terms is at least a bound
pub record Constraint : Type 0 where
  pub terms : List Term
  pub bound : ℤ

-- the sum of some terms for a choice, which gives each variable its value, 0 off or 1 on
abbrev pub sum : List ℕ → List Term → ℤ
sum a [] = pos 0
sum a (t ∷ terms) = t.coefficient *ℤ pos (value a t.variable) +ℤ sum a terms

abbrev pub Satisfies : List ℕ → Constraint → Type 0
Satisfies a c = c.bound ≤ℤ sum a c.terms

-- a choice satisfies each of several constraints
abbrev pub SatisfiesAll : List ℕ → List Constraint → Type 0
SatisfiesAll a constraints = (c : Constraint) → Memᴰ c constraints → Satisfies a c
