-- Opposed clauses, literal by literal.
use Rattle.std.specs.Prelude.{Bool, not, ◌&&◌, List, ℕ, ℤ}
use Rattle.literal.specs.Literal.{holds}
use Rattle.walk.specs.Branching.{assigned_or_against}

-- a literal of an opposed clause
abbrev pub opposes : List ℕ → List ℕ → ℤ → Bool
opposes row a x = not (holds a x) && assigned_or_against row a x

-- and one that spares a clause from being opposed
abbrev pub spares : List ℕ → List ℕ → ℤ → Bool
spares row a x = not (opposes row a x)
