-- The root of a search: no variable is assigned, and nothing is counted.
use Rattle.std.specs.Prelude.{List, ℕ, ℤ, replicate, Result}
use Rattle.walk_tally.specs.declared.Tally.{Tally}
use Rattle.walk_propagation.specs.declared.propagated.DeadEnd.{DeadEnd}
use Rattle.walk_propagation.specs.Propagated.{PropagatedBy}

abbrev pub root : Tally
root = record { settled = 0; broken = 0 }

-- what propagation from there comes to, with n variables and the limit d: it leaves a and trail'
abbrev pub SettledRoot : ℕ → List (List ℤ) → List ℕ → ℕ → List ℕ → List ℕ → List ℕ → Result Tally DeadEnd → Type 0
SettledRoot n f row d trail a trail' r = PropagatedBy n f row d root (replicate n 2) trail a trail' r
