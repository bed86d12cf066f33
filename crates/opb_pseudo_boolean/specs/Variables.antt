-- The variables of a clause.
use Rattle.std.specs.Prelude.{ℕ, ◌≤◌, ◌<◌, ℤ}
use mathlib.Core.List.{List, Memᴰ}
use Rattle.literal.specs.Literal.{variable}

-- every literal of a clause has one of the variables 1 to n
abbrev pub Over : ℕ → List ℤ → Type 0
Over n c = (x : ℤ) → Memᴰ x c → (0 < variable x) × (variable x ≤ n)
