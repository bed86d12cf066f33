-- The leaves of a wish row.
use Rattle.std.specs.Prelude.{List, [], ◌∷◌, ℕ, ◌≤◌, ◌<◌, ℤ}
use Rattle.literal.specs.Literal.{variable}
use Rattle.totalizer.specs.Totalizer.{leaves}

-- literals whose variables rise, above lo and up to hi: those of leaves do while a wish has one leaf
abbrev pub RisingLiterals : ℕ → ℕ → List ℤ → Type 0
RisingLiterals lo hi [] = lo ≤ hi
RisingLiterals lo hi (x ∷ l) = (lo < variable x) × RisingLiterals (variable x) hi l
