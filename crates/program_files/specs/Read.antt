-- What the reading of both files answers, with what it leaves in the lent list and row.
use Rattle.std.specs.Prelude.{List, ℕ, ◌≤◌, ℤ, take, Result, Ok, Err}
use Rattle.std.proofs.Common.{le_trans}
use Rattle.program_files.specs.Problem.{Problem, silent, refuses, gives}
use Rattle.program_files.specs.declared.FileError.{FileError}
use Rattle.program_files.specs.declared.FileError.TheVariants.{TooLong, Refused}
use Rattle.program_files.specs.declared.Sizes.{Sizes}

-- the problem of an answer, whose list and row stand at the front of what was lent
abbrev pub problem_of : Result Sizes FileError → List ℤ → List ℕ → Problem
problem_of (Err TooLong) rules row = silent
problem_of (Err (Refused r)) rules row = refuses r
problem_of (Ok s) rules row = gives s.variables (take s.length rules) (take s.wished row) s.limit

-- the list and the row are no longer than so much
abbrev pub Sized : Result Sizes FileError → ℕ → ℕ → Type 0
Sized (Err e) most wide = Unit {0}
Sized (Ok s) most wide = (s.length ≤ most) × (s.wished ≤ wide)

pub sized_more : (r : Result Sizes FileError) (few most wide : ℕ) → few ≤ most → Sized r few wide → Sized r most wide
sized_more (Err e) few most wide h s = tt
sized_more (Ok s) few most wide h (a, b) = (le_trans a h, b)
