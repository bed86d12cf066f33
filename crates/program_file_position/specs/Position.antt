-- The line and the column of a place in a file, both from 1 (document 01's own "Places start at 0"). A line ends with its line feed, as in both files (document 01, "The rule file": comment lines "run to a line feed or the end of the file"), and columns count bytes.
use Rattle.std.specs.Prelude.{cond, List, [], ◌∷◌, ℕ, zero, suc, eqb}
use Rattle.program_file_position.specs.declared.Position.{Position}

abbrev pub position : ℕ → ℕ → Position
position line column = record { line = line; column = column }

-- from a line and a column, so many bytes on; the bytes that are left may be fewer
abbrev pub position_from : ℕ → ℕ → ℕ → List ℕ → Position
position_from line column zero s = position line column
position_from line column (suc k) [] = position line column
position_from line column (suc k) (b ∷ s) = cond (eqb b 10) (position_from (suc line) 1 k s) (position_from line (suc column) k s)

-- a place of a file; one past the file's end is as good as the end
abbrev pub position_at : List ℕ → ℕ → Position
position_at file place = position_from 1 1 place file
