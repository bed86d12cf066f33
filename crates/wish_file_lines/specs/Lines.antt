-- A line of numbers, and its numbers one by one.
use Rattle.std.specs.Prelude.{Bool, true, false, List, ℕ, Option, None, Some, unwrap_or}
use Rattle.wish_file.specs.Layout.{column_number, line_numbers}

abbrev pub present : Option (List ℕ) → Bool
present None = false
present (Some vs) = true

-- whether some bytes begin with a line of k columns
abbrev pub is_line : ℕ → List ℕ → Bool
is_line k s = present (line_numbers k s)

-- the number in the column with which some bytes begin, 0 where there is none
abbrev pub field : List ℕ → ℕ
field s = unwrap_or (column_number s) 0
