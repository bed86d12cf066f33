-- The layout of the wish file's lines (document 01, "The wish file"): "Decimal numbers right-justified in columns of 5, spaces before, no leading zeros."
use Rattle.std.specs.Prelude.{cond, List, [], ◌∷◌, ◌++◌, ℕ, zero, suc, ◌+◌, ◌*◌, eqb, take, drop, Option, None, Some}
use Rattle.decimal.specs.Decimal.{number}
use Rattle.text.specs.Text.{column}

abbrev pub column_width : ℕ
column_width = 5

-- a line: the columns of its numbers, and a line feed
abbrev pub line : List ℕ → List ℕ
line [] = 10 ∷ []
line (v ∷ vs) = column column_width v ++ line vs

-- the size of a line of k columns
abbrev pub line_size : ℕ → ℕ
line_size k = column_width * k + 1

-- what follows the spaces in front of some bytes
abbrev pub past_spaces : List ℕ → List ℕ
past_spaces [] = []
past_spaces (b ∷ w) = cond (eqb b 32) (past_spaces w) (b ∷ w)

-- the number in the column with which some bytes begin, if there is one
abbrev pub column_number : List ℕ → Option ℕ
column_number s = number (past_spaces (take column_width s))

-- no more numbers where a line feed comes
abbrev pub line_end : List ℕ → Option (List ℕ)
line_end [] = None
line_end (b ∷ s) = cond (eqb b 10) (Some []) None

abbrev pub joined : Option ℕ → Option (List ℕ) → Option (List ℕ)
joined None vs = None
joined (Some v) None = None
joined (Some v) (Some vs) = Some (v ∷ vs)

-- the numbers of the line of k columns with which some bytes begin, if it is one; what is cut has no line feed in its place
abbrev pub line_numbers : ℕ → List ℕ → Option (List ℕ)
line_numbers zero s = line_end s
line_numbers (suc k) s = joined (column_number s) (line_numbers k (drop column_width s))
