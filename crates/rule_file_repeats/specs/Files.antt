-- What reading stores of the rules of a file (document 02, L3).
use Rattle.std.specs.Prelude.{false, List, [], map, ℕ, ℤ, drop, Option, None, Some}
use Rattle.rule_file.specs.Accepted.{past_header}
use Rattle.rule_file.specs.Format.{past_comments, Header, header, element, reading}

-- the numbers of all tokens past a header, repeats included
abbrev pub numbers_past : List ℕ → Option Header → List ℤ
numbers_past file None = []
numbers_past file (Some h) = map element (past_header file h.size)

-- those of a file, past the header that reading finds
abbrev pub numbers_of : List ℕ → List ℤ
numbers_of file = numbers_past file (header (drop (past_comments false 0 file) file))
