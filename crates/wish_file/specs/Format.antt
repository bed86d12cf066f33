-- The wish file (document 01, "The wish file"), as it is written and read, and the causes to refuse one ("Refusals", 8 to 10).
use Rattle.std.specs.Prelude.{Bool, cond, ◌||◌, List, [], ◌∷◌, ◌++◌, ℕ, zero, suc, ◌+◌, ◌*◌, eqb, ltb, leb, get_or, drop, Option, None, Some, unwrap_or}
use Rattle.wish.specs.Wish.{wish_count}
use Rattle.refusal.specs.declared.Refusal.{Refusal}
use Rattle.refusal.specs.Reply.{refusal, first, cause}
use Rattle.limits.specs.Limits.{max_wish_variables, max_wishes, max_limit}
use Rattle.wish_file.specs.Layout.{line, line_size, line_numbers}
use Rattle.wish_file.specs.Wishes.{Wish, wish_list, row_of}

-- "Line one: n (1 to 256), number of wishes m (at most n and at most 64), limit d (0 to 64, possibly above m), line feed."
abbrev pub header_columns : ℕ
header_columns = 3

-- "Then m lines: setting, 1 for on or 0 for off, line feed"
abbrev pub wish_columns : ℕ
wish_columns = 2

-- the numbers on a wish's line, and the wish that they give
abbrev pub fields : Wish → List ℕ
fields w = w.variable ∷ w.mark ∷ []

abbrev pub wish_of : List ℕ → Wish
wish_of vs = record { variable = get_or vs 0 0; mark = get_or vs 1 0 }

abbrev pub wish_lines : List Wish → List ℕ
wish_lines [] = []
wish_lines (w ∷ ws) = line (fields w) ++ wish_lines ws

-- the file of n variables, a wish row and a limit
abbrev pub written : ℕ → List ℕ → ℕ → List ℕ
written n row d = line (n ∷ wish_count row ∷ d ∷ []) ++ wish_lines (wish_list 1 row)

-- "The size is 16 + 11 times m bytes."
abbrev pub file_size : ℕ → ℕ
file_size m = line_size header_columns + line_size wish_columns * m

-- 9: n, m or d out of range
abbrev pub outside : ℕ → ℕ → ℕ → Bool
outside n m d = eqb n 0 || (ltb max_wish_variables n || (ltb n m || (ltb max_wishes m || ltb max_limit d)))

-- 10: "wish setting 0, above n or not rising; mark not 0 or 1". The variable before the first is 0, above which every other rises.
abbrev pub misfit : ℕ → ℕ → Wish → Bool
misfit n last w = leb w.variable last || (ltb n w.variable || ltb 1 w.mark)

-- the cause to refuse a wish line at a place, after the variable of the line before: "on a wish line 8, then 9 or 10"
abbrev pub bad_line : ℕ → ℕ → ℕ → Option (List ℕ) → Option Refusal
bad_line n last at None = Some (refusal 8 at)
bad_line n last at (Some vs) = cause (misfit n last (wish_of vs)) 10 at

-- the wish on the line with which some bytes begin
abbrev pub wish_at : List ℕ → Wish
wish_at s = wish_of (unwrap_or (line_numbers wish_columns s) [])

-- the first cause from a place on, where m wish lines and no more are to come
abbrev pub bad_lines : ℕ → ℕ → ℕ → ℕ → List ℕ → Option Refusal
bad_lines n zero last at [] = None
bad_lines n zero last at (b ∷ s) = Some (refusal 8 at)
bad_lines n (suc m) last at s =
    first
    (bad_line n last at (line_numbers wish_columns s)
    ∷ bad_lines n m (wish_at s).variable (at + line_size wish_columns) (drop (line_size wish_columns) s)
    ∷ [])

-- the wishes on the m lines with which some bytes begin
abbrev pub wishes_in : ℕ → List ℕ → List Wish
wishes_in zero s = []
wishes_in (suc m) s = wish_at s ∷ wishes_in m (drop (line_size wish_columns) s)

-- what reading a file gives: a refusal, or n, m, d and the wish row
pub data Reading : Type 0 where
  refuses : Refusal → Reading
  gives : ℕ → ℕ → ℕ → List ℕ → Reading

abbrev pub read_lines : ℕ → ℕ → ℕ → List ℕ → Option Refusal → Reading
read_lines n m d s None = gives n m d (row_of n (wishes_in m s))
read_lines n m d s (Some r) = refuses r

abbrev pub read_header : List ℕ → Option (List ℕ) → Reading
read_header s None = refuses (refusal 8 0)
read_header s (Some vs) =
    let n : ℕ = get_or vs 0 0 in
    let m : ℕ = get_or vs 1 0 in
    let d : ℕ = get_or vs 2 0 in
    cond (outside n m d) (refuses (refusal 9 0)) (read_lines n m d s (bad_lines n m 0 (line_size header_columns) s))

-- the reading of a file: its first line, and the lines after it
abbrev pub reading : List ℕ → Reading
reading file = read_header (drop (line_size header_columns) file) (line_numbers header_columns file)
