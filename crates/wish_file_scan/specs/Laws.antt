-- The equations by which proofs scan a wish file, line by line.
use Rattle.std.specs.Prelude.{◌≡◌, Bool, true, false, cond, List, [], ◌∷◌, ℕ, suc, ◌+◌, ◌-◌, ◌*◌, ◌≤◌, ◌<◌, length, get_or, drop, Option, None, Some, unwrap_or}
use Rattle.std.proofs.Common.{sym, ap, ap₂, ◌∙◌, arith, drop_of_length-le, drop-cons, drop-drop}
use Rattle.refusal.specs.declared.Refusal.{Refusal}
use Rattle.refusal.specs.Laws.{first_last}
use Rattle.refusal.specs.Reply.{refusal, first, cause}
use Rattle.wish_file.specs.Format.{header_columns, wish_columns, wish_of, outside, misfit, bad_line, wish_at, bad_lines, wishes_in, Reading, refuses, gives, read_lines, read_header, reading}
use Rattle.wish_file.specs.Layout.{column_width, line_size, line_numbers}
use Rattle.wish_file.specs.Wishes.{Wish, row_of}
use Rattle.wish_file_lines.specs.Laws.{line_numbers_lem, line_none, line-field, wish_fields}
use Rattle.wish_file_lines.specs.Lines.{is_line, field}

-- the lines from some bytes on, where m of them are to come
module _ (n m last at : ℕ) (s : List ℕ) (h : 0 < m) where
  abbrev later : Option Refusal
  later = bad_lines n (m - 1) (wish_at s).variable (at + line_size wish_columns) (drop (line_size wish_columns) s)

  lines_step : (o : Option Refusal) → bad_line n last at (line_numbers wish_columns s) ≡ o → bad_lines n m last at s ≡ first (o ∷ later ∷ [])
  lines_step o e =
      let more : m ≡ suc (m - 1) = omega arith in
      ap (λ (k : ℕ). bad_lines n k last at s) more ∙ ap (λ (p : Option Refusal). first (p ∷ later ∷ [])) e

  pub lines_malformed : is_line wish_columns s ≡ false → bad_lines n m last at s ≡ Some (refusal 8 at)
  lines_malformed e = lines_step (Some (refusal 8 at)) (ap (bad_line n last at) (line_none wish_columns s e))

  module _ (is-line : is_line wish_columns s ≡ true) where
    abbrev here : Wish
    here = record { variable = field s; mark = field (drop column_width s) }

    line-cause : bad_line n last at (line_numbers wish_columns s) ≡ cause (misfit n last here) 10 at
    line-cause =
        let p = line_numbers_lem wish_columns s is-line in
        let same : wish_of p.0 ≡ here = ap (λ (o : Option (List ℕ)). wish_of (unwrap_or o [])) (sym p.1) ∙ wish_fields s is-line in
        ap (bad_line n last at) p.1 ∙ ap (λ (w : Wish). cause (misfit n last w) 10 at) same

    pub lines_misfit : misfit n last here ≡ true → bad_lines n m last at s ≡ Some (refusal 10 at)
    lines_misfit e = lines_step (Some (refusal 10 at)) (line-cause ∙ ap (λ (t : Bool). cause t 10 at) e)

    pub lines_good : misfit n last here ≡ false
        → bad_lines n m last at s ≡ bad_lines n (m - 1) (field s) (at + line_size wish_columns) (drop (line_size wish_columns) s)
    lines_good e =
        lines_step None (line-cause ∙ ap (λ (t : Bool). cause t 10 at) e)
        ∙ first_last later
        ∙ ap (λ (w : Wish). bad_lines n (m - 1) w.variable (at + line_size wish_columns) (drop (line_size wish_columns) s)) (wish_fields s is-line)

-- the same for a wish line at a place of a file, with the numbers x and y that were read there
module _ (file : List ℕ) (n m last at x y : ℕ) (h : 0 < m) (is-line : is_line wish_columns (drop at file) ≡ true) (first_field : x ≡ field (drop at file)) (second-field : y ≡ field (drop (at + column_width) file)) where
  same_wish : misfit n last (record { variable = x; mark = y }) ≡ misfit n last (record { variable = field (drop at file); mark = field (drop column_width (drop at file)) })
  same_wish =
      ap₂ (λ (v b : ℕ). misfit n last (record { variable = v; mark = b })) first_field (second-field ∙ ap field (sym (drop-drop column_width at file)))

  pub wish_misfit : misfit n last (record { variable = x; mark = y }) ≡ true → bad_lines n m last at (drop at file) ≡ Some (refusal 10 at)
  wish_misfit e = lines_misfit n m last at (drop at file) h is-line (sym same_wish ∙ e)

  pub wish_fits : misfit n last (record { variable = x; mark = y }) ≡ false
      → bad_lines n m last at (drop at file) ≡ bad_lines n (m - 1) x (at + line_size wish_columns) (drop (at + line_size wish_columns) file)
  wish_fits e =
      lines_good n m last at (drop at file) h is-line (sym same_wish ∙ e)
      ∙ ap₂ (λ (v : ℕ) (s : List ℕ). bad_lines n (m - 1) v (at + line_size wish_columns) s) (sym first_field) (drop-drop (line_size wish_columns) at file)

-- no line is to come: the end, or bytes after the last line
pub lines_end : (n last at : ℕ) (file : List ℕ) → length file ≤ at → bad_lines n 0 last at (drop at file) ≡ None
lines_end n last at file h = rw (drop_of_length-le file h)

pub lines_extra : (n last at : ℕ) (file : List ℕ) → at < length file → bad_lines n 0 last at (drop at file) ≡ Some (refusal 8 at)
lines_extra n last at file h = rw (drop-cons file at 0 h)

-- the reading of a file: no line one, a line one out of range, refused lines, or good ones
module _ (file : List ℕ) where
  abbrev rest : List ℕ
  rest = drop (line_size header_columns) file

  pub header_malformed : is_line header_columns file ≡ false → reading file ≡ refuses (refusal 8 0)
  header_malformed e = ap (read_header rest) (line_none header_columns file e)

  abbrev after_header : ℕ → ℕ → ℕ → Reading
  after_header n m d = cond (outside n m d) (refuses (refusal 9 0)) (read_lines n m d rest (bad_lines n m 0 (line_size header_columns) rest))

  header-fields : is_line header_columns file ≡ true → reading file ≡ after_header (field file) (field (drop column_width file)) (field (drop (column_width * 2) file))
  header-fields e =
      let p = line_numbers_lem header_columns file e in
      let column : (i : ℕ) → i < header_columns → get_or p.0 i 0 ≡ field (drop (column_width * i) file) = λ i. line-field header_columns i file p.0 p.1 in
      ap (read_header rest) p.1
      ∙ ap₂ (λ (n m : ℕ). after_header n m (get_or p.0 2 0)) (column 0 (omega arith)) (column 1 (omega arith))
      ∙ ap (after_header (field file) (field (drop column_width file))) (column 2 (omega arith))

  -- with the numbers n, m and d that were read on line one
  module _ (is-line : is_line header_columns file ≡ true) (n m d : ℕ) (first_field : n ≡ field file) (second-field : m ≡ field (drop column_width file)) (third-field : d ≡ field (drop (column_width * 2) file)) where
    header_read : reading file ≡ after_header n m d
    header_read =
        header-fields is-line
        ∙ ap₂ (λ (x y : ℕ). after_header x y (field (drop (column_width * 2) file))) (sym first_field) (sym second-field)
        ∙ ap (after_header n m) (sym third-field)

    pub header-outside : outside n m d ≡ true → reading file ≡ refuses (refusal 9 0)
    header-outside e = header_read ∙ rw e

    pub lines_refused : outside n m d ≡ false → (r : Refusal) → bad_lines n m 0 (line_size header_columns) rest ≡ Some r → reading file ≡ refuses r
    lines_refused inside r e = header_read ∙ rw (inside) (ap (read_lines n m d rest) e)

    pub lines_passed : outside n m d ≡ false → bad_lines n m 0 (line_size header_columns) rest ≡ None → reading file ≡ gives n m d (row_of n (wishes_in m rest))
    lines_passed inside e = header_read ∙ rw (inside) (ap (read_lines n m d rest) e)
