-- The equations by which proofs write a file, line by line.
use Rattle.std.specs.Prelude.{◌≡◌, refl, Bool, true, false, cond, List, [], ◌∷◌, ◌++◌, ℕ, suc, ◌+◌, ◌≤◌, ◌<◌, length, get_or, drop}
use Rattle.std.proofs.Common.{sym, ap, ◌∙◌, append-nil, add-one, length-append, drop_of_length-le, drop-cons}
use Rattle.text.specs.Text.{column}
use Rattle.wish.specs.Wish.{is_wish, wished_value}
use Rattle.wish_file.specs.Format.{fields, wish_lines}
use Rattle.wish_file.specs.Layout.{column_width, line}
use Rattle.wish_file.specs.Wishes.{wish_as, wish_list}

-- a line is as long as its first column and the line of the other numbers
pub line_parts : (v : ℕ) (vs : List ℕ) → length (line (v ∷ vs)) ≡ length (column column_width v) + length (line vs)
line_parts v vs = length-append (column column_width v) (line vs)

-- the line of one byte of a row: none for a free variable
pub line_free : (v w : ℕ) → is_wish w ≡ false → wish_lines (wish_list v (w ∷ [])) ≡ []
line_free v w e = ap (λ (t : Bool). wish_lines (cond t (wish_as v w ∷ []) [])) e

pub line_wish : (v w : ℕ) → is_wish w ≡ true → wish_lines (wish_list v (w ∷ [])) ≡ line (v ∷ wished_value w ∷ [])
line_wish v w e = ap (λ (t : Bool). wish_lines (cond t (wish_as v w ∷ []) [])) e ∙ append-nil (line (v ∷ wished_value w ∷ []))

-- the lines of what is left of a row: those of its first byte, and of the rest
lines_cons : (v w : ℕ) (row : List ℕ) → wish_lines (wish_list v (w ∷ row)) ≡ wish_lines (wish_list v (w ∷ [])) ++ wish_lines (wish_list (suc v) row)
lines_cons v w row = go (is_wish w)
  where
    go : (t : Bool)
        → wish_lines (cond t (wish_as v w ∷ wish_list (suc v) row) (wish_list (suc v) row))
        ≡ wish_lines (cond t (wish_as v w ∷ []) []) ++ wish_lines (wish_list (suc v) row)
    go true = ap (λ (l : List ℕ). l ++ wish_lines (wish_list (suc v) row)) (sym (append-nil (line (fields (wish_as v w)))))
    go false = refl

module _ (row : List ℕ) (i : ℕ) (h : i < length row) where
  abbrev pub here : List ℕ
  here = wish_lines (wish_list (i + 1) (get_or row i 0 ∷ []))

  abbrev pub rest : List ℕ
  rest = wish_lines (wish_list (i + 1 + 1) (drop (i + 1) row))

  pub lines_split : wish_lines (wish_list (i + 1) (drop i row)) ≡ here ++ rest
  lines_split = rw (drop-cons row i 0 h, add-one (i + 1), add-one i) (lines_cons (suc i) (get_or row i 0) (drop (suc i) row))

pub lines_past : (row : List ℕ) (i v : ℕ) → length row ≤ i → wish_lines (wish_list v (drop i row)) ≡ []
lines_past row i v h = rw (drop_of_length-le row h)
