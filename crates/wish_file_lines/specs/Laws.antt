-- The equations by which proofs read a line, column by column.
use Rattle.std.specs.Prelude.{◌≡◌, refl, Bool, true, false, cond, List, [], ◌∷◌, ℕ, zero, suc, ◌+◌, ◌-◌, ◌*◌, ◌≤◌, ◌<◌, eqb, length, get_or, take, drop, Option, None, Some, unwrap_or}
use Rattle.std.proofs.Common.{sym, ap, ap₂, ◌∙◌, true≢false, not-suc-le-zero, le_of_suc-le-suc, add-one, arith, length-drop, drop_of_length-le, drop-cons, drop-drop, take_all, eq-eqb, ne_eqb}
use Rattle.decimal.specs.Decimal.{number}
use Rattle.wish_file.specs.Format.{wish_columns, wish_of, wish_at}
use Rattle.wish_file.specs.Layout.{column_width, line_size, past_spaces, column_number, joined, line_numbers}
use Rattle.wish_file.proofs.LayoutLaws.{joined_parts, line-written}
use Rattle.wish_file_lines.specs.Lines.{present, is_line, field}

-- a line has numbers
pub line_numbers_lem : (k : ℕ) (s : List ℕ) → is_line k s ≡ true → (vs : List ℕ) × (line_numbers k s ≡ Some vs)
line_numbers_lem k s e = go (line_numbers k s) refl e
  where
    go : (o : Option (List ℕ)) → line_numbers k s ≡ o → present o ≡ true → (vs : List ℕ) × (line_numbers k s ≡ Some vs)
    go None f g = absurd (true≢false (sym g))
    go (Some vs) f g = (vs, f)

pub line_long : (k : ℕ) (s : List ℕ) → is_line k s ≡ true → line_size k ≤ length s
line_long k s e =
    let p = line_numbers_lem k s e in
    (line-written k s p.0 p.1).long

pub line_none : (k : ℕ) (s : List ℕ) → is_line k s ≡ false → line_numbers k s ≡ None
line_none k s e = go (line_numbers k s) e
  where
    go : (o : Option (List ℕ)) → present o ≡ false → o ≡ None
    go None f = refl
    go (Some vs) f = absurd (true≢false f)

-- and each of them stands in its column
pub line-field : (k i : ℕ) (s vs : List ℕ) → line_numbers k s ≡ Some vs → i < k → get_or vs i 0 ≡ field (drop (column_width * i) s)
line-field zero i s vs e h = absurd (not-suc-le-zero h)
line-field (suc k) i s vs e h = go i h (joined_parts (column_number s) (line_numbers k (drop column_width s)) vs e) (λ (j : ℕ) (us : List ℕ). line-field k j (drop column_width s) us)
  where
    go : (i : ℕ) → i < suc k → (v : ℕ) × (us : List ℕ) × (column_number s ≡ Some v) × (line_numbers k (drop column_width s) ≡ Some us) × (v ∷ us ≡ vs)
        → ((j : ℕ) (us : List ℕ) → line_numbers k (drop column_width s) ≡ Some us → j < k → get_or us j 0 ≡ field (drop (column_width * j) (drop column_width s)))
        → get_or vs i 0 ≡ field (drop (column_width * i) s)
    go zero h p ih = rw (← p.4) (sym (ap (λ (o : Option ℕ). unwrap_or o 0) p.2))
    go (suc j) h p ih =
        let place : column_width + column_width * j ≡ column_width * suc j = omega arith in
        rw (← p.4)
        (ih j p.1 p.3 (le_of_suc-le-suc h)
        ∙ ap field (drop-drop (column_width * j) column_width s ∙ ap (λ (n : ℕ). drop n s) place))

-- the spaces in front of some bytes
pub spaces_more : (w : List ℕ) (i : ℕ) → i < length w → get_or w i 0 ≡ 32 → past_spaces (drop i w) ≡ past_spaces (drop (i + 1) w)
spaces_more w i h e = rw (drop-cons w i 0 h, eq-eqb (get_or w i 0) 32 e, add-one i)

pub spaces_end : (w : List ℕ) (i : ℕ) → i < length w → (get_or w i 0 ≡ 32 → ⊥) → past_spaces (drop i w) ≡ drop i w
spaces_end w i h e = rw (drop-cons w i 0 h, ne_eqb (get_or w i 0) 32 e)

pub spaces_all : (w : List ℕ) (i : ℕ) → length w ≤ i → past_spaces (drop i w) ≡ drop i w
spaces_all w i h = rw (drop_of_length-le w h)

-- a line's first column, and the columns after it
module _ (s : List ℕ) (at k : ℕ) (h : 0 < k) where
  more : k ≡ suc (k - 1)
  more = omega arith

  pub line_cut : length s - at < column_width → is_line k (drop at s) ≡ false
  line_cut l = go (is_line k (drop at s)) refl
    where
      go : (t : Bool) → is_line k (drop at s) ≡ t → t ≡ false
      go false e = refl
      go true e = absurd (omega (arith, line_long k (drop at s) e, length-drop at s))

  pub line_malformed : column_number (drop at s) ≡ None → is_line k (drop at s) ≡ false
  line_malformed e = rw (more, e)

  pub line_more : (v : ℕ) → column_number (drop at s) ≡ Some v → is_line k (drop at s) ≡ is_line (k - 1) (drop (at + column_width) s)
  line_more v e =
      ap (λ (j : ℕ). is_line j (drop at s)) more
      ∙ ap (λ (o : Option ℕ). present (joined o (line_numbers (k - 1) (drop column_width (drop at s))))) e
      ∙ joins (line_numbers (k - 1) (drop column_width (drop at s)))
      ∙ ap (is_line (k - 1)) (drop-drop column_width at s)
    where
      joins : (o : Option (List ℕ)) → present (joined (Some v) o) ≡ present o
      joins None = refl
      joins (Some vs) = refl

-- the line feed after the last column
pub line_ends : (s : List ℕ) (at : ℕ) → at < length s → is_line 0 (drop at s) ≡ eqb (get_or s at 0) 10
line_ends s at h = rw (drop-cons s at 0 h) (go (eqb (get_or s at 0) 10))
  where
    go : (t : Bool) → present (cond t (Some []) None) ≡ t
    go true = refl
    go false = refl

pub line_stops : (s : List ℕ) (at : ℕ) → length s ≤ at → is_line 0 (drop at s) ≡ false
line_stops s at h = rw (drop_of_length-le s h)

-- what follows the spaces of a column, as a part of it
pub column-part : (s : List ℕ) (at width start : ℕ) → width ≡ column_width
    → past_spaces (take width (drop at s)) ≡ drop start (take width (drop at s))
    → number (take (length (take width (drop at s)) - start) (drop start (take width (drop at s)))) ≡ column_number (drop at s)
column-part s at width start e f =
    ap number
    (take_all (length (take width (drop at s)) - start) (drop start (take width (drop at s))) (omega (arith, length-drop start (take width (drop at s))))
    ∙ sym f
    ∙ ap (λ (j : ℕ). past_spaces (take j (drop at s))) e)

-- the answers, by the definitions' own
pub field-some : (o : Option ℕ) (v : ℕ) → o ≡ Some v → v ≡ unwrap_or o 0
field-some o v e = sym (ap (λ (p : Option ℕ). unwrap_or p 0) e)

pub field_none : (o : Option ℕ) → o ≡ None → 0 ≡ unwrap_or o 0
field_none o e = sym (ap (λ (p : Option ℕ). unwrap_or p 0) e)

-- the wish on a line has its numbers from the two columns
pub wish_fields : (s : List ℕ) → is_line wish_columns s ≡ true → wish_at s ≡ record { variable = field s; mark = field (drop column_width s) }
wish_fields s e =
    let p = line_numbers_lem wish_columns s e in
    ap (λ (o : Option (List ℕ)). wish_of (unwrap_or o [])) p.1
    ∙ ap₂ (λ (v b : ℕ). record { variable = v; mark = b }) (line-field wish_columns 0 s p.0 p.1 (omega arith)) (line-field wish_columns 1 s p.0 p.1 (omega arith))

-- a line at a place of a file ends inside it
pub line_inside : (k : ℕ) (file : List ℕ) (at : ℕ) → is_line k (drop at file) ≡ true → at + line_size k ≤ length file
line_inside k file at e = omega (arith, line_long k (drop at file) e, length-drop at file)
