-- The equations by which proofs fill a row from a wish file, line by line.
use Rattle.std.specs.Prelude.{◌≡◌, refl, true, List, [], ◌∷◌, ◌++◌, ℕ, suc, ◌+◌, ◌-◌, ◌≤◌, ◌<◌, length, drop, set, replicate, Option, None, Some, unwrap_or}
use Rattle.std.proofs.Common.{sym, ap, ap₂, subst, ◌∙◌, zero-add, not-suc-le-zero, arith, length-set, drop-drop, le-ltb}
use Rattle.std.proofs.lemmas.List.{length-replicate, set-append_left}
use Rattle.std.proofs.lemmas.List.Edits.{sets, sets-eq}
use Rattle.refusal.specs.declared.Refusal.{Refusal}
use Rattle.refusal.specs.Reply.{Reply, refusing, answering, too_short}
use Rattle.wish.specs.Wish.{free_byte, wish_for}
use Rattle.wish_file.specs.Format.{header_columns, wish_columns, wish_of, wish_at, wishes_in, refuses, gives, reading}
use Rattle.wish_file.specs.Layout.{column_width, line_size, line_numbers}
use Rattle.wish_file.proofs.RoundTrip.{accepted_parts, accepted, lines_written}
use Rattle.wish_file.specs.Wishes.{Wish, marked, Rising, byte_of}
use Rattle.wish_file_lines.specs.Laws.{wish_fields}
use Rattle.wish_file_lines.specs.Lines.{present, is_line, field}
use Rattle.wish_file_reader.specs.Read.{read_reply, read_output}

-- rising wishes, for more variables, and from the first variable on
pub rising_wider : (ws : List Wish) (n k last : ℕ) → n ≤ k → Rising n last ws → Rising k last ws
rising_wider [] n k last h r = tt
rising_wider (w ∷ ws) n k last h r = (r.0, omega (arith, r.1), r.2, rising_wider ws n k w.variable h r.3)

rising_lower : (ws : List Wish) (n last : ℕ) → Rising n last ws → Rising n 0 ws
rising_lower [] n last r = tt
rising_lower (w ∷ ws) n last r = (omega (arith, r.0), r.1, r.2, r.3)

-- a line of rising wishes, where m lines are to come: its marks, and the lines after it
module _ (size m : ℕ) (s : List ℕ) (h : 0 < m) (rising : Rising size 0 (wishes_in m s)) where
  abbrev after : List Wish
  after = wishes_in (m - 1) (drop (line_size wish_columns) s)

  split : wishes_in m s ≡ wish_at s ∷ after
  split =
      let more : m ≡ suc (m - 1) = omega arith in
      ap (λ (k : ℕ). wishes_in k s) more

  parts : Rising size 0 (wish_at s ∷ after)
  parts = subst (Rising size 0) split rising

  pub marks_line : is_line wish_columns s ≡ true
  marks_line = go (line_numbers wish_columns s) parts.0
    where
      go : (o : Option (List ℕ)) → 0 < (wish_of (unwrap_or o [])).variable → present o ≡ true
      go None k = absurd (not-suc-le-zero k)
      go (Some vs) k = refl

  pub marks_fit : (0 < field s) × (field s ≤ size) × (field (drop column_width s) < 2)
  marks_fit =
      let fields = wish_fields s marks_line in
      let v : (wish_at s).variable ≡ field s = ap (λ (w : Wish). w.variable) fields in
      let b : (wish_at s).mark ≡ field (drop column_width s) = ap (λ (w : Wish). w.mark) fields in
      (omega (arith, parts.0, v), omega (arith, parts.1, v), omega (arith, parts.2, b))

  pub marks_after : Rising size 0 after
  marks_after = rising_lower after size (wish_at s).variable parts.3

  pub marks_step : (row : List ℕ) → marked row (wishes_in m s) ≡ marked (set row (field s - 1) (wish_for (field (drop column_width s)))) after
  marks_step row =
      ap (marked row) split ∙ ap (λ (w : Wish). marked (set row (w.variable - 1) (byte_of w)) after) (wish_fields s marks_line)

-- the same at a place of a file, with the numbers x and y that were read there
module _ (file : List ℕ) (size m at x y : ℕ) (h : 0 < m) (rising : Rising size 0 (wishes_in m (drop at file))) (first_field : x ≡ field (drop at file)) (second-field : y ≡ field (drop (at + column_width) file)) where
  second : y ≡ field (drop column_width (drop at file))
  second = second-field ∙ ap field (sym (drop-drop column_width at file))

  pub mark_fits : (0 < x) × (x ≤ size) × (y < 2)
  mark_fits =
      let fits = marks_fit size m (drop at file) h rising in
      (omega (arith, fits.0), omega (arith, fits.1), omega (arith, fits.2, second))

  pub mark_after : Rising size 0 (wishes_in (m - 1) (drop (at + line_size wish_columns) file))
  mark_after = subst (λ (s : List ℕ). Rising size 0 (wishes_in (m - 1) s)) (drop-drop (line_size wish_columns) at file) (marks_after size m (drop at file) h rising)

  pub mark_step : (row : List ℕ) → marked row (wishes_in m (drop at file)) ≡ marked (set row (x - 1) (wish_for y)) (wishes_in (m - 1) (drop (at + line_size wish_columns) file))
  mark_step row =
      marks_step size m (drop at file) h rising row
      ∙ ap₂ (λ (v b : ℕ). marked (set row (v - 1) (wish_for b)) (wishes_in (m - 1) (drop (line_size wish_columns) (drop at file)))) (sym first_field) (sym second)
      ∙ ap (λ (s : List ℕ). marked (set row (x - 1) (wish_for y)) (wishes_in (m - 1) s)) (drop-drop (line_size wish_columns) at file)

-- marks inside the first part of a list
marked_append : (ws : List Wish) (p q : List ℕ) (last : ℕ) → Rising (length p) last ws → marked (p ++ q) ws ≡ marked p ws ++ q
marked_append [] p q last r = refl
marked_append (w ∷ ws) p q last r =
    ap (λ (t : List ℕ). marked t ws) (set-append_left p q (w.variable - 1) (byte_of w) (omega (arith, r.0, r.1)))
    ∙ marked_append ws (set p (w.variable - 1) (byte_of w)) q w.variable
    (subst (λ (k : ℕ). Rising k w.variable ws) (sym (length-set p (w.variable - 1) (byte_of w))) r.3)

-- n bytes filled from the first on
pub filled_free : (n : ℕ) (out : List ℕ) → n ≤ length out → sets out 0 (replicate n free_byte) ≡ replicate n free_byte ++ drop n out
filled_free n out h =
    let size : 0 + length (replicate {A = ℕ} n free_byte) ≡ n = zero-add (length (replicate {A = ℕ} n free_byte)) ∙ length-replicate n free_byte in
    sets-eq (replicate n free_byte) out 0 (omega (arith, size)) ∙ ap (λ (k : ℕ). replicate n free_byte ++ drop k out) size

-- the reply and the row: refused, without room, and read
module _ (file out : List ℕ) where
  abbrev Answers : Reply → List ℕ → Type 0
  Answers reply result = (reply ≡ read_reply file (length out)) × (result ≡ read_output file out)

  pub refused_for_lem : (r : Refusal) → reading file ≡ refuses r → Answers (refusing r) out
  refused_for_lem r e = (rw e, rw e)

  module _ (n m d : ℕ) (row : List ℕ) (e : reading file ≡ gives n m d row) where
    abbrev ws : List Wish
    ws = wishes_in m (drop (line_size header_columns) file)

    pub too_short_lem : (r : Refusal) → too_short n (length out) ≡ Some r → Answers (refusing r) out
    too_short_lem r h = (rw (e, h), rw (e, h))

    rising_row : Rising n 0 ws
    rising_row = (lines_written m n 0 (line_size header_columns) (drop (line_size header_columns) file) (accepted_parts file n m d row e).good).0

    module _ (h : n ≤ length out) where
      abbrev free : List ℕ
      free = replicate n free_byte ++ drop n out

      pub rising_room : Rising (length out) 0 ws
      rising_room = rising_wider ws n (length out) 0 h rising_row

      pub row_read : (result : List ℕ) → result ≡ marked free ws → Answers (answering 1 n m d) result
      row_read result f = (rw (e, le-ltb (length out) n h), rw (e, le-ltb (length out) n h) (f ∙ whole))
        where
          inside : Rising (length (replicate {A = ℕ} n free_byte)) 0 ws
          inside = subst (λ (k : ℕ). Rising k 0 ws) (sym (length-replicate n free_byte)) rising_row

          size : n ≡ length row
          size = sym (accepted file n m d row e).size

          whole : marked free ws ≡ row ++ drop (length row) out
          whole =
              marked_append ws (replicate n free_byte) (drop n out) 0 inside
              ∙ ap₂ (λ (a : List ℕ) (k : ℕ). a ++ drop k out) (sym (accepted_parts file n m d row e).gave) size
