-- What follows from the definitions of specs/RoundTrip.antt.
use Rattle.std.specs.Prelude.{◌≡◌, refl, Bool, true, false, cond, ◌||◌, List, [], ◌∷◌, ◌++◌, ℕ, zero, suc, ◌+◌, ◌*◌, ◌≤◌, ◌<◌, eqb, ltb, leb, length, get_or, take, drop, Option, None, Some, unwrap_or}
use Rattle.std.proofs.Common.{sym, ap, ap₂, ◌∙◌, arith, length-append, take-append-drop, drop_at, ne_eqb, le-ltb, ltb-false, leb-false}
use Rattle.std.proofs.lemmas.Option.{none-some}
use Rattle.std.proofs.lemmas.Bool.{lt-leb, eqb-false}
use Rattle.wish.specs.Wish.{wish_count}
use Rattle.wish.specs.RowLaws.{count_most, count-weight}
use Rattle.wish.specs.UnitWeights.{weight-count}
use Rattle.refusal.specs.declared.Refusal.{Refusal}
use Rattle.refusal.specs.Laws.{first_last, cause_none, no_first, neither}
use Rattle.refusal.specs.Reply.{refusal, first, cause}
use Rattle.limits.specs.Limits.{max_wish_variables, max_wishes, max_limit}
use Rattle.refusal_causes.specs.Laws.{sound_weight}
use Rattle.refusal_causes.specs.Sound.{bad_wish}
use Rattle.wish_file.specs.Format.{header_columns, wish_columns, fields, wish_of, wish_lines, written, file_size, outside, misfit, bad_line, wish_at, bad_lines, wishes_in, refuses, gives, read_lines, read_header, reading}
use Rattle.wish_file.specs.Layout.{line, line_size, line_numbers}
use Rattle.wish_file.specs.LayoutLaws.{Fit, Begins}
use Rattle.wish_file.proofs.LayoutLaws.{line-length, line_read, line-written}
use Rattle.wish_file.proofs.WishLaws.{sound_whole, list_length, list_rising, row_list, list_row, row_length_lem, row_bytes, sound_bytes}
use Rattle.wish_file.specs.Wishes.{Wish, wish_list, row_of, Rising}
use Rattle.wish_file.specs.RoundTrip.{Accepted, Parts}

-- a wish fits where its variable rises to n at most, and its mark is 0 or 1
pub fitting : (n last : ℕ) (w : Wish) → last < w.variable → w.variable ≤ n → w.mark < 2 → misfit n last w ≡ false
fitting n last w h k l = rw (lt-leb w.variable last h, le-ltb n w.variable k, le-ltb 1 w.mark (omega arith))

pub fitted : (n last : ℕ) (w : Wish) → misfit n last w ≡ false → (last < w.variable) × (w.variable ≤ n) × (w.mark < 2)
fitted n last w e =
    let v : ℕ = w.variable in
    let rise = neither (leb v last) (ltb n v || ltb 1 w.mark) e in
    let rest = neither (ltb n v) (ltb 1 w.mark) rise.1 in
    (leb-false v last rise.0, ltb-false n v rest.0, omega (arith, ltb-false 1 w.mark rest.1))

-- a written wish line
fields_fit : (n last : ℕ) (w : Wish) (ws : List Wish) → n < 100000 → Rising n last (w ∷ ws) → Fit (fields w)
fields_fit n last w ws h r = (omega (arith, r.1), (omega (arith, r.2), tt))

wish_read : (w : Wish) (s : List ℕ) → Fit (fields w) → wish_at (line (fields w) ++ s) ≡ w
wish_read w s f = ap (λ (o : Option (List ℕ)). wish_of (unwrap_or o [])) (line_read (fields w) s f)

wish_next : (w : Wish) (s : List ℕ) → Fit (fields w) → drop (line_size wish_columns) (line (fields w) ++ s) ≡ s
wish_next w s f = drop_at (line (fields w)) s (line_size wish_columns) (line-length (fields w) f)

-- the lines of rising wishes are good, and read as these wishes
good_lines : (ws : List Wish) (n last at : ℕ) → n < 100000 → Rising n last ws → bad_lines n (length ws) last at (wish_lines ws) ≡ None
good_lines [] n last at h r = refl
good_lines (w ∷ ws) n last at h r =
    let f : Fit (fields w) = fields_fit n last w ws h r in
    let s : List ℕ = wish_lines (w ∷ ws) in
    let next : ℕ = at + line_size wish_columns in
    let here : bad_line n last at (line_numbers wish_columns s) ≡ None =
    ap (bad_line n last at) (line_read (fields w) (wish_lines ws) f) ∙ ap (λ (t : Bool). cause t 10 at) (fitting n last w r.0 r.1 r.2) in
    let later : bad_lines n (length ws) (wish_at s).variable next (drop (line_size wish_columns) s) ≡ None =
    ap₂ (λ (u : Wish) (t : List ℕ). bad_lines n (length ws) u.variable next t) (wish_read w (wish_lines ws) f) (wish_next w (wish_lines ws) f)
    ∙ good_lines ws n w.variable next h r.3 in
    ap₂ (λ (o p : Option Refusal). first (o ∷ p ∷ [])) here later

wishes_read : (ws : List Wish) (n last : ℕ) → n < 100000 → Rising n last ws → wishes_in (length ws) (wish_lines ws) ≡ ws
wishes_read [] n last h r = refl
wishes_read (w ∷ ws) n last h r =
    let f : Fit (fields w) = fields_fit n last w ws h r in
    ap₂ (λ (u : Wish) (us : List Wish). u ∷ us) (wish_read w (wish_lines ws) f)
    (ap (wishes_in (length ws)) (wish_next w (wish_lines ws) f) ∙ wishes_read ws n w.variable h r.3)

lines_length : (ws : List Wish) (n last : ℕ) → n < 100000 → Rising n last ws → length (wish_lines ws) ≡ line_size wish_columns * length ws
lines_length [] n last h r = refl
lines_length (w ∷ ws) n last h r =
    omega (arith, length-append (line (fields w)) (wish_lines ws), line-length (fields w) (fields_fit n last w ws h r), lines_length ws n w.variable h r.3)

inside : (n m d : ℕ) → 1 ≤ n → n ≤ max_wish_variables → m ≤ n → m ≤ max_wishes → d ≤ max_limit → outside n m d ≡ false
inside n m d h k l i j =
    rw (ne_eqb n 0 (omega arith), le-ltb max_wish_variables n k, le-ltb n m l, le-ltb max_wishes m i, le-ltb max_limit d j)

-- "The size is 16 + 11 times m bytes."
pub sixteen_eleven : (m : ℕ) → file_size m ≡ 16 + 11 * m
sixteen_eleven m = refl

pub written-length : (n : ℕ) (row : List ℕ) (d : ℕ) → n ≤ max_wish_variables → length row ≡ n → d ≤ max_limit → length (written n row d) ≡ file_size (wish_count row)
written-length n row d k l i =
    omega (
      arith,
      length-append (line (n ∷ wish_count row ∷ d ∷ [])) (wish_lines (wish_list 1 row)),
      line-length (n ∷ wish_count row ∷ d ∷ []) (omega arith, (omega (arith, count_most row), (omega arith, tt))),
      lines_length (wish_list 1 row) n 0 (omega arith) (list_rising row 1 n 0 (omega arith) (omega arith)),
      list_length 1 row,
    )

-- sound values, written and read, are these values again
pub read_written : (n : ℕ) (row : List ℕ) (d : ℕ) → 1 ≤ n → n ≤ max_wish_variables → length row ≡ n → bad_wish 0 0 row ≡ None → d ≤ max_limit
    → reading (written n row d) ≡ gives n (wish_count row) d row
read_written n row d h k l e i =
    ap₂ read_header (drop_at (line vs) (wish_lines ws) (line_size header_columns) (line-length vs fit)) (line_read vs (wish_lines ws) fit)
    ∙ rw (inside n m d h k (omega (arith, count_most row)) (omega (arith, sound_weight row e, count-weight row)) i)
    (ap (read_lines n m d (wish_lines ws)) passed ∙ ap (gives n m d) same)
  where
    m : ℕ
    m = wish_count row

    vs : List ℕ
    vs = n ∷ m ∷ d ∷ []

    ws : List Wish
    ws = wish_list 1 row

    fit : Fit vs
    fit = (omega arith, (omega (arith, count_most row), (omega arith, tt)))

    rising : Rising n 0 ws
    rising = list_rising row 1 n 0 (omega arith) (omega arith)

    passed : bad_lines n m 0 (line_size header_columns) (wish_lines ws) ≡ None
    passed =
        ap (λ (j : ℕ). bad_lines n j 0 (line_size header_columns) (wish_lines ws)) (sym (list_length 1 row))
        ∙ good_lines ws n 0 (line_size header_columns) (omega arith) rising

    same : row_of n (wishes_in m (wish_lines ws)) ≡ row
    same =
        ap (λ (j : ℕ). row_of n (wishes_in j (wish_lines ws))) (sym (list_length 1 row))
        ∙ ap (row_of n) (wishes_read ws n 0 (omega arith) rising)
        ∙ ap (λ (j : ℕ). row_of j ws) (sym l)
        ∙ row_list row (sound_bytes row 0 0 e)

-- a list of k numbers is written out
two : (vs : List ℕ) → length vs ≡ 2 → get_or vs 0 0 ∷ get_or vs 1 0 ∷ [] ≡ vs
two [] e = absurd (omega arith)
two (a ∷ []) e = absurd (omega arith)
two (a ∷ b ∷ []) e = refl
two (a ∷ b ∷ c ∷ vs) e = absurd (omega arith)

three : (vs : List ℕ) → length vs ≡ 3 → get_or vs 0 0 ∷ get_or vs 1 0 ∷ get_or vs 2 0 ∷ [] ≡ vs
three [] e = absurd (omega arith)
three (a ∷ vs) e = ap (λ (us : List ℕ). a ∷ us) (two vs (omega arith))

-- a line that is not refused is that of its wish, which fits
wish_written : (n last at : ℕ) (s : List ℕ) → bad_line n last at (line_numbers wish_columns s) ≡ None
    → (misfit n last (wish_at s) ≡ false) × (line (fields (wish_at s)) ≡ take (line_size wish_columns) s)
wish_written n last at s e = go (line_numbers wish_columns s) refl e
  where
    go : (o : Option (List ℕ)) → line_numbers wish_columns s ≡ o → bad_line n last at o ≡ None
        → (misfit n last (wish_of (unwrap_or o [])) ≡ false) × (line (fields (wish_of (unwrap_or o []))) ≡ take (line_size wish_columns) s)
    go None f g = absurd (none-some (refusal 8 at) (sym g))
    go (Some vs) f g =
        let b : Begins wish_columns s vs = line-written wish_columns s vs f in
        (cause_none (misfit n last (wish_of vs)) 10 at g, ap line (two vs b.count) ∙ b.same)

-- lines that are not refused are those of their wishes, which rise
pub lines_written : (m n last at : ℕ) (s : List ℕ) → bad_lines n m last at s ≡ None → Rising n last (wishes_in m s) × (wish_lines (wishes_in m s) ≡ s)
lines_written zero n last at [] e = (tt, refl)
lines_written zero n last at (b ∷ s) e = absurd (none-some (refusal 8 at) (sym e))
lines_written (suc m) n last at s e =
    let next : ℕ = at + line_size wish_columns in
    let t : List ℕ = drop (line_size wish_columns) s in
    let later : Option Refusal = bad_lines n m (wish_at s).variable next t in
    let parts = no_first (bad_line n last at (line_numbers wish_columns s)) (later ∷ []) e in
    let here = wish_written n last at s parts.0 in
    let fits = fitted n last (wish_at s) here.0 in
    let rest = lines_written m n (wish_at s).variable next t (sym (first_last later) ∙ parts.1) in (
      (fits.0, fits.1, fits.2, rest.0),
      ap₂ (λ (a b : List ℕ). a ++ b) here.1 rest.1 ∙ take-append-drop (line_size wish_columns) s,
    )

wishes_count : (m : ℕ) (s : List ℕ) → length (wishes_in m s) ≡ m
wishes_count zero s = refl
wishes_count (suc m) s = ap suc (wishes_count m (drop (line_size wish_columns) s))

ranges : (n m d : ℕ) → outside n m d ≡ false → (1 ≤ n) × (n ≤ max_wish_variables) × (m ≤ max_wishes) × (d ≤ max_limit)
ranges n m d e =
    let p = neither (eqb n 0) (ltb max_wish_variables n || (ltb n m || (ltb max_wishes m || ltb max_limit d))) e in
    let q = neither (ltb max_wish_variables n) (ltb n m || (ltb max_wishes m || ltb max_limit d)) p.1 in
    let r = neither (ltb n m) (ltb max_wishes m || ltb max_limit d) q.1 in
    let s = neither (ltb max_wishes m) (ltb max_limit d) r.1 in
    (positive n (eqb-false n 0 p.0), ltb-false max_wish_variables n q.0, ltb-false max_wishes m s.0, ltb-false max_limit d s.1)
  where
    positive : (n : ℕ) → (n ≡ 0 → ⊥) → 1 ≤ n
    positive n z = omega arith

-- a header in range and good lines after it are the file of what they give
good_file : (file : List ℕ) (n m d : ℕ) → line (n ∷ m ∷ d ∷ []) ≡ take (line_size header_columns) file → outside n m d ≡ false
    → (s : List ℕ) → s ≡ drop (line_size header_columns) file → bad_lines n m 0 (line_size header_columns) s ≡ None
    → Accepted file n m d (row_of n (wishes_in m s))
good_file file n m d head range s tail e =
    record {
      least = in_range.0;
      most = in_range.1;
      size = row_length_lem n ws;
      sound = sound_whole row 0 0 (row_bytes n ws lines.0) (omega (arith, weight-count row, count, in_range.2));
      count = count;
      limit = in_range.3;
      same = same;
    }
  where
    ws : List Wish
    ws = wishes_in m s

    row : List ℕ
    row = row_of n ws

    in_range : (1 ≤ n) × (n ≤ max_wish_variables) × (m ≤ max_wishes) × (d ≤ max_limit)
    in_range = ranges n m d range

    lines : Rising n 0 ws × (wish_lines ws ≡ s)
    lines = lines_written m n 0 (line_size header_columns) s e

    count : m ≡ wish_count row
    count = sym (wishes_count m s) ∙ ap length (sym (list_row n ws lines.0)) ∙ list_length 1 row

    same : file ≡ written n row d
    same =
        sym (take-append-drop (line_size header_columns) file)
        ∙ ap₂ (λ (a b : List ℕ). a ++ b)
        (sym head ∙ ap (λ (k : ℕ). line (n ∷ k ∷ d ∷ [])) count)
        (sym tail ∙ sym lines.1 ∙ ap wish_lines (sym (list_row n ws lines.0)))

pub accepted_parts : (file : List ℕ) (n m d : ℕ) (row : List ℕ) → reading file ≡ gives n m d row → Parts file n m d row
accepted_parts file n m d row e = header (line_numbers header_columns file) refl e
  where
    s : List ℕ
    s = drop (line_size header_columns) file

    never : (r : Refusal) → refuses r ≡ gives n m d row → ◌≡◌ {A = ℕ} 0 1
    never r f = cc

    header : (o : Option (List ℕ)) → line_numbers header_columns file ≡ o → read_header s o ≡ gives n m d row → Parts file n m d row
    header None f g = absurd (omega (arith, never (refusal 8 0) g))
    header (Some vs) f g = range (outside x y z) refl g
      where
        b : Begins header_columns file vs
        b = line-written header_columns file vs f

        x : ℕ
        x = get_or vs 0 0

        y : ℕ
        y = get_or vs 1 0

        z : ℕ
        z = get_or vs 2 0

        lines : (p : Option Refusal) → bad_lines x y 0 (line_size header_columns) s ≡ p → outside x y z ≡ false → read_lines x y z s p ≡ gives n m d row → Parts file n m d row
        lines (Some r) k h i = absurd (omega (arith, never r i))
        lines None k h i =
            let same-n : n ≡ x = cc in
            let same-m : m ≡ y = cc in
            let same-d : d ≡ z = cc in
            let same_row : row ≡ row_of x (wishes_in y s) = cc in
            rw (same-n, same-m, same-d, same_row) (record { head = ap line (three vs b.count) ∙ b.same; range = h; good = k; gave = refl })

        range : (t : Bool) → outside x y z ≡ t → cond t (refuses (refusal 9 0)) (read_lines x y z s (bad_lines x y 0 (line_size header_columns) s)) ≡ gives n m d row
            → Parts file n m d row
        range true h i = absurd (omega (arith, never (refusal 9 0) i))
        range false h i = lines (bad_lines x y 0 (line_size header_columns) s) refl h i

-- A file that reading accepts is the file of sound values, so "one meaning has one file".
pub accepted : (file : List ℕ) (n m d : ℕ) (row : List ℕ) → reading file ≡ gives n m d row → Accepted file n m d row
accepted file n m d row e =
    let parts : Parts file n m d row = accepted_parts file n m d row e in
    rw parts.gave
    (good_file file n m d parts.head parts.range (drop (line_size header_columns) file) refl parts.good)

pub one_file : (f g : List ℕ) (n k m d : ℕ) (row : List ℕ) → reading f ≡ gives n k d row → reading g ≡ gives n m d row → f ≡ g
one_file f g n k m d row e h = (accepted f n k d row e).same ∙ sym (accepted g n m d row h).same

-- a file without room for line one is refused at its first byte
pub short_files : (file : List ℕ) → length file < line_size header_columns → reading file ≡ refuses (refusal 8 0)
short_files file h = go (line_numbers header_columns file) refl
  where
    go : (o : Option (List ℕ)) → line_numbers header_columns file ≡ o → read_header (drop (line_size header_columns) file) o ≡ refuses (refusal 8 0)
    go None e = refl
    go (Some vs) e = absurd (omega (arith, (line-written header_columns file vs e).long))
