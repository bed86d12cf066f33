-- What follows from the definitions of specs/LayoutLaws.antt.
use Rattle.std.specs.Prelude.{◌≡◌, refl, Bool, true, false, cond, List, [], ◌∷◌, ◌++◌, ℕ, zero, suc, ◌+◌, ◌-◌, ◌≤◌, ◌<◌, eqb, length, take, drop, replicate, Option, None, Some}
use Rattle.std.proofs.Common.{sym, ap, ap₂, ◌∙◌, append_assoc, zero-le, le_refl, arith, length-append, length-drop, length-take-le, take_at, drop_at, take-add, ne_eqb, eqb-true}
use Rattle.std.proofs.Math.Bool.{and-eq-true_iff}
use Rattle.std.proofs.lemmas.Option.{same_Some, none-some}
use Rattle.decimal.specs.Decimal.{decimal, number, is_digit, only_digits}
use Rattle.decimal.specs.Laws.{digit_low, number-decimal, decimal-number, decimal-digits, count_most}
use Rattle.text.specs.Laws as text
use Rattle.text.specs.Text.{column}
use Rattle.wish_file.specs.Layout.{column_width, line, line_size, past_spaces, column_number, joined, line_numbers}
use Rattle.wish_file.specs.LayoutLaws.{Begins, Fit}

-- a column has room for a number of five digits
pub column-length : (v : ℕ) → v < 100000 → length (column column_width v) ≡ column_width
column-length v h = text.column-length column_width v (count_most 4 v h)

past_spaces_lem : (k : ℕ) (w : List ℕ) → past_spaces (replicate k 32 ++ w) ≡ past_spaces w
past_spaces_lem zero w = refl
past_spaces_lem (suc k) w = past_spaces_lem k w

past_digits : (w : List ℕ) → only_digits w ≡ true → past_spaces w ≡ w
past_digits [] h = refl
past_digits (b ∷ w) h = rw (ne_eqb b 32 (omega (arith, digit_low b ((and-eq-true_iff (is_digit b) (only_digits w)).0 h).0)))

-- a written column reads as its number
pub column_read : (v : ℕ) (r : List ℕ) → v < 100000 → column_number (column column_width v ++ r) ≡ Some v
column_read v r h =
    ap (λ (w : List ℕ). number (past_spaces w)) (take_at (column column_width v) r column_width (column-length v h))
    ∙ ap number (past_spaces_lem (column_width - length (decimal v)) (decimal v) ∙ past_digits (decimal v) (decimal-digits v))
    ∙ number-decimal v h

-- some bytes are the spaces in front and what follows them
past_shorter : (w : List ℕ) → length (past_spaces w) ≤ length w
past_shorter [] = zero-le
past_shorter (b ∷ w) = go (eqb b 32) (past_shorter w)
  where
    go : (t : Bool) → length (past_spaces w) ≤ length w → length (cond t (past_spaces w) (b ∷ w)) ≤ suc (length w)
    go true h = omega arith
    go false h = le_refl (suc (length w))

spaces_split : (w : List ℕ) → replicate (length w - length (past_spaces w)) 32 ++ past_spaces w ≡ w
spaces_split [] = refl
spaces_split (b ∷ w) = go (eqb b 32) refl (spaces_split w)
  where
    go : (t : Bool) → eqb b 32 ≡ t → replicate (length w - length (past_spaces w)) 32 ++ past_spaces w ≡ w
        → replicate (suc (length w) - length (cond t (past_spaces w) (b ∷ w))) 32 ++ cond t (past_spaces w) (b ∷ w) ≡ b ∷ w
    go true e ih =
        let more : suc (length w) - length (past_spaces w) ≡ suc (length w - length (past_spaces w)) = omega (arith, past_shorter w) in
        rw (more) (ap₂ (λ (c : ℕ) (r : List ℕ). c ∷ r) (sym (eqb-true b 32 e)) ih)
    go false e ih =
        let no_more : suc (length w) - suc (length w) ≡ 0 = omega arith in
        rw (no_more)

-- what reads as a number is how its column is written
pub column-written : (s : List ℕ) (v : ℕ) → column_width ≤ length s → column_number s ≡ Some v → column column_width v ≡ take column_width s
column-written s v h e =
    let w : List ℕ = take column_width s in
    let size : column_width ≡ length w = sym (length-take-le column_width s h) in
    ap (λ (u : List ℕ). replicate (column_width - length u) 32 ++ u) (decimal-number (past_spaces w) v e)
    ∙ ap (λ (k : ℕ). replicate (k - length (past_spaces w)) 32 ++ past_spaces w) size
    ∙ spaces_split w

pub line-length : (vs : List ℕ) → Fit vs → length (line vs) ≡ line_size (length vs)
line-length [] f = refl
line-length (v ∷ vs) f =
    omega (arith, length-append (column column_width v) (line vs), column-length v f.0, line-length vs f.1)

-- a written line reads as its numbers
pub line_read : (vs r : List ℕ) → Fit vs → line_numbers (length vs) (line vs ++ r) ≡ Some vs
line_read [] r f = refl
line_read (v ∷ vs) r f =
    ap (λ (s : List ℕ). line_numbers (suc (length vs)) s) (append_assoc (column column_width v) (line vs) r)
    ∙ ap₂ joined (column_read v (line vs ++ r) f.0)
    (ap (λ (s : List ℕ). line_numbers (length vs) s) (drop_at (column column_width v) (line vs ++ r) column_width (column-length v f.0))
    ∙ line_read vs r f.1)

-- the parts of a join
pub joined_parts : (o : Option ℕ) (p : Option (List ℕ)) (vs : List ℕ) → joined o p ≡ Some vs
    → (v : ℕ) × (us : List ℕ) × (o ≡ Some v) × (p ≡ Some us) × (v ∷ us ≡ vs)
joined_parts None p vs e = absurd (none-some vs e)
joined_parts (Some v) None vs e = absurd (none-some vs e)
joined_parts (Some v) (Some us) vs e = (v, us, refl, refl, same_Some (v ∷ us) vs e)

-- what reads as numbers is how their line is written
pub line-written : (k : ℕ) (s vs : List ℕ) → line_numbers k s ≡ Some vs → Begins k s vs
line-written zero [] vs e = absurd (none-some vs e)
line-written zero (b ∷ s) vs e = go (eqb b 10) refl e
  where
    go : (t : Bool) → eqb b 10 ≡ t → cond t (Some []) None ≡ Some vs → Begins zero (b ∷ s) vs
    go false f g = absurd (none-some vs g)
    go true f g =
        let same : [] ≡ vs = same_Some [] vs g in
        rw (← same) (record { count = refl; long = omega arith; same = ap (λ (c : ℕ). c ∷ []) (sym (eqb-true b 10 f)) })
line-written (suc k) s vs e =
    go (joined_parts (column_number s) (line_numbers k (drop column_width s)) vs e) (line-written k (drop column_width s))
  where
    go : (v : ℕ) × (us : List ℕ) × (column_number s ≡ Some v) × (line_numbers k (drop column_width s) ≡ Some us) × (v ∷ us ≡ vs)
        → ((us : List ℕ) → line_numbers k (drop column_width s) ≡ Some us → Begins k (drop column_width s) us) → Begins (suc k) s vs
    go p ih =
        let rest : Begins k (drop column_width s) p.1 = ih p.1 p.3 in
        let size : line_size k ≤ length s - column_width = omega (arith, rest.long, length-drop column_width s) in
        let next : column_width + line_size k ≡ line_size (suc k) = omega arith in
        let whole : line (p.0 ∷ p.1) ≡ take (line_size (suc k)) s =
        ap₂ (λ (a b : List ℕ). a ++ b) (column-written s p.0 (omega arith) p.2) rest.same
        ∙ sym (take-add column_width (line_size k) s)
        ∙ ap (λ (j : ℕ). take j s) next in
        rw (← p.4) (record { count = ap suc rest.count; long = omega arith; same = whole })
