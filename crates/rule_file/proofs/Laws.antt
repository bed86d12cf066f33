-- The equations by which proofs go through the bytes of a file.
use Rattle.std.specs.Prelude.{◌≡◌, refl, Bool, true, false, cond, not, List, [], ◌∷◌, ◌++◌, ℕ, zero, suc, ◌+◌, ◌≤◌, ◌<◌, eqb, length, get_or, take, drop}
use Rattle.std.proofs.Common.{ap, zero-le, suc-le-suc, not-suc-le-zero, le_of_suc-le-suc, add-one, arith, drop_of_length-le, drop-cons, eq-eqb, ne_eqb}
use Rattle.std.proofs.Math.Bool.{and-eq-true_iff}
use Rattle.std.proofs.Math.Seq.{drop-append-add}
use Rattle.formula.specs.Formula.{all}
use Rattle.decimal.specs.Decimal.{is_digit, only_digits}
use Rattle.decimal.specs.Laws.{digit_low}
use Rattle.rule_file.specs.Class.{blank, digit, minus, letter_c, other, is_blank, class_of}
use Rattle.rule_file.specs.Format.{without, before, beyond}
use Rattle.rule_file.specs.Tokens.{leading, in_token}

-- a digit is in the class of digits
pub digit_class : (b : ℕ) → is_digit b ≡ true → class_of b ≡ digit
unfolding class_of
digit_class b e =
    rw (ne_eqb b 9 (omega (arith, digit_low b e)), ne_eqb b 10 (omega (arith, digit_low b e)), ne_eqb b 13 (omega (arith, digit_low b e)), ne_eqb b 32 (omega (arith, digit_low b e)), e)

pub class_digit : (b : ℕ) → class_of b ≡ digit → is_digit b ≡ true
unfolding class_of
class_digit b e = go (is_blank b) (is_digit b) refl e
  where
    below : (t u : Bool) → cond t minus (cond u letter_c other) ≡ digit → ⊥
    below true u f = omega arith
    below false true f = omega arith
    below false false f = omega arith

    go : (t u : Bool) → is_digit b ≡ u → cond t blank (cond u digit (cond (eqb b 45) minus (cond (eqb b 99) letter_c other))) ≡ digit → is_digit b ≡ true
    go true u g f = absurd (omega arith)
    go false true g f = g
    go false false g f = absurd (below (eqb b 45) (eqb b 99) f)

pub class_other : (b : ℕ) → (class_of b ≡ digit → ⊥) → is_digit b ≡ false
class_other b h = go (is_digit b) refl
  where
    go : (t : Bool) → is_digit b ≡ t → is_digit b ≡ false
    go true e = absurd (h (digit_class b e))
    go false e = e

pub digit_in_token : (b : ℕ) → is_digit b ≡ true → in_token b ≡ true
digit_in_token b e = rw (digit_class b e)

-- a run of bytes that pass a test is what leads up to the first that does not
pub leading_seam : (p : ℕ → Bool) (w : List ℕ) (b : ℕ) (r : List ℕ) → all p w ≡ true → p b ≡ false → leading p (w ++ b ∷ r) ≡ w
leading_seam p [] b r h e = rw (e)
leading_seam p (x ∷ w) b r h e =
    let parts = (and-eq-true_iff (p x) (all p w)).0 h in
    rw parts.0 (ap (λ (l : List ℕ). x ∷ l) (leading_seam p w b r parts.1 e))

pub all_digits : (p : ℕ → Bool) → ((b : ℕ) → is_digit b ≡ true → p b ≡ true) → (w : List ℕ) → only_digits w ≡ true → all p w ≡ true
all_digits p f [] h = refl
all_digits p f (b ∷ w) h =
    let parts = (and-eq-true_iff (is_digit b) (only_digits w)).0 h in
    rw (f b parts.0) (all_digits p f w parts.1)

-- and it stands in front of the run behind it
pub leading_through : (p : ℕ → Bool) (w s : List ℕ) → all p w ≡ true → leading p (w ++ s) ≡ w ++ leading p s
leading_through p [] s h = refl
leading_through p (x ∷ w) s h =
    let parts = (and-eq-true_iff (p x) (all p w)).0 h in
    rw parts.0 (ap (λ (l : List ℕ). x ∷ l) (leading_through p w s parts.1))

-- bytes before the first that is stop, and those behind it
pub before_stop : (w : List ℕ) (stop : ℕ) (r : List ℕ) → without stop w ≡ true → before stop (w ++ stop ∷ r) ≡ w
before_stop w stop r h = leading_seam (λ (b : ℕ). not (eqb b stop)) w stop r h (rw (eq-eqb stop stop refl))

pub beyond_stop : (w : List ℕ) (stop : ℕ) (r : List ℕ) → without stop w ≡ true → beyond stop (w ++ stop ∷ r) ≡ r
beyond_stop w stop r h =
    let next : suc (length w) ≡ length w + 1 = omega arith in
    rw (before_stop w stop r h, next) (drop-append-add w (stop ∷ r) 1)

-- no digit is below 48
pub digits-without : (w : List ℕ) (stop : ℕ) → stop < 48 → only_digits w ≡ true → without stop w ≡ true
digits-without w stop h e = all_digits (λ (b : ℕ). not (eqb b stop)) (λ b f. rw (ne_eqb b stop (omega (arith, digit_low b f)))) w e

-- how far a run goes from an index on: a byte that passes, one that does not, the end
pub run_more : (p : ℕ → Bool) (s : List ℕ) (i : ℕ) → i < length s → p (get_or s i 0) ≡ true
    → length (leading p (drop i s)) ≡ suc (length (leading p (drop (i + 1) s)))
run_more p s i h e = rw (drop-cons s i 0 h, e, add-one i)

pub run_stop : (p : ℕ → Bool) (s : List ℕ) (i : ℕ) → i < length s → p (get_or s i 0) ≡ false → length (leading p (drop i s)) ≡ 0
run_stop p s i h e = rw (drop-cons s i 0 h, e)

pub run_past : (p : ℕ → Bool) (s : List ℕ) (i : ℕ) → length s ≤ i → length (leading p (drop i s)) ≡ 0
run_past p s i h = rw (drop_of_length-le s h)

pub run_inside : (p : ℕ → Bool) (s : List ℕ) → length (leading p s) ≤ length s
run_inside p [] = zero-le
run_inside p (b ∷ s) = go (p b) (run_inside p s)
  where
    go : (t : Bool) → length (leading p s) ≤ length s → length (cond t (b ∷ leading p s) []) ≤ suc (length s)
    go true h = suc-le-suc h
    go false h = zero-le

-- what ends a run does not pass
pub run_ends : (p : ℕ → Bool) (s : List ℕ) → length (leading p s) < length s → p (get_or s (length (leading p s)) 0) ≡ false
run_ends p [] h = absurd (not-suc-le-zero h)
run_ends p (b ∷ s) h = go (p b) refl (run_ends p s) h
  where
    go : (t : Bool) → p b ≡ t → (length (leading p s) < length s → p (get_or s (length (leading p s)) 0) ≡ false)
        → length (cond t (b ∷ leading p s) []) < suc (length s) → p (get_or (b ∷ s) (length (cond t (b ∷ leading p s) [])) 0) ≡ false
    go true e ih k = ih (le_of_suc-le-suc k)
    go false e ih k = e

-- and all before it does
pub run_byte : (p : ℕ → Bool) (s : List ℕ) (i : ℕ) → i < length (leading p s) → p (get_or s i 0) ≡ true
run_byte p [] i h = absurd (not-suc-le-zero h)
run_byte p (b ∷ s) i h = go (p b) refl i h (run_byte p s)
  where
    go : (t : Bool) → p b ≡ t → (i : ℕ) → i < length (cond t (b ∷ leading p s) []) → ((j : ℕ) → j < length (leading p s) → p (get_or s j 0) ≡ true) → p (get_or (b ∷ s) i 0) ≡ true
    go true e zero k ih = e
    go true e (suc j) k ih = ih j (le_of_suc-le-suc k)
    go false e i k ih = absurd (not-suc-le-zero k)

-- the run itself
pub run_take : (p : ℕ → Bool) (s : List ℕ) → take (length (leading p s)) s ≡ leading p s
run_take p [] = refl
run_take p (b ∷ s) = go (p b) (run_take p s)
  where
    go : (t : Bool) → take (length (leading p s)) s ≡ leading p s → take (length (cond t (b ∷ leading p s) [])) (b ∷ s) ≡ cond t (b ∷ leading p s) []
    go true e = ap (λ (l : List ℕ). b ∷ l) e
    go false e = refl
