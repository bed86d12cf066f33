-- The equations by which proofs count and put numbers.
use Rattle.std.specs.Prelude.{◌≡◌, refl, Bool, true, false, cond, ltb, List, [], ◌∷◌, ◌++◌, ℕ, suc, ◌+◌, ◌-◌, ◌/◌, ◌%◌, ◌^◌, ◌≤◌, ◌<◌, ℤ, pos, negsuc, length, take, drop, set}
use Rattle.std.proofs.Common.{sym, ap, ap₂, ◌∙◌, append_assoc, arith, length-append, lt-ltb, le-ltb, ltb-true, ltb-false, take-append-drop, drop-cons, lt-length-set, get_or-set_same, drop-set-lt}
use Rattle.std.specs.Int.Signed.{mag}
use Rattle.std.proofs.lemmas.List.{length-replicate, take-set-le, set_split}
use Rattle.std.proofs.lemmas.List.Edits.{sets, sets-eq}
use Rattle.literal.specs.Literal.{variable, wanted}
use Rattle.decimal.specs.Decimal.{decimal}
use Rattle.decimal.specs.Laws.{decimal_one, decimal_more, count_one, count_more, count_most, decimal-some}
use Rattle.text.specs.Text.{numeral, column}

-- a usize has at most twenty digits
pub digits-most : (v : ℕ) → v < 2 ^ 64 → length (decimal v) ≤ 20
digits-most v h = count_most 19 v (omega arith)

-- a numeral has the digits of its variable v, behind a minus where it wants (w) the variable off
pub numeral_off : (x : ℤ) (v w : ℕ) → v ≡ variable x → w ≡ wanted x → w ≡ 0 → 45 ∷ decimal v ≡ numeral x
numeral_off (pos k) v w e f h = absurd (omega (arith, f, h))
numeral_off (negsuc k) v w e f h = ap (λ (j : ℕ). 45 ∷ decimal j) e

pub numeral-on : (x : ℤ) (v w : ℕ) → v ≡ variable x → w ≡ wanted x → (w ≡ 0 → ⊥) → decimal v ≡ numeral x
numeral-on (pos k) v w e f h = ap decimal e
numeral-on (negsuc k) v w e f h = absurd (h f)

-- so many digits at most, and the minus
pub numeral-most : (k : ℕ) (x : ℤ) → variable x < 10 ^ suc k → length (numeral x) ≤ suc (suc k)
numeral-most k (pos v) h = omega (arith, count_most k v h)
numeral-most k (negsuc j) h = omega (arith, count_most k (suc j) h)

-- an i32 has at most ten digits
pub signed-most : (x : ℤ) → mag x < 2 ^ 31 → length (numeral x) ≤ 11
signed-most (pos v) h = numeral-most 9 (pos v) (omega arith)
signed-most (negsuc k) h = numeral-most 9 (negsuc k) (omega arith)

-- a column is as wide as it is to be, or as its number
pub column-size : (width v : ℕ) → length (column width v) ≡ (width - length (decimal v)) + length (decimal v)
column-size width v = simp (length-append, length-replicate) (omega arith)

pub column-length : (width v : ℕ) → length (decimal v) ≤ width → length (column width v) ≡ width
column-length width v h = omega (arith, column-size width v)

-- what stands before and after some bytes that were written over a list
pub written-sets : (l : List ℕ) (at : ℕ) (w : List ℕ) (i : ℕ) → i ≡ at + length w → i ≤ length l → take at l ++ (w ++ drop i l) ≡ sets l at w
written-sets l at w i e h =
    ap (λ (k : ℕ). take at l ++ (w ++ drop k l)) e ∙ sym (append_assoc (take at l) w (drop (at + length w) l)) ∙ sym (sets-eq w l at (omega arith))

-- writing the last digit of several, and the only one: what the buffer is to hold does not change
pub written_last : (l : List ℕ) (at i v : ℕ) → 10 ≤ v → i ≡ at + length (decimal v) → i ≤ length l
    → take at l ++ (decimal v ++ drop i l)
    ≡ take at (set l (i - 1) (48 + v % 10)) ++ (decimal (v / 10) ++ drop (i - 1) (set l (i - 1) (48 + v % 10)))
written_last l at i v h e f =
    let here : i - 1 < length l = omega (arith, count_more v h) in
    let below : at ≤ i - 1 = omega (arith, count_more v h) in
    let next : suc (i - 1) ≡ i = omega (arith, count_more v h) in
    let d : ℕ = 48 + v % 10 in
    let kept : drop (i - 1) (set l (i - 1) d) ≡ d ∷ drop i l =
    drop-cons (set l (i - 1) d) (i - 1) 0 (lt-length-set l (i - 1) d here)
    ∙ ap₂ (λ (x : ℕ) (r : List ℕ). x ∷ r) (get_or-set_same l (i - 1) d 0 here) (drop-set-lt (suc (i - 1)) l (i - 1) d (omega arith) ∙ ap (λ (k : ℕ). drop k l) next) in
    rw (take-set-le at l (i - 1) d below, kept, decimal_more v h) (ap (λ (r : List ℕ). take at l ++ r) (append_assoc (decimal (v / 10)) (d ∷ []) (drop i l)))

pub written_only : (l : List ℕ) (at i v : ℕ) → v < 10 → i ≡ at + length (decimal v) → i ≤ length l
    → take at l ++ (decimal v ++ drop i l) ≡ set l at (48 + v)
written_only l at i v h e f =
    let next : i ≡ suc at = omega (arith, count_one v h) in
    rw (set_split l at (48 + v) (omega arith), decimal_one v h, next)

-- the digits that are still to be put before place i, of a number that is put from place at on
abbrev pub still : ℕ → ℕ → ℕ → List ℕ
still at i v = cond (ltb at i) (decimal v) []

pub still_some : (at i v : ℕ) → at < i → still at i v ≡ decimal v
still_some at i v h = rw (lt-ltb at i h)

pub still_none : (at i v : ℕ) → i ≤ at → still at i v ≡ []
still_none at i v h = rw (le-ltb at i h)

-- writing the last of them: what the buffer is to hold does not change
pub still-next : (l : List ℕ) (at i v : ℕ) → at < i → i ≡ at + length (still at i v) → i ≤ length l
    → (i - 1 ≡ at + length (still at (i - 1) (v / 10)))
    × (take at l ++ (still at i v ++ drop i l)
    ≡ take at (set l (i - 1) (48 + v % 10)) ++ (still at (i - 1) (v / 10) ++ drop (i - 1) (set l (i - 1) (48 + v % 10))))
still-next l at i v h e f = go (ltb v 10) refl
  where
    all : i ≡ at + length (decimal v)
    all = e ∙ ap (λ (w : List ℕ). at + length w) (still_some at i v h)

    go : (b : Bool) → ltb v 10 ≡ b
        → (i - 1 ≡ at + length (still at (i - 1) (v / 10)))
        × (take at l ++ (still at i v ++ drop i l)
        ≡ take at (set l (i - 1) (48 + v % 10)) ++ (still at (i - 1) (v / 10) ++ drop (i - 1) (set l (i - 1) (48 + v % 10))))
    go true q =
        let low : v < 10 = ltb-true v 10 q in
        let first : i - 1 ≡ at = omega (arith, all, count_one v low) in
        let digit : v % 10 ≡ v = omega arith in (
          omega (arith, first, ap length (still_none at (i - 1) (v / 10) (omega (arith, first)))),
          rw (still_some at i v h, still_none at (i - 1) (v / 10) (omega (arith, first)), first, digit)
              (written_only l at i v low all f ∙ sym (take-append-drop at (set l at (48 + v)))),
        )
    go false q =
        let high : 10 ≤ v = ltb-false v 10 q in
        let more : at < i - 1 = omega (arith, all, count_more v high, decimal-some (v / 10)) in (
          omega (arith, all, count_more v high, ap length (still_some at (i - 1) (v / 10) more)),
          rw (still_some at i v h, still_some at (i - 1) (v / 10) more) (written_last l at i v high all f),
        )
