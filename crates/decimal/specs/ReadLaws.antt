-- The equations by which proofs read a number, byte by byte.
use Rattle.std.specs.Prelude.{◌≡◌, refl, Bool, true, false, cond, List, [], ◌∷◌, ℕ, ◌+◌, ◌-◌, ◌*◌, ◌≤◌, ◌<◌, ltb, length, get_or, drop, Option, None, Some}
use Rattle.std.proofs.Common.{sym, ap, ◌∙◌, not-suc-le-zero, add-one, arith, drop_of_length-le, drop-cons, lt-ltb, le-ltb}
use Rattle.std.proofs.Math.Bool.{and-false}
use Rattle.std.proofs.lemmas.Option.{same_Some, none-some}
use Rattle.decimal.specs.Decimal.{is_digit, number}
use Rattle.decimal.specs.Laws.{number_after, number_by_value, digit_high}

-- the first byte of a number
pub number_empty : (w : List ℕ) → length w ≡ 0 → number w ≡ None
number_empty [] e = refl
number_empty (b ∷ w) e = absurd (omega arith)

pub number_first : (w : List ℕ) → 0 < length w → is_digit (get_or w 0 0) ≡ true → number w ≡ number_after (get_or w 0 0 - 48) (drop 1 w)
number_first [] h e = absurd (not-suc-le-zero h)
number_first (b ∷ w) h e = number_by_value (b ∷ w) ∙ rw (e)

pub number-other : (w : List ℕ) → 0 < length w → is_digit (get_or w 0 0) ≡ false → number w ≡ None
number-other [] h e = absurd (not-suc-le-zero h)
number-other (b ∷ w) h e = number_by_value (b ∷ w) ∙ rw (e)

-- the bytes after it: a digit that may follow the value v, a byte that may not, the end
module _ (w : List ℕ) (v i : ℕ) (h : i < length w) where
  abbrev b : ℕ
  b = get_or w i 0

  pub after-digit : is_digit b ≡ true → (v ≡ 0 → ⊥) → v < 10000 → number_after v (drop i w) ≡ number_after (v * 10 + (b - 48)) (drop (i + 1) w)
  after-digit e z m = rw (drop-cons w i 0 h, e, lt-ltb 0 v (omega arith), lt-ltb v 10000 m, add-one i)

  pub after-other : is_digit b ≡ false → number_after v (drop i w) ≡ None
  after-other e = rw (drop-cons w i 0 h, e)

  pub after-zero : v ≡ 0 → number_after v (drop i w) ≡ None
  after-zero z = rw (drop-cons w i 0 h, le-ltb 0 v (omega arith), and-false (is_digit b))

  pub after_many : 10000 ≤ v → number_after v (drop i w) ≡ None
  after_many m = rw (drop-cons w i 0 h, le-ltb v 10000 m, and-false (ltb 0 v), and-false (is_digit b))

pub after_end : (w : List ℕ) (v i : ℕ) → length w ≤ i → number_after v (drop i w) ≡ Some v
after_end w v i h = rw (drop_of_length-le w h)

-- a first digit of value v: the bytes are a number exactly where the others may follow it
pub number_begins : (w : List ℕ) (b : ℕ) (others : List ℕ) (v : ℕ) → w ≡ b ∷ others → ◌≡◌ {A = Option ℕ} (Some v) (cond (is_digit b) (Some (b - 48)) None)
    → (number w ≡ number_after v others) × (v < 100000)
number_begins w b others v e d = go (is_digit b) refl d
  where
    go : (t : Bool) → is_digit b ≡ t → ◌≡◌ {A = Option ℕ} (Some v) (cond t (Some (b - 48)) None) → (number w ≡ number_after v others) × (v < 100000)
    go true t d =
        let same : v ≡ b - 48 = same_Some v (b - 48) d in
        (ap number e ∙ number_by_value (b ∷ others) ∙ rw (t, same), omega (arith, digit_high b t))
    go false t d = absurd (none-some v (sym d))
