-- The equations by which proofs scan a wish row and a choice, byte by byte, and what holds of numbers in range.
use Rattle.std.specs.Prelude.{◌≡◌, refl, Bool, true, false, cond, ◌&&◌, ◌||◌, List, [], ◌∷◌, ℕ, suc, ◌+◌, ◌≤◌, ◌<◌, eqb, ltb, leb, length, get_or, drop, None, Some}
use Rattle.std.proofs.lemmas.Option.{none-some}
use Rattle.std.proofs.Common.{sym, add-one, arith, drop_of_length-le, drop-cons, lt-ltb, le-ltb, le-leb, ltb-false, leb-true}
use Rattle.std.proofs.lemmas.Bool.{lt-leb, eqb-false}
use Rattle.wish.specs.Wish.{is_row_byte, weight, total_weight}
use Rattle.refusal.specs.Laws.{neither}
use Rattle.limits.specs.Limits.{max_variables, max_wishes, max_limit}
use Rattle.refusal_causes.specs.Lent.{out_of_range}
use Rattle.refusal_causes.specs.Sound.{bad_wish, bad_choice}

-- a choice: a good byte, a bad byte, the end
pub choice_good : (a : List ℕ) (i : ℕ) → i < length a → get_or a i 0 < 2 → bad_choice i (drop i a) ≡ bad_choice (i + 1) (drop (i + 1) a)
choice_good a i h b = rw (drop-cons a i 0 h, lt-ltb (get_or a i 0) 2 b, add-one i)

pub choice_bad : (a : List ℕ) (i : ℕ) → i < length a → 2 ≤ get_or a i 0 → bad_choice i (drop i a) ≡ Some i
choice_bad a i h b = rw (drop-cons a i 0 h, le-ltb (get_or a i 0) 2 b)

pub choice_end : (a : List ℕ) (i : ℕ) → length a ≤ i → bad_choice i (drop i a) ≡ None
choice_end a i h = rw (drop_of_length-le a h)

-- a wish row: a good byte, one that may not stand in a row, wishes that weigh too much, the end
pub wish_good : (row : List ℕ) (m i more : ℕ) → i < length row → is_row_byte (get_or row i 0) ≡ true → more ≡ m + weight (get_or row i 0) → more ≤ max_wishes
    → bad_wish m i (drop i row) ≡ bad_wish more (i + 1) (drop (i + 1) row)
wish_good row m i more h b e k =
    rw (drop-cons row i 0 h, b, ← e, le-leb more max_wishes k, add-one i)

pub wish_bad : (row : List ℕ) (m i : ℕ) → i < length row → is_row_byte (get_or row i 0) ≡ false → bad_wish m i (drop i row) ≡ Some i
wish_bad row m i h b = rw (drop-cons row i 0 h, b)

pub wish_many : (row : List ℕ) (m i more : ℕ) → i < length row → is_row_byte (get_or row i 0) ≡ true → more ≡ m + weight (get_or row i 0) → max_wishes < more
    → bad_wish m i (drop i row) ≡ Some i
wish_many row m i more h b e k = rw (drop-cons row i 0 h, b, ← e, lt-leb more max_wishes k)

pub wish_end : (row : List ℕ) (m i : ℕ) → length row ≤ i → bad_wish m i (drop i row) ≡ None
wish_end row m i h = rw (drop_of_length-le row h)

-- the wishes of a sound row weigh at most 64
pub weight-from : (m i : ℕ) (row : List ℕ) → m ≤ max_wishes → bad_wish m i row ≡ None → m + total_weight row ≤ max_wishes
weight-from m i [] h e = omega arith
weight-from m i (w ∷ row) h e = go (is_row_byte w) (leb (m + weight w) max_wishes) refl e (weight-from (m + weight w) (suc i) row)
  where
    go : (s t : Bool) → leb (m + weight w) max_wishes ≡ t → cond (s && t) (bad_wish (m + weight w) (suc i) row) (Some i) ≡ None
        → (m + weight w ≤ max_wishes → bad_wish (m + weight w) (suc i) row ≡ None → m + weight w + total_weight row ≤ max_wishes)
        → m + (weight w + total_weight row) ≤ max_wishes
    go true true q f ih = omega (arith, ih (leb-true (m + weight w) max_wishes q) f)
    go true false q f ih = absurd (none-some i (sym f))
    go false t q f ih = absurd (none-some i (sym f))

pub sound_weight : (row : List ℕ) → bad_wish 0 0 row ≡ None → total_weight row ≤ max_wishes
sound_weight row e = let h : 0 + total_weight row ≤ max_wishes = weight-from 0 0 row (omega arith) e in omega arith

-- the numbers of a call that is not refused with 14
pub in_range : (n d : ℕ) → out_of_range n d ≡ false → (0 < n) × (n ≤ max_variables) × (d ≤ max_limit)
in_range n d e =
    let None = neither (eqb n 0) (ltb max_variables n || ltb max_limit d) e in
    let rest = neither (ltb max_variables n) (ltb max_limit d) None.1 in
    (positive n (eqb-false n 0 None.0), ltb-false max_variables n rest.0, ltb-false max_limit d rest.1)
  where
    positive : (n : ℕ) → (n ≡ 0 → ⊥) → 0 < n
    positive n z = omega arith
