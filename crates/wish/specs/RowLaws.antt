-- The laws of the wishes of a row: how many they are, and what they weigh.
use Rattle.std.specs.Prelude.{◌≡◌, refl, Bool, true, false, cond, List, [], ◌∷◌, ℕ, suc, ◌+◌, ◌≤◌, ◌<◌, length, get_or, drop}
use Rattle.std.proofs.Common.{zero-le, add-one, arith, drop_of_length-le, drop-cons}
use Rattle.wish.specs.Wish.{is_wish, weight, wish_count, total_weight, wished_on}
use Rattle.wish.specs.Laws.{weight_wish, on-weight}

-- a row has no more wishes than variables
pub count_most : (row : List ℕ) → wish_count row ≤ length row
count_most [] = zero-le
count_most (w ∷ row) = go (is_wish w) (count_most row)
  where
    go : (t : Bool) → wish_count row ≤ length row → cond t (suc (wish_count row)) (wish_count row) ≤ suc (length row)
    go true h = omega arith
    go false h = omega arith

-- each wish weighs something
pub count-weight : (row : List ℕ) → wish_count row ≤ total_weight row
count-weight [] = zero-le
count-weight (w ∷ row) = go (is_wish w) refl (count-weight row)
  where
    go : (t : Bool) → is_wish w ≡ t → wish_count row ≤ total_weight row → cond t (suc (wish_count row)) (wish_count row) ≤ weight w + total_weight row
    go true e h = omega (arith, weight_wish w e)
    go false e h = omega arith

-- the wishes for on weigh no more than all
pub on-most : (row : List ℕ) → wished_on row ≤ total_weight row
on-most [] = zero-le
on-most (w ∷ row) = omega (arith, on-weight w, on-most row)

-- how many wishes are left of a row: one and the rest, or the rest; none past its end
pub count_wish : (row : List ℕ) (i : ℕ) → i < length row → is_wish (get_or row i 0) ≡ true → wish_count (drop i row) ≡ suc (wish_count (drop (i + 1) row))
count_wish row i h e = rw (drop-cons row i 0 h, e, add-one i)

pub count_free : (row : List ℕ) (i : ℕ) → i < length row → is_wish (get_or row i 0) ≡ false → wish_count (drop i row) ≡ wish_count (drop (i + 1) row)
count_free row i h e = rw (drop-cons row i 0 h, e, add-one i)

pub count_end : (row : List ℕ) (i : ℕ) → length row ≤ i → wish_count (drop i row) ≡ 0
count_end row i h = rw (drop_of_length-le row h)

-- what is left of a row weighs: its first byte and the rest; and nothing past its end
pub weight_step : (row : List ℕ) (i : ℕ) → i < length row → total_weight (drop i row) ≡ weight (get_or row i 0) + total_weight (drop (i + 1) row)
weight_step row i h = rw (drop-cons row i 0 h, add-one i)

pub weight_end : (row : List ℕ) (i : ℕ) → length row ≤ i → total_weight (drop i row) ≡ 0
weight_end row i h = rw (drop_of_length-le row h)
