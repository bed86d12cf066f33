-- The equations by which proofs count broken wishes.
use Rattle.std.specs.Prelude.{◌≡◌, refl, List, [], ◌∷◌, ℕ, zero, suc, ◌+◌, ◌≤◌, ◌<◌, length, get_or, drop, replicate}
use Rattle.std.proofs.Common.{zero-le, add-one, arith, drop_of_length-le, drop-cons}
use Rattle.wish.specs.Wish.{free_byte, cost, total_weight}
use Rattle.wish.specs.Laws.{cost-weight, free_cost}
use Rattle.distance.specs.Distance.{disagreement}

-- no assignment breaks more than the wishes weigh
pub disagreement-most : (row a : List ℕ) → disagreement row a ≤ total_weight row
disagreement-most [] a = zero-le
disagreement-most (w ∷ row) [] = zero-le
disagreement-most (w ∷ row) (b ∷ a) = omega (arith, cost-weight w b, disagreement-most row a)

-- a row without wishes has none to break
pub disagreement_free : (n : ℕ) (a : List ℕ) → disagreement (replicate n free_byte) a ≡ 0
disagreement_free zero a = refl
disagreement_free (suc n) [] = refl
disagreement_free (suc n) (b ∷ a) = omega (arith, free_cost b, disagreement_free n a)

-- what is left of a row: its first wish and the rest; and nothing past either end
pub disagreement_step : (row a : List ℕ) (i : ℕ) → i < length row → i < length a
    → disagreement (drop i row) (drop i a) ≡ cost (get_or row i 0) (get_or a i 0) + disagreement (drop (i + 1) row) (drop (i + 1) a)
disagreement_step row a i h k = rw (drop-cons row i 0 h, drop-cons a i 0 k, add-one i)

pub disagreement_past_row : (row a : List ℕ) (i : ℕ) → length row ≤ i → disagreement (drop i row) (drop i a) ≡ 0
disagreement_past_row row a i h = rw (drop_of_length-le row h)

pub disagreement-nothing : (row : List ℕ) → disagreement row [] ≡ 0
disagreement-nothing [] = refl
disagreement-nothing (w ∷ row) = refl

pub disagreement_past : (row a : List ℕ) (i : ℕ) → length a ≤ i → disagreement (drop i row) (drop i a) ≡ 0
disagreement_past row a i h = rw (drop_of_length-le a h) (disagreement-nothing (drop i row))

-- a row, or an assignment, that is at its end has nothing more to break
pub disagreement_no_row : (row a : List ℕ) → length row ≡ 0 → disagreement row a ≡ 0
disagreement_no_row [] a e = refl
disagreement_no_row (w ∷ row) a e = absurd (omega arith)

pub disagreement_no_values : (row a : List ℕ) → length a ≡ 0 → disagreement row a ≡ 0
disagreement_no_values row [] e = disagreement-nothing row
disagreement_no_values row (b ∷ a) e = absurd (omega arith)
