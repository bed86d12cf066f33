-- Variables are taken, and what their wishes weigh at least.
use Rattle.std.specs.Prelude.{◌≡◌, List, [], ◌∷◌, ◌++◌, map, ℕ, ◌+◌, ◌-◌, ◌≤◌, ◌<◌, min, length, get_or, set, take, drop}
use Rattle.std.proofs.Common.{sym, ap, ap₂, ◌∙◌, add-one, arith, drop_of_length-le, take-suc, take-suc-set, take_all, drop-cons, eq-eqb}
use Rattle.std.proofs.lemmas.List.{map-append}
use Rattle.literal.specs.Literal.{value}
use Rattle.wish.specs.Wish.{max_weight, weight}
use Rattle.walk.proofs.Assignment.{assign-set}
use Rattle.nearest_cores.specs.Cores.{taken_byte, least_weight, take_each}
use Rattle.nearest_cores.proofs.Taken.{left_zero, take_left, free_start}
use Rattle.nearest_core_scan.specs.Broken.{LeftFree}

-- The loop that takes what is assigned: one byte more, and all of them.
pub mapped_next : (a taken : List ℕ) (i b : ℕ) → i < length a → i < length taken → b ≡ taken_byte (get_or a i 0) → take i taken ≡ map taken_byte (take i a)
    → take (i + 1) (set taken i b) ≡ map taken_byte (take (i + 1) a)
mapped_next a taken i b h q e w =
    ap (λ (k : ℕ). take k (set taken i b)) (add-one i)
    ∙ take-suc-set taken i b q
    ∙ ap₂ (λ (l : List ℕ) (x : ℕ). l ++ (x ∷ [])) w e
    ∙ sym (map-append taken_byte (take i a) (get_or a i 0 ∷ []))
    ∙ ap (map taken_byte) (sym (take-suc a i 0 h))
    ∙ ap (λ (k : ℕ). map taken_byte (take k a)) (sym (add-one i))

pub mapped_all : (a taken : List ℕ) (i : ℕ) → length a ≤ i → length taken ≡ length a → take i taken ≡ map taken_byte (take i a) → taken ≡ map taken_byte a
mapped_all a taken i h l w = sym (take_all i taken (omega arith)) ∙ w ∙ ap (map taken_byte) (take_all i a h)

-- no wish of a core weighs more than the greatest weight
pub least-most : (row core : List ℕ) → least_weight row core ≤ max_weight
least-most row [] = omega arith
least-most row (v ∷ vs) = omega (arith, least-most row vs)

-- The loop over a core: its start, one wish more, and its end.
pub least_start : (row core : List ℕ) → min max_weight (least_weight row core) ≡ least_weight row core
least_start row core = omega (arith, least-most row core)

pub least_next : (row core : List ℕ) (k least : ℕ) → k < length core
    → min (min (weight (value row (get_or core k 0))) least) (least_weight row (drop (k + 1) core)) ≡ min least (least_weight row (drop k core))
least_next row core k least h = rw (drop-cons core k 0 h, add-one k) (omega arith)

pub least_end : (row core : List ℕ) (k least : ℕ) → length core ≤ k → least ≤ max_weight → min least (least_weight row (drop k core)) ≡ least
least_end row core k least h l = rw (drop_of_length-le core {i = k} h) (omega arith)

pub take_next : (taken core : List ℕ) (k : ℕ) → k < length core → 0 < get_or core k 0 → take_each (set taken (get_or core k 0 - 1) 1) (drop (k + 1) core) ≡ take_each taken (drop k core)
take_next taken core k h z = rw (drop-cons core k 0 h, add-one k, ← assign-set taken (get_or core k 0) 1 z)

pub take_end : (taken core : List ℕ) (k : ℕ) → length core ≤ k → take_each taken (drop k core) ≡ taken
take_end taken core k h = rw (drop_of_length-le core {i = k} h)

-- what is not taken after more is taken was not taken before
pub left_free_taken : (b taken core : List ℕ) → LeftFree b taken → LeftFree b (take_each taken core)
left_free_taken b taken core h v e = h v (eq-eqb (value taken v) 0 (take_left core taken v (left_zero (take_each taken core) v e)).0)

-- at the start
pub left_free_start : (b : List ℕ) → LeftFree b (map taken_byte b)
left_free_start b v e = ((free_start [] [] b).1 v (left_zero (map taken_byte b) v e)).0
