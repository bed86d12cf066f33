-- Choices, and what their first variables say.
use Rattle.std.specs.Prelude.{◌≡◌, refl, true, List, [], ◌∷◌, ℕ, zero, suc, ◌≤◌, ◌<◌, eqb, ltb, ℤ, length, get_or, take}
use Rattle.std.proofs.Common.{ap, arith, lit<, length-take, get_or-take, ltb-true, lt-ltb}
use Rattle.literal.specs.Literal.{variable, value, wanted, holds}
use Rattle.formula.specs.Formula.{all}
use Rattle.rule_list_soundness.specs.Laws.{and_left, and_right, and_both}
use Rattle.choices.specs.Choices.{Choice}

-- a choice by one test of its bytes
pub binary : {n : ℕ} {a : List ℕ} → Choice n a → all (λ (b : ℕ). ltb b 2) a ≡ true
binary {n} {a} c = go a c.bytes
  where
    go : (l : List ℕ) → ((i : ℕ) → get_or l i 0 < 2) → all (λ (b : ℕ). ltb b 2) l ≡ true
    go [] h = refl
    go (b ∷ l) h = and_both (ltb b 2) (all (λ (x : ℕ). ltb x 2) l) (lt-ltb b 2 (h zero)) (go l (λ i. h (suc i)))

pub choice_of : (n : ℕ) (a : List ℕ) → length a ≡ n → all (λ (b : ℕ). ltb b 2) a ≡ true → Choice n a
choice_of n a l e = record { size = l; bytes = go a e }
  where
    go : (l : List ℕ) → all (λ (b : ℕ). ltb b 2) l ≡ true → (i : ℕ) → get_or l i 0 < 2
    go [] h i = lit< tt
    go (b ∷ l) h zero = ltb-true b 2 (and_left (ltb b 2) (all (λ (x : ℕ). ltb x 2) l) h)
    go (b ∷ l) h (suc i) = go l (and_right (ltb b 2) (all (λ (x : ℕ). ltb x 2) l) h) i

-- the first variables keep their values
pub value_take : (n : ℕ) (a : List ℕ) (v : ℕ) → v ≤ n → value (take n a) v ≡ value a v
value_take n a zero h = refl
value_take n a (suc k) h = get_or-take n a k 2 h

pub holds-take : (n : ℕ) (a : List ℕ) (x : ℤ) → variable x ≤ n → holds (take n a) x ≡ holds a x
holds-take n a x h = ap (λ (w : ℕ). eqb w (wanted x)) (value_take n a (variable x) h)

take_binary : (n : ℕ) (a : List ℕ) → all (λ (b : ℕ). ltb b 2) a ≡ true → all (λ (b : ℕ). ltb b 2) (take n a) ≡ true
take_binary zero a e = refl
take_binary (suc n) [] e = refl
take_binary (suc n) (b ∷ a) e =
    and_both (ltb b 2) (all (λ (c : ℕ). ltb c 2) (take n a))
    (and_left (ltb b 2) (all (λ (c : ℕ). ltb c 2) a) e)
    (take_binary n a (and_right (ltb b 2) (all (λ (c : ℕ). ltb c 2) a) e))

-- and are a choice themselves
pub choice_take : (n m : ℕ) (a : List ℕ) → Choice m a → n ≤ m → Choice n (take n a)
choice_take n m a c h = choice_of n (take n a) (omega (arith, length-take n a, c.size)) (take_binary n a (binary c))
