-- What follows from the definitions of specs/Sums.antt.
use Rattle.std.specs.Prelude.{◌≡◌, refl, ◌↔◌, Bool, true, false, cond, ◌||◌, ℕ, zero, suc, ◌+◌, ◌*◌, ◌<◌, eqb, ℤ, pos, negsuc, neg_ℤ, ◌+ℤ◌, ◌-ℤ◌, ◌*ℤ◌, length, drop}
use Rattle.std.proofs.Common.{sym, ap, ap₂, ◌∙◌, not-suc-le-zero, zero-lt-suc, zero-mul, arith, drop-cons}
use Rattle.std.proofs.lemmas.Bool.{false≢true}
use mathlib.Core.List.{List, [], ◌∷◌, map, Memᴰ}
use Rattle.std.proofs.Math.IntN.{+ℤ_idl}
use Rattle.literal.specs.Literal.{variable, wanted, value, holds}
use Rattle.formula.specs.Formula.{satisfied}
use Rattle.wish.specs.Wish.{is_wish, wished_value, weight, cost, keeping, on_weight, wish_count, wished_on}
use Rattle.wish.specs.Laws.{wished_bit, cost_free, cost-on, cost_off, keeping-variable, keeping-wanted, on_wished, on_unwished, on_free}
use Rattle.distance.specs.Distance.{disagreement}
use Rattle.choices.specs.Choices.{Choice}
use Rattle.choices.proofs.Choices.{choice_value}
use Rattle.opb_pseudo_boolean.specs.PseudoBoolean.{Term, sum}
use Rattle.opb_pseudo_boolean.specs.Export.{coefficient, term, negatives, wish_terms}
use Rattle.opb_pseudo_boolean.proofs.Differences.{difference_equal, difference_add}
use Rattle.opb_pseudo_boolean.specs.Sums.{held}

-- what a term adds, by the value that its literal wants
term-on : (w : ℕ) (x : ℤ) (b : ℕ) → wanted x ≡ 1 → coefficient w x *ℤ pos b ≡ pos (w * b) -ℤ pos 0
term-on w (pos v) b e = ap pos (omega arith)
term-on w (negsuc k) b e = absurd (omega arith)

term_off : (w : ℕ) (x : ℤ) (b : ℕ) → wanted x ≡ 0 → coefficient w x *ℤ pos b ≡ pos 0 -ℤ pos (w * b)
term_off w (pos v) b e = absurd (omega arith)
term_off zero (negsuc k) b e = rw (zero-mul b)
term_off (suc w) (negsuc k) b e = sym (+ℤ_idl (neg_ℤ (pos (suc w * b))))

-- "A rule is met when at least one entry holds"
pub satisfied-held : (a : List ℕ) (c : List ℤ) → (satisfied a c ≡ true) ↔ (0 < held a c)
satisfied-held a [] = (λ e. absurd (false≢true e), λ h. absurd (not-suc-le-zero h))
satisfied-held a (x ∷ c) = go (holds a x) (satisfied-held a c)
  where
    go : (t : Bool) → (satisfied a c ≡ true) ↔ (0 < held a c) → (t || satisfied a c ≡ true) ↔ (0 < cond t (suc (held a c)) (held a c))
    go true ih = (λ e. zero-lt-suc (held a c), λ h. refl)
    go false ih = ih

-- the sum of the terms of a clause: the number of its literals that hold, less the number of negative ones
pub clause_sum : (a : List ℕ) (c : List ℤ) → ((x : ℤ) → Memᴰ x c → value a (variable x) < 2)
    → sum a (map (term 1) c) ≡ pos (held a c) -ℤ pos (negatives c)
clause_sum a [] h = refl
clause_sum a (x ∷ c) h =
    ap₂ ◌+ℤ◌ (one x (value a (variable x)) (h x (Memᴰ.head refl))) (clause_sum a c (λ y m. h y (Memᴰ.tail m)))
    ∙ difference_add (cond (holds a x) 1 0) (negatives (x ∷ [])) (held a c) (negatives c)
    ∙ difference_equal (cond (holds a x) 1 0 + held a c) (negatives (x ∷ []) + negatives c) (held a (x ∷ c)) (negatives (x ∷ c)) (count x (holds a x))
  where
    one : (x : ℤ) (b : ℕ) → b < 2 → coefficient 1 x *ℤ pos b ≡ pos (cond (eqb b (wanted x)) 1 0) -ℤ pos (negatives (x ∷ []))
    one (pos v) zero l = refl
    one (pos v) (suc zero) l = refl
    one (negsuc k) zero l = refl
    one (negsuc k) (suc zero) l = refl
    one x (suc (suc b)) l = absurd (omega arith)

    count : (x : ℤ) (t : Bool) → cond t 1 0 + held a c + negatives (x ∷ c) ≡ cond t (suc (held a c)) (held a c) + (negatives (x ∷ []) + negatives c)
    count (pos v) true = omega arith
    count (pos v) false = omega arith
    count (negsuc k) true = omega arith
    count (negsuc k) false = omega arith

-- what the term of a wish adds: its weight if it wishes on, less what the value breaks of it
wish_term : (k w b : ℕ) → is_wish w ≡ true → b < 2 → coefficient (weight w) (keeping (suc k) w) *ℤ pos b ≡ pos (on_weight w) -ℤ pos (cost w b)
wish_term k w b e h = go (wished_value w) refl (wished_bit w)
  where
    go : (s : ℕ) → wished_value w ≡ s → s < 2 → coefficient (weight w) (keeping (suc k) w) *ℤ pos b ≡ pos (on_weight w) -ℤ pos (cost w b)
    go zero off l =
        term_off (weight w) (keeping (suc k) w) b (keeping-wanted k w ∙ off)
        ∙ difference_equal 0 (weight w * b) (on_weight w) (cost w b) (omega (arith, on_unwished w off, cost_off w b e off h))
    go (suc zero) on l =
        term-on (weight w) (keeping (suc k) w) b (keeping-wanted k w ∙ on)
        ∙ difference_equal (weight w * b) 0 (on_weight w) (cost w b) (omega (arith, on_wished w on, cost-on w b e on h))
    go (suc (suc s)) q l = absurd (omega arith)

-- the sum of the terms of the wishes from variable k + 1 on: the number wished on, less the number of those that the choice breaks, each wish by its weight
pub wishes_sum : (k : ℕ) (row a : List ℕ) → Choice (k + length row) a
    → sum a (wish_terms (suc k) row) ≡ pos (wished_on row) -ℤ pos (disagreement row (drop k a))
wishes_sum k [] a c = refl
wishes_sum k (w ∷ row) a c =
    rw (drop-cons a k 2 (omega (arith, c.size))) (go (is_wish w) refl (wishes_sum (suc k) row a (record { size = omega (arith, c.size); bytes = c.bytes })))
  where
    b : ℕ
    b = value a (suc k)

    rest : List Term
    rest = wish_terms (suc (suc k)) row

    broken : ℕ
    broken = disagreement row (drop (suc k) a)

    go : (t : Bool) → is_wish w ≡ t → sum a rest ≡ pos (wished_on row) -ℤ pos broken
        → sum a (cond t (term (weight w) (keeping (suc k) w) ∷ rest) rest) ≡ pos (on_weight w + wished_on row) -ℤ pos (cost w b + broken)
    go true e ih =
        ap₂ (λ (v : ℕ) (s : ℤ). coefficient (weight w) (keeping (suc k) w) *ℤ pos (value a v) +ℤ s) (keeping-variable k w) ih
        ∙ ap (λ (z : ℤ). z +ℤ (pos (wished_on row) -ℤ pos broken)) (wish_term k w b e (choice_value (k + length (w ∷ row)) a c (suc k) (zero-lt-suc k) (omega arith)))
        ∙ difference_add (on_weight w) (cost w b) (wished_on row) broken
    go false e ih =
        ih ∙ difference_equal (wished_on row) broken (on_weight w + wished_on row) (cost w b + broken) (omega (arith, on_free w e, cost_free w b e))

-- there is a term for each wish
pub wishes_terms : (v : ℕ) (row : List ℕ) → length (wish_terms v row) ≡ wish_count row
wishes_terms v [] = refl
wishes_terms v (w ∷ row) = go (is_wish w) (wishes_terms (suc v) row)
  where
    go : (t : Bool) → length (wish_terms (suc v) row) ≡ wish_count row
        → length (cond t (term (weight w) (keeping v w) ∷ wish_terms (suc v) row) (wish_terms (suc v) row)) ≡ cond t (suc (wish_count row)) (wish_count row)
    go true ih = ap suc ih
    go false ih = ih

-- where nothing is wished nothing is broken
pub wishes_none : (row a : List ℕ) → wish_count row ≡ 0 → disagreement row a ≡ 0
wishes_none [] a z = refl
wishes_none (w ∷ row) [] z = refl
wishes_none (w ∷ row) (b ∷ a) z = go (is_wish w) refl z (wishes_none row a)
  where
    go : (t : Bool) → is_wish w ≡ t → cond t (suc (wish_count row)) (wish_count row) ≡ 0 → (wish_count row ≡ 0 → disagreement row a ≡ 0) → cost w b + disagreement row a ≡ 0
    go true e q ih = absurd (omega arith)
    go false e q ih = omega (arith, cost_free w b e, ih q)
