-- Broken wishes that are not taken.
use Rattle.std.specs.Prelude.{◌≡◌, refl, Bool, true, false, cond, ◌&&◌, List, [], ◌∷◌, ℕ, zero, suc, ◌+◌, ◌-◌, ◌≤◌, ◌<◌, ltb, length, get_or, None, Some}
use Rattle.std.proofs.Common.{sym, ap, ap₂, ◌∙◌, zero-le, not-suc-le-zero, add-one, arith, ltb-true, ltb-false, le-ltb}
use Rattle.std.proofs.Math.Decide.{ℕ_discrete}
use Rattle.std.proofs.Math.ListN.{get_or-eq_default}
use Rattle.literal.specs.Literal.{value}
use Rattle.literal.specs.declared.Variable.{Variable}
use Rattle.wish.specs.Wish.{cost, breaks}
use Rattle.wish.specs.Laws.{cost-unassigned, free_cost}
use Rattle.distance.specs.Distance.{disagreement}
use Rattle.walk.specs.Extension.{Extends}
use Rattle.walk.proofs.Extension.{disagreement_grows}
use Rattle.nearest_cores.specs.Cores.{is_left, is_broken, broken_from, first_broken}
use Rattle.nearest_core_scan.specs.Lowest.{lowest_of}

-- of what is not taken nothing is broken
abbrev pub Unbroken : List ℕ → List ℕ → List ℕ → Type 0
Unbroken row taken a = (v : ℕ) → is_broken row taken a v ≡ false

-- what is not taken is unassigned
abbrev pub LeftFree : List ℕ → List ℕ → Type 0
LeftFree b taken = (v : ℕ) → is_left taken v ≡ true → value b v ≡ 2

-- The loop over the variables: its start, the one at hand, and none left.
pub broken_start : (row taken a : List ℕ) → first_broken row taken a ≡ broken_from (length a - 0) row taken a 1
broken_start row taken a = let all : length a ≡ length a - 0 = omega arith in ap (λ (k : ℕ). broken_from k row taken a 1) all

pub broken_next : (row taken a : List ℕ) (i : ℕ) (t : Bool) → i < length a → is_broken row taken a (i + 1) ≡ t
    → broken_from (length a - i) row taken a (i + 1) ≡ cond t (i + 1) (broken_from (length a - (i + 1)) row taken a (i + 1 + 1))
broken_next row taken a i t h e =
    let one : length a - i ≡ suc (length a - (i + 1)) = omega arith in
    ap (λ (k : ℕ). broken_from k row taken a (i + 1)) one
    ∙ ap₂ (λ (u : Bool) (v : ℕ). cond u (i + 1) (broken_from (length a - (i + 1)) row taken a v)) e (sym (add-one (i + 1)))

pub broken_end : (row taken a : List ℕ) (i : ℕ) → length a ≤ i → broken_from (length a - i) row taken a (i + 1) ≡ 0
broken_end row taken a i h = let none : length a - i ≡ 0 = omega arith in ap (λ (k : ℕ). broken_from k row taken a (i + 1)) none

-- the number of a wish that is broken, where there is one, is that of a variable
broken_range : (k : ℕ) (row taken a : List ℕ) (v : ℕ) → broken_from k row taken a (suc v) ≤ v + k
broken_range zero row taken a v = zero-le
broken_range (suc k) row taken a v = go (is_broken row taken a (suc v)) (broken_range k row taken a (suc v))
  where
    go : (t : Bool) → broken_from k row taken a (suc (suc v)) ≤ suc v + k → cond t (suc v) (broken_from k row taken a (suc (suc v))) ≤ v + suc k
    go true h = omega arith
    go false h = omega arith

pub broken_inside : (row taken a : List ℕ) → first_broken row taken a ≤ length a
broken_inside row taken a = omega (arith, broken_range (length a) row taken a 0)

-- where nothing is broken there is no such number, and the other way round
none_from : (k : ℕ) (row taken a : List ℕ) → Unbroken row taken a → (v : ℕ) → broken_from k row taken a v ≡ 0
none_from zero row taken a u v = refl
none_from (suc k) row taken a u v = ap (λ (t : Bool). cond t v (broken_from k row taken a (suc v))) (u v) ∙ none_from k row taken a u (suc v)

pub unbroken_none : (row taken a : List ℕ) → Unbroken row taken a → first_broken row taken a ≡ 0
unbroken_none row taken a u = none_from (length a) row taken a u 1

none_at : (k : ℕ) (row taken a : List ℕ) (v : ℕ) → broken_from k row taken a (suc v) ≡ 0 → (j : ℕ) → j < k → is_broken row taken a (suc (v + j)) ≡ false
none_at zero row taken a v e j h = absurd (not-suc-le-zero h)
none_at (suc k) row taken a v e j h = go (is_broken row taken a (suc v)) refl e (none_at k row taken a (suc v))
  where
    go : (t : Bool) → is_broken row taken a (suc v) ≡ t → cond t (suc v) (broken_from k row taken a (suc (suc v))) ≡ 0
        → (broken_from k row taken a (suc (suc v)) ≡ 0 → (j : ℕ) → j < k → is_broken row taken a (suc (suc v + j)) ≡ false) → is_broken row taken a (suc (v + j)) ≡ false
    go true p q ih = absurd (omega (arith, q))
    go false p q ih = elim (ℕ_discrete j 0) [
      | yes z ↦ (let here : v + j ≡ v = omega arith in ap (λ (i : ℕ). is_broken row taken a (suc i)) here ∙ p)
      | no z ↦ (let there : v + j ≡ suc v + (j - 1) = omega arith in ap (λ (i : ℕ). is_broken row taken a (suc i)) there ∙ ih q (j - 1) (omega arith))
    ]

-- a variable that is unassigned breaks nothing
unset_unbroken : (row taken a : List ℕ) (v : ℕ) → value a v ≡ 2 → is_broken row taken a v ≡ false
unset_unbroken row taken a v e = go (is_left taken v)
  where
    none : breaks (value row v) (value a v) ≡ false
    none = le-ltb 0 (cost (value row v) (value a v)) (let z : cost (value row v) (value a v) ≡ 0 = ap (cost (value row v)) e ∙ cost-unassigned (value row v) in omega arith)

    go : (t : Bool) → t && breaks (value row v) (value a v) ≡ false
    go true = none
    go false = refl

pub none_unbroken : (row taken a : List ℕ) → first_broken row taken a ≡ 0 → Unbroken row taken a
none_unbroken row taken a e zero = refl
none_unbroken row taken a e (suc i) = go (ltb i (length a)) refl
  where
    go : (t : Bool) → ltb i (length a) ≡ t → is_broken row taken a (suc i) ≡ false
    go true p = let same : 0 + i ≡ i = omega arith in ap (λ (j : ℕ). is_broken row taken a (suc j)) (sym same) ∙ none_at (length a) row taken a 0 e i (ltb-true i (length a) p)
    go false p = unset_unbroken row taken a (suc i) (get_or-eq_default a 2 (ltb-false i (length a) p))

pub free_unbroken : (row taken b : List ℕ) → LeftFree b taken → Unbroken row taken b
free_unbroken row taken b h v = go (is_left taken v) refl
  where
    go : (t : Bool) → is_left taken v ≡ t → is_broken row taken b v ≡ false
    go true e = unset_unbroken row taken b v (h v e)
    go false e = ap (λ (t : Bool). t && breaks (value row v) (value b v)) e

-- an extension that breaks as much breaks the same
cost_alike : (row b a : List ℕ) → length b ≡ length a → Extends b a → disagreement row a ≡ disagreement row b → (i : ℕ) → cost (get_or row i 2) (get_or b i 2) ≡ cost (get_or row i 2) (get_or a i 2)
cost_alike [] b a l h e i = free_cost (get_or b i 2) ∙ sym (free_cost (get_or a i 2))
cost_alike (w ∷ row) [] [] l h e i = refl
cost_alike (w ∷ row) [] (x ∷ a) l h e i = absurd (omega (arith, l))
cost_alike (w ∷ row) (y ∷ b) [] l h e i = absurd (omega (arith, l))
cost_alike (w ∷ row) (y ∷ b) (x ∷ a) l h e zero =
    omega (arith, e, disagreement_grows (w ∷ []) (y ∷ b) (x ∷ a) h, disagreement_grows row b a (record { keeps = λ i. h.keeps (suc i) }))
cost_alike (w ∷ row) (y ∷ b) (x ∷ a) l h e (suc i) =
    let rest : Extends b a = record { keeps = λ j. h.keeps (suc j) } in
    cost_alike row b a (omega (arith, l)) rest (omega (arith, e, disagreement_grows (w ∷ []) (y ∷ b) (x ∷ a) h, disagreement_grows row b a rest)) i

pub unbroken_still : (row taken b a : List ℕ) → length b ≡ length a → Extends b a → disagreement row a ≡ disagreement row b → Unbroken row taken a → Unbroken row taken b
unbroken_still row taken b a l h e u zero = refl
unbroken_still row taken b a l h e u (suc i) = ap (λ (k : ℕ). is_left taken (suc i) && ltb 0 k) (cost_alike row b a l h e i) ∙ u (suc i)

-- the number by the variant, and the variant by the number
pub lowest_none : (w : ℕ) → lowest_of w ≡ None → w ≡ 0
lowest_none zero e = refl
lowest_none (suc w) e = absurd (let z : ◌≡◌ {A = ℕ} 0 1 = cc in omega arith)

pub lowest_some : (w : ℕ) (v : Variable) → lowest_of w ≡ Some v → (0 < v.0) × (v.0 ≡ w)
lowest_some zero v e = absurd (let z : ◌≡◌ {A = ℕ} 0 1 = cc in omega arith)
lowest_some (suc w) v e = let same : suc w ≡ v.0 = cc in (omega arith, sym same)

-- the variable that is found is one of the state's
pub lowest_inside : (row taken a : List ℕ) (v : Variable) → Some v ≡ lowest_of (first_broken row taken a) → (0 < v.0) × (v.0 ≤ length a)
lowest_inside row taken a v e =
    let known = lowest_some (first_broken row taken a) v (sym e) in (known.0, omega (arith, known.1, broken_inside row taken a))

pub lowest_at : (i w : ℕ) → w ≡ i + 1 → Some (record { 0 = i + 1 }) ≡ lowest_of w
lowest_at i w e = ap (λ (k : ℕ). Some (record { 0 = k })) (add-one i) ∙ ap lowest_of (sym (e ∙ add-one i))
