-- How many variables, clauses and literals a totalizer has: formulas for any tree, and bounds for a tree by halving.
use Rattle.std.specs.Prelude.{◌≡◌, refl, Bool, true, false, cond, ◌&&◌, List, [], ◌∷◌, ◌++◌, ℕ, zero, suc, ◌+◌, ◌-◌, ◌*◌, ◌^◌, ◌/◌, ◌≤◌, ◌<◌, eqb, ltb, ℤ, neg_ℤ, length, take, drop}
use Rattle.std.proofs.Common.{sym, ap, ap₂, ◌∙◌, not-suc-le-zero, mul-add, add-mul, suc-mul, mul-suc, mul_comm, mul_assoc, mul-le-mul, pow-suc, zero-mul, arith, length-append, length-take, length-drop, take-append-drop, eqb-true, eq-eqb, ne_eqb, ltb-true, ltb-false}
use Rattle.std.proofs.lemmas.Bool.{eqb-false}
use Rattle.formula.specs.Formula.{literals}
use Rattle.rule_list_soundness.specs.Laws.{literals-append}
use Rattle.totalizer.proofs.Trees.{halving-size, tree-size}
use Rattle.totalizer.specs.Totalizer.{Tree, leaf, node, halving, tree, size, added, output, lower, upper, up, down, below, adder, totalizer, limit, at_most}

-- g 0 + .. + g (m - 1)
abbrev sum : ℕ → (ℕ → ℕ) → ℕ
sum zero g = 0
sum (suc m) g = sum m g + g m

sum_same : (m : ℕ) (f g : ℕ → ℕ) → ((i : ℕ) → i < m → f i ≡ g i) → sum m f ≡ sum m g
sum_same zero f g h = refl
sum_same (suc m) f g h = ap₂ ◌+◌ (sum_same m f g (λ (i : ℕ) (l : i < m). h i (omega arith))) (h m (omega arith))

sum_add : (m : ℕ) (f g : ℕ → ℕ) → sum m (λ (i : ℕ). f i + g i) ≡ sum m f + sum m g
sum_add zero f g = refl
sum_add (suc m) f g = omega (arith, sum_add m f g)

sum_const : (m c : ℕ) → sum m (λ (i : ℕ). c) ≡ m * c
sum_const zero c = sym (zero-mul c)
sum_const (suc m) c = omega (arith, sum_const m c, suc-mul m c)

-- v at one place and 0 elsewhere
sum_past : (m k v : ℕ) → m ≤ k → sum m (λ (i : ℕ). cond (eqb i k) v 0) ≡ 0
sum_past zero k v h = refl
sum_past (suc m) k v h = rw (ne_eqb m k (λ (e : m ≡ k). omega arith)) (omega (arith, sum_past m k v (omega arith)))

sum-once : (m k v : ℕ) → k < m → sum m (λ (i : ℕ). cond (eqb i k) v 0) ≡ v
sum-once zero k v h = absurd (not-suc-le-zero h)
sum-once (suc m) k v h = go (eqb m k) refl (sum-once m k v)
  where
    less : (m ≡ k → ⊥) → k < m
    less ne = omega arith

    go : (b : Bool) → eqb m k ≡ b → (k < m → sum m (λ (i : ℕ). cond (eqb i k) v 0) ≡ v) → sum m (λ (i : ℕ). cond (eqb i k) v 0) + cond b v 0 ≡ v
    go true e ih = omega (arith, sum_past m k v (omega (arith, eqb-true m k e)))
    go false e ih = omega (arith, ih (less (eqb-false m k e)))

-- a double sum
abbrev sum₂ : ℕ → ℕ → (ℕ → ℕ → ℕ) → ℕ
sum₂ m k g = sum m (λ (i : ℕ). sum k (g i))

sum₂-same : (m k : ℕ) (f g : ℕ → ℕ → ℕ) → ((i j : ℕ) → i < m → j < k → f i j ≡ g i j) → sum₂ m k f ≡ sum₂ m k g
sum₂-same m k f g h =
    sum_same m (λ (i : ℕ). sum k (f i)) (λ (i : ℕ). sum k (g i)) (λ (i : ℕ) (hi : i < m). sum_same k (f i) (g i) (λ (j : ℕ) (hj : j < k). h i j hi hj))

sum₂-add : (m k : ℕ) (f g : ℕ → ℕ → ℕ) → sum₂ m k (λ (i j : ℕ). f i j + g i j) ≡ sum₂ m k f + sum₂ m k g
sum₂-add m k f g =
    sum_same m (λ (i : ℕ). sum k (λ (j : ℕ). f i j + g i j)) (λ (i : ℕ). sum k (f i) + sum k (g i)) (λ (i : ℕ) (hi : i < m). sum_add k (f i) (g i))
    ∙ sum_add m (λ (i : ℕ). sum k (f i)) (λ (i : ℕ). sum k (g i))

sum₂-const : (m k c : ℕ) → sum₂ m k (λ (i j : ℕ). c) ≡ m * (k * c)
sum₂-const m k c =
    sum_same m (λ (i : ℕ). sum k (λ (j : ℕ). c)) (λ (i : ℕ). k * c) (λ (i : ℕ) (hi : i < m). sum_const k c) ∙ sum_const m (k * c)

-- 1 in one row, in one column, and at one place
sum₂-row : (m k r : ℕ) → r < m → sum₂ m k (λ (i j : ℕ). cond (eqb i r) 1 0) ≡ k
sum₂-row m k r h =
    sum_same m (λ (i : ℕ). sum k (λ (j : ℕ). cond (eqb i r) 1 0)) (λ (i : ℕ). cond (eqb i r) k 0) (λ (i : ℕ) (hi : i < m). line (eqb i r))
    ∙ sum-once m r k h
  where
    line : (b : Bool) → sum k (λ (j : ℕ). cond b 1 0) ≡ cond b k 0
    line true = omega (arith, sum_const k 1)
    line false = omega (arith, sum_const k 0)

sum₂-column : (m k c : ℕ) → c < k → sum₂ m k (λ (i j : ℕ). cond (eqb j c) 1 0) ≡ m
sum₂-column m k c h =
    sum_same m (λ (i : ℕ). sum k (λ (j : ℕ). cond (eqb j c) 1 0)) (λ (i : ℕ). 1) (λ (i : ℕ) (hi : i < m). sum-once k c 1 h) ∙ omega (arith, sum_const m 1)

sum₂-once : (m k r c : ℕ) → r < m → c < k → sum₂ m k (λ (i j : ℕ). cond (eqb i r && eqb j c) 1 0) ≡ 1
sum₂-once m k r c hr hc =
    sum_same m (λ (i : ℕ). sum k (λ (j : ℕ). cond (eqb i r && eqb j c) 1 0)) (λ (i : ℕ). cond (eqb i r) 1 0) (λ (i : ℕ) (hi : i < m). line (eqb i r))
    ∙ sum-once m r 1 hr
  where
    line : (b : Bool) → sum k (λ (j : ℕ). cond (b && eqb j c) 1 0) ≡ cond b 1 0
    line true = sum-once k c 1 hc
    line false = omega (arith, sum_const k 0)

-- lengths and literals of what is below m
length-below : (m : ℕ) (f : ℕ → List (List ℤ)) → length (below m f) ≡ sum m (λ (i : ℕ). length (f i))
length-below zero f = refl
length-below (suc m) f = length-append (below m f) (f m) ∙ ap (λ (k : ℕ). k + length (f m)) (length-below m f)

literals-below : (m : ℕ) (f : ℕ → List (List ℤ)) → literals (below m f) ≡ sum m (λ (i : ℕ). literals (f i))
literals-below zero f = refl
literals-below (suc m) f = literals-append (below m f) (f m) ∙ ap (λ (k : ℕ). k + literals (f m)) (literals-below m f)

-- one literal at most, left out at one end
lower-length : (a : ℕ → ℤ) (i : ℕ) → length (lower a i) + cond (eqb i 0) 1 0 ≡ 1
lower-length a zero = refl
lower-length a (suc i) = rw (ne_eqb (suc i) 0 (λ (e : suc i ≡ 0). omega arith))

upper-length : (a : ℕ → ℤ) (p i : ℕ) → i ≤ p → length (upper a p i) + cond (eqb i p) 1 0 ≡ 1
upper-length a p i h = go (ltb i p) refl
  where
    go : (b : Bool) → ltb i p ≡ b → length (cond b (a (suc i) ∷ []) []) + cond (eqb i p) 1 0 ≡ 1
    go true e = rw (ne_eqb i p (λ (q : i ≡ p). omega (arith, ltb-true i p e)))
    go false e = rw (eq-eqb i p (omega (arith, ltb-false i p e)))

-- a clause of such parts and one more literal, or nothing where both are left out
part-literals : (c d : List ℤ) (x : ℤ) (s t : Bool) → length c + cond s 1 0 ≡ 1 → length d + cond t 1 0 ≡ 1
    → literals (cond (s && t) [] ((c ++ d ++ x ∷ []) ∷ [])) + cond (s && t) 1 0 + (cond s 1 0 + cond t 1 0) ≡ 3
part-literals c d x true true hc hd = omega arith
part-literals c d x true false hc hd = omega (arith, length-append (c ++ d) (x ∷ []), length-append c d)
part-literals c d x false t hc hd = omega (arith, length-append (c ++ d) (x ∷ []), length-append c d)

-- The clauses of one group, with outputs a1..ap and b1..bq of its parts and its own r.
module _ (a b r : ℕ → ℤ) (p q : ℕ) where
  abbrev pair : ℕ → ℕ → List (List ℤ)
  pair i j = up a b r i j ++ down a p b q r i j

  -- the pair whose up clause is left out, and that whose down clause is
  abbrev gaps : ℕ → ℕ → ℕ
  gaps i j = cond (eqb i 0 && eqb j 0) 1 0 + cond (eqb i p && eqb j q) 1 0

  -- the literals left out
  abbrev edges : ℕ → ℕ → ℕ
  edges i j = cond (eqb i 0) 1 0 + cond (eqb j 0) 1 0 + (cond (eqb i p) 1 0 + cond (eqb j q) 1 0)

  pair-length : (i j : ℕ) → length (pair i j) + gaps i j ≡ 2
  pair-length i j = go (eqb i 0 && eqb j 0) (eqb i p && eqb j q)
    where
      go : (s t : Bool)
          → length (cond s [] ((lower a i ++ lower b j ++ r (i + j) ∷ []) ∷ []) ++ cond t [] ((upper a p i ++ upper b q j ++ neg_ℤ (r (suc (i + j))) ∷ []) ∷ []))
          + (cond s 1 0 + cond t 1 0)
          ≡ 2
      go true true = refl
      go true false = refl
      go false true = refl
      go false false = refl

  pair-literals : (i j : ℕ) → i ≤ p → j ≤ q → literals (pair i j) + (gaps i j + edges i j) ≡ 6
  pair-literals i j hi hj =
      omega (
        arith,
        literals-append (up a b r i j) (down a p b q r i j),
        part-literals (lower a i) (lower b j) (r (i + j)) (eqb i 0) (eqb j 0) (lower-length a i) (lower-length b j),
        part-literals (upper a p i) (upper b q j) (neg_ℤ (r (suc (i + j)))) (eqb i p) (eqb j q) (upper-length a p i hi) (upper-length b q j hj),
      )

  sum_gaps : sum₂ (suc p) (suc q) gaps ≡ 2
  sum_gaps =
      sum₂-add (suc p) (suc q) (λ (i j : ℕ). cond (eqb i 0 && eqb j 0) 1 0) (λ (i j : ℕ). cond (eqb i p && eqb j q) 1 0)
      ∙ ap₂ ◌+◌ (sum₂-once (suc p) (suc q) 0 0 (omega arith) (omega arith)) (sum₂-once (suc p) (suc q) p q (omega arith) (omega arith))

  sum_edges : sum₂ (suc p) (suc q) edges ≡ suc q + suc p + (suc q + suc p)
  sum_edges =
      sum₂-add (suc p) (suc q) (λ (i j : ℕ). cond (eqb i 0) 1 0 + cond (eqb j 0) 1 0) (λ (i j : ℕ). cond (eqb i p) 1 0 + cond (eqb j q) 1 0)
      ∙ ap₂ ◌+◌
      (sum₂-add (suc p) (suc q) (λ (i j : ℕ). cond (eqb i 0) 1 0) (λ (i j : ℕ). cond (eqb j 0) 1 0)
      ∙ ap₂ ◌+◌ (sum₂-row (suc p) (suc q) 0 (omega arith)) (sum₂-column (suc p) (suc q) 0 (omega arith)))
      (sum₂-add (suc p) (suc q) (λ (i j : ℕ). cond (eqb i p) 1 0) (λ (i j : ℕ). cond (eqb j q) 1 0)
      ∙ ap₂ ◌+◌ (sum₂-row (suc p) (suc q) p (omega arith)) (sum₂-column (suc p) (suc q) q (omega arith)))

  adder-length : length (adder a p b q r) + 2 ≡ suc p * (suc q * 2)
  adder-length =
      let lengths : length (adder a p b q r) ≡ sum₂ (suc p) (suc q) (λ (i j : ℕ). length (pair i j)) =
      length-below (suc p) (λ (i : ℕ). below (suc q) (pair i))
      ∙ sum_same (suc p) (λ (i : ℕ). length (below (suc q) (pair i))) (λ (i : ℕ). sum (suc q) (λ (j : ℕ). length (pair i j)))
      (λ (i : ℕ) (h : i < suc p). length-below (suc q) (pair i)) in
      ap₂ ◌+◌ lengths (sym sum_gaps)
      ∙ sym (sum₂-add (suc p) (suc q) (λ (i j : ℕ). length (pair i j)) gaps)
      ∙ sum₂-same (suc p) (suc q) (λ (i j : ℕ). length (pair i j) + gaps i j) (λ (i j : ℕ). 2) (λ (i j : ℕ) (hi : i < suc p) (hj : j < suc q). pair-length i j)
      ∙ sum₂-const (suc p) (suc q) 2

  adder-literals : literals (adder a p b q r) + (2 + (suc q + suc p + (suc q + suc p))) ≡ suc p * (suc q * 6)
  adder-literals =
      let all-literals : literals (adder a p b q r) ≡ sum₂ (suc p) (suc q) (λ (i j : ℕ). literals (pair i j)) =
      literals-below (suc p) (λ (i : ℕ). below (suc q) (pair i))
      ∙ sum_same (suc p) (λ (i : ℕ). literals (below (suc q) (pair i))) (λ (i : ℕ). sum (suc q) (λ (j : ℕ). literals (pair i j)))
      (λ (i : ℕ) (h : i < suc p). literals-below (suc q) (pair i)) in
      let left_out : 2 + (suc q + suc p + (suc q + suc p)) ≡ sum₂ (suc p) (suc q) (λ (i j : ℕ). gaps i j + edges i j) =
      ap₂ ◌+◌ (sym sum_gaps) (sym sum_edges) ∙ sym (sum₂-add (suc p) (suc q) gaps edges) in
      ap₂ ◌+◌ all-literals left_out
      ∙ sym (sum₂-add (suc p) (suc q) (λ (i j : ℕ). literals (pair i j)) (λ (i j : ℕ). gaps i j + edges i j))
      ∙ sum₂-same (suc p) (suc q) (λ (i j : ℕ). literals (pair i j) + (gaps i j + edges i j)) (λ (i j : ℕ). 6)
      (λ (i j : ℕ) (hi : i < suc p) (hj : j < suc q). pair-literals i j (omega arith) (omega arith))
      ∙ sum₂-const (suc p) (suc q) 6

-- products that omega takes as unknowns
twice : (p q : ℕ) → suc p * (suc q * 2) ≡ 2 * (p * q) + (2 * p + (2 * q + 2))
twice p q = omega (arith, suc-mul p (suc q * 2), mul_assoc p (suc q) 2, mul-suc p q)

sixfold : (p q : ℕ) → suc p * (suc q * 6) ≡ 6 * (p * q) + (6 * p + (6 * q + 6))
sixfold p q = omega (arith, suc-mul p (suc q * 6), mul_assoc p (suc q) 6, mul-suc p q)

square : (p q : ℕ) → (p + q) * (p + q) ≡ p * p + (q * q + 2 * (p * q))
square p q = omega (arith, add-mul p q (p + q), mul-add p p q, mul-add q p q, mul_comm q p)

-- For any tree: clauses + size = size² + 2 · added, and literals + 3 · size = 3 · size² + 4 · added.
pub totalizer-length : (n : ℕ) (t : Tree) → length (totalizer n t) + size t ≡ size t * size t + 2 * added t
totalizer-length n (leaf x) = refl
totalizer-length n (node s t) =
    let own : List (List ℤ) = adder (output n s) (size s) (output (n + added s) t) (size t) (output n (node s t)) in
    omega (
      arith,
      length-append (totalizer n s ++ totalizer (n + added s) t) own,
      length-append (totalizer n s) (totalizer (n + added s) t),
      totalizer-length n s,
      totalizer-length (n + added s) t,
      adder-length (output n s) (output (n + added s) t) (output n (node s t)) (size s) (size t),
      twice (size s) (size t),
      square (size s) (size t),
    )

pub totalizer-literals : (n : ℕ) (t : Tree) → literals (totalizer n t) + 3 * size t ≡ 3 * (size t * size t) + 4 * added t
totalizer-literals n (leaf x) = refl
totalizer-literals n (node s t) =
    let own : List (List ℤ) = adder (output n s) (size s) (output (n + added s) t) (size t) (output n (node s t)) in
    omega (
      arith,
      literals-append (totalizer n s ++ totalizer (n + added s) t) own,
      literals-append (totalizer n s) (totalizer (n + added s) t),
      totalizer-literals n s,
      totalizer-literals (n + added s) t,
      adder-literals (output n s) (output (n + added s) t) (output n (node s t)) (size s) (size t),
      sixfold (size s) (size t),
      square (size s) (size t),
    )

-- what two halves of a list add
shares : (k m : ℕ) (l : List ℤ) → k * length (take m l) + k * length (drop m l) ≡ k * length l
shares k m l =
    sym (mul-add k (length (take m l)) (length (drop m l)))
    ∙ ap (λ (j : ℕ). k * j) (sym (length-append (take m l) (drop m l)) ∙ ap length (take-append-drop m l))

module _ (f : ℕ) (x y : ℤ) (l : List ℤ) (h : length (x ∷ y ∷ l) ≤ suc f) where
  abbrev whole : List ℤ
  whole = x ∷ y ∷ l

  abbrev half : ℕ
  half = length whole / 2

  left_length : length (take half whole) ≡ half
  left_length = omega (arith, length-take half whole)

  right_length : length (drop half whole) ≡ length whole - half
  right_length = length-drop half whole

  halves : added (halving (suc f) whole) ≡ added (halving f (take half whole)) + added (halving f (drop half whole)) + length whole
  halves =
      omega (
        arith,
        halving-size f (take half whole) (omega (arith, left_length)) (omega (arith, left_length)),
        halving-size f (drop half whole) (omega (arith, right_length)) (omega (arith, right_length)),
        left_length,
        right_length,
      )

-- By halving, at most 2 to the power k leaves add at most k variables each.
halving-most : (f : ℕ) (l : List ℤ) (k : ℕ) → 0 < length l → length l ≤ f → length l ≤ 2 ^ k → added (halving f l) ≤ k * length l
halving-most zero l k z h e = absurd (omega arith)
halving-most (suc f) [] k z h e = absurd (omega arith)
halving-most (suc f) (x ∷ []) k z h e = omega arith
halving-most (suc f) (x ∷ y ∷ l) zero z h e = absurd (omega arith)
halving-most (suc f) (x ∷ y ∷ l) (suc k) z h e =
    let m : ℕ = half f x y l h in
    let left : length (take m (x ∷ y ∷ l)) ≡ m = left_length f x y l h in
    let right : length (drop m (x ∷ y ∷ l)) ≡ length (x ∷ y ∷ l) - m = right_length f x y l h in
    let power : 2 ^ suc k ≡ 2 ^ k * 2 = pow-suc 2 k in
    omega (
      arith,
      halves f x y l h,
      shares k m (x ∷ y ∷ l),
      suc-mul k (length (x ∷ y ∷ l)),
      halving-most f (take m (x ∷ y ∷ l)) k (omega arith) (omega arith) (omega arith),
      halving-most f (drop m (x ∷ y ∷ l)) k (omega arith) (omega arith) (omega arith),
    )

-- And just as many add just k each.
halving_power : (f : ℕ) (l : List ℤ) (k : ℕ) → 0 < length l → length l ≤ f → length l ≡ 2 ^ k → added (halving f l) ≡ k * length l
halving_power zero l k z h e = absurd (omega arith)
halving_power (suc f) [] k z h e = absurd (omega arith)
halving_power (suc f) (x ∷ []) zero z h e = omega arith
halving_power (suc f) (x ∷ []) (suc k) z h e = absurd (omega (arith, pow-suc 2 k))
halving_power (suc f) (x ∷ y ∷ l) zero z h e = absurd (omega arith)
halving_power (suc f) (x ∷ y ∷ l) (suc k) z h e =
    let m : ℕ = half f x y l h in
    let left : length (take m (x ∷ y ∷ l)) ≡ m = left_length f x y l h in
    let right : length (drop m (x ∷ y ∷ l)) ≡ length (x ∷ y ∷ l) - m = right_length f x y l h in
    let power : 2 ^ suc k ≡ 2 ^ k * 2 = pow-suc 2 k in
    omega (
      arith,
      halves f x y l h,
      shares k m (x ∷ y ∷ l),
      suc-mul k (length (x ∷ y ∷ l)),
      halving_power f (take m (x ∷ y ∷ l)) k (omega arith) (omega arith) (omega arith),
      halving_power f (drop m (x ∷ y ∷ l)) k (omega arith) (omega arith) (omega arith),
    )

-- What at most 64 leaves add.
pub added-most : (l : List ℤ) → length l ≤ 64 → added (tree l) ≤ 6 * length l
added-most [] h = omega arith
added-most (x ∷ l) h = halving-most (length (x ∷ l)) (x ∷ l) 6 (omega arith) (omega arith) (omega arith)

pub added_64 : (l : List ℤ) → length l ≡ 64 → added (tree l) ≡ 384
added_64 l h = omega (arith, halving_power (length l) l 6 (omega arith) (omega arith) (omega arith))

pub added_3 : (l : List ℤ) → length l ≡ 3 → added (tree l) ≡ 5
added_3 [] h = absurd (omega arith)
added_3 (x ∷ []) h = absurd (omega arith)
added_3 (x ∷ y ∷ []) h = absurd (omega arith)
added_3 (x ∷ y ∷ z ∷ []) h = refl
added_3 (x ∷ y ∷ z ∷ w ∷ l) h = absurd (omega arith)

pub added_1 : (l : List ℤ) → length l ≤ 1 → added (tree l) ≡ 0
added_1 [] h = refl
added_1 (x ∷ []) h = refl
added_1 (x ∷ y ∷ l) h = absurd (omega arith)

-- At most 64 leaves: at most 4,800 clauses and 13,632 literals.
pub totalizer-most : (n : ℕ) (l : List ℤ) → length l ≤ 64 → (length (totalizer n (tree l)) ≤ 4800) × (literals (totalizer n (tree l)) ≤ 13632)
totalizer-most n [] h = (omega arith, omega arith)
totalizer-most n (x ∷ l) h =
    let t : Tree = tree (x ∷ l) in
    let m : size t ≡ length (x ∷ l) = tree-size (x ∷ l) (omega arith) in
    let few : size t ≤ 64 = omega arith in
    let squares : size t * size t ≤ 64 * 64 = mul-le-mul few few in
    let most : added t ≤ 6 * length (x ∷ l) = added-most (x ∷ l) h in
    (omega (arith, totalizer-length n t), omega (arith, totalizer-literals n t))

-- and the limit clause
limit-most : (n : ℕ) (l : List ℤ) (d : ℕ) → (length (limit n l d) ≤ 1) × (literals (limit n l d) ≤ 1)
limit-most n l d = go (ltb d (length l))
  where
    go : (b : Bool) → (length (cond b ((neg_ℤ (output n (tree l) (suc d)) ∷ []) ∷ []) []) ≤ 1) × (literals (cond b ((neg_ℤ (output n (tree l) (suc d)) ∷ []) ∷ []) []) ≤ 1)
    go true = (omega arith, omega arith)
    go false = (omega arith, omega arith)

pub at_most_most : (n : ℕ) (l : List ℤ) (d : ℕ) → length l ≤ 64 → (length (at_most n l d) ≤ 4801) × (literals (at_most n l d) ≤ 13633)
at_most_most n l d h =
    let t : (length (totalizer n (tree l)) ≤ 4800) × (literals (totalizer n (tree l)) ≤ 13632) = totalizer-most n l h in
    let one : (length (limit n l d) ≤ 1) × (literals (limit n l d) ≤ 1) = limit-most n l d in
    (omega (arith, length-append (totalizer n (tree l)) (limit n l d)), omega (arith, literals-append (totalizer n (tree l)) (limit n l d)))

-- The numbers of clauses at 64 leaves, at 3, and at 1 and none.
pub clauses_64 : (n : ℕ) (l : List ℤ) → length l ≡ 64 → length (totalizer n (tree l)) ≡ 4800
clauses_64 n l h =
    let m : size (tree l) ≡ 64 = tree-size l (omega arith) ∙ h in
    let squares : size (tree l) * size (tree l) ≡ 64 * 64 = ap₂ ◌*◌ m m in
    omega (arith, totalizer-length n (tree l), added_64 l h)

pub clauses_3 : (n : ℕ) (l : List ℤ) → length l ≡ 3 → length (totalizer n (tree l)) ≡ 16
clauses_3 n l h =
    let m : size (tree l) ≡ 3 = tree-size l (omega arith) ∙ h in
    let squares : size (tree l) * size (tree l) ≡ 3 * 3 = ap₂ ◌*◌ m m in
    omega (arith, totalizer-length n (tree l), added_3 l h)

pub clauses_1 : (n : ℕ) (l : List ℤ) → length l ≤ 1 → length (totalizer n (tree l)) ≡ 0
clauses_1 n [] h = refl
clauses_1 n (x ∷ []) h = refl
clauses_1 n (x ∷ y ∷ l) h = absurd (omega arith)
