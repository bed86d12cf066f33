-- The clauses of a totalizer over leaves with rising variables are well-formed: no variable occurs twice in one, and so no literal.
use Rattle.std.specs.Prelude.{◌≡◌, refl, Bool, true, false, cond, ◌&&◌, List, [], ◌∷◌, ◌++◌, ℕ, zero, suc, ◌+◌, ◌≤◌, ◌<◌, eqb, ltb, ℤ, pos, negsuc, neg_ℤ, length}
use Rattle.std.proofs.Common.{sym, ap, ◌∙◌, le_refl, arith, ne_eqb, ltb-true, le-ltb}
use Rattle.literal.specs.Literal.{variable}
use Rattle.rule_list.specs.Sound.{may_join}
use Rattle.rule_list_soundness.specs.Flat.{joining, well_formed}
use Rattle.rule_list_soundness.specs.Laws.{and_both, all_append, joins, may_join_new}
use Rattle.totalizer.specs.Totalizer.{Tree, leaf, node, tree, size, added, output, lower, upper, up, down, below, adder, totalizer, limit, at_most, Over}
use Rattle.totalizer.proofs.Meaning.{below_all, not_first, not_last, output-variable, parts}
use Rattle.totalizer.specs.Trees.{leaves_of}
use Rattle.totalizer.proofs.Trees.{tree-leaves, tree-size}
use Rattle.totalizer.specs.Rows.{RisingLiterals}

-- leaves with variables above lo and up to hi, those of a left part below those of its right part
abbrev Ordered : ℕ → ℕ → Tree → Type 0
Ordered lo hi (leaf x) = (lo < variable x) × (variable x ≤ hi)
Ordered lo hi (node s t) = (mid : ℕ) × Ordered lo mid s × Ordered mid hi t

rising_split : (lo hi : ℕ) (l m : List ℤ) → RisingLiterals lo hi (l ++ m) → (mid : ℕ) × RisingLiterals lo mid l × RisingLiterals mid hi m
rising_split lo hi [] m r = (lo, le_refl lo, r)
rising_split lo hi (x ∷ l) m r =
    let (mid, rl, rm) = rising_split (variable x) hi l m r.1 in
    (mid, (r.0, rl), rm)

rising_ordered : (lo hi : ℕ) (t : Tree) → RisingLiterals lo hi (leaves_of t) → Ordered lo hi t
rising_ordered lo hi (leaf x) r = r
rising_ordered lo hi (node s t) r =
    let (mid, rs, rt) = rising_split lo hi (leaves_of s) (leaves_of t) r in
    (mid, rising_ordered lo mid s rs, rising_ordered mid hi t rt)

ordered_top : (lo hi : ℕ) (t : Tree) → Ordered lo hi t → lo < hi
ordered_top lo hi (leaf x) o = omega arith
ordered_top lo hi (node s t) o = omega (arith, ordered_top lo o.0 s o.1, ordered_top o.0 hi t o.2)

ordered_over : (lo hi n : ℕ) (t : Tree) → Ordered lo hi t → hi ≤ n → Over n t
ordered_over lo hi n (leaf x) o h = (omega arith, omega arith)
ordered_over lo hi n (node s t) o h = (
  ordered_over lo o.0 n s o.1 (omega (arith, ordered_top o.0 hi t o.2)),
  ordered_over o.0 hi n t o.2 h,
)

-- at most one literal, whose variable P holds of
data Part (P : ℕ → Type 0) : List ℤ → Type 0 where
  without : Part P []
  single : (x : ℤ) → P (variable x) → Part P (x ∷ [])

-- variables of 1 to N; variables that are never the same
abbrev Ranged : ℕ → (ℕ → Type 0) → Type 0
Ranged N P = (v : ℕ) → P v → (0 < v) × (v ≤ N)

abbrev Apart : (ℕ → Type 0) → (ℕ → Type 0) → Type 0
Apart P Q = (v w : ℕ) → P v → Q w → v ≡ w → ⊥

-- a literal in range that may join, and the rest of the clause
enter : (N : ℕ) (read : List ℤ) (x : ℤ) (c : List ℤ) → (0 < variable x) × (variable x ≤ N) → may_join read x ≡ true
    → joining N (x ∷ read) c ≡ true → joining N read (x ∷ c) ≡ true
enter N read x c h m e =
    joins N read x c
    (record { literal = ne_eqb (variable x) 0 (λ (q : variable x ≡ 0). omega arith); range = h.1; apart = m; rest = e })

-- a clause of two such parts and one more literal
module _ (N : ℕ) (P Q R : ℕ → Type 0) (rp : Ranged N P) (rq : Ranged N Q) (rr : Ranged N R) (qp : Apart Q P) (rP : Apart R P) (rQ : Apart R Q) where
  clause_formed : {c d : List ℤ} (x : ℤ) → Part P c → Part Q d → R (variable x) → joining N [] (c ++ d ++ x ∷ []) ≡ true
  clause_formed x without without r = enter N [] x [] (rr (variable x) r) refl refl
  clause_formed x (single u p) without r =
      enter N [] u (x ∷ []) (rp (variable u) p) refl
      (enter N (u ∷ []) x [] (rr (variable x) r) (may_join_new u [] x (rP (variable x) (variable u) r p) refl) refl)
  clause_formed x without (single v q) r =
      enter N [] v (x ∷ []) (rq (variable v) q) refl
      (enter N (v ∷ []) x [] (rr (variable x) r) (may_join_new v [] x (rQ (variable x) (variable v) r q) refl) refl)
  clause_formed x (single u p) (single v q) r =
      enter N [] u (v ∷ x ∷ []) (rp (variable u) p) refl
      (enter N (u ∷ []) v (x ∷ []) (rq (variable v) q) (may_join_new u [] v (qp (variable v) (variable u) q p) refl)
      (enter N (v ∷ u ∷ []) x [] (rr (variable x) r)
      (may_join_new v (u ∷ []) x (rQ (variable x) (variable v) r q) (may_join_new u [] x (rP (variable x) (variable u) r p) refl))
      refl))

-- the variables of the outputs a1..am
abbrev Of : (ℕ → ℤ) → ℕ → ℕ → Type 0
Of a m v = (k : ℕ) × (k < m) × (v ≡ variable (a (suc k)))

opposite_variable : (x : ℤ) → variable (neg_ℤ x) ≡ variable x
opposite_variable (pos zero) = refl
opposite_variable (pos (suc k)) = refl
opposite_variable (negsuc k) = refl

lower-part : (a : ℕ → ℤ) (m i : ℕ) → i ≤ m → Part (Of a m) (lower a i)
lower-part a m zero h = without
lower-part a m (suc k) h = single (neg_ℤ (a (suc k))) (k, h, opposite_variable (a (suc k)))

upper-part : (a : ℕ → ℤ) (m i : ℕ) → Part (Of a m) (upper a m i)
upper-part a m i = go (ltb i m) refl
  where
    go : (b : Bool) → ltb i m ≡ b → Part (Of a m) (cond b (a (suc i) ∷ []) [])
    go true e = single (a (suc i)) (i, ltb-true i m e, refl)
    go false e = without

-- The clauses of one group, where the variables of a, b and r are in range and apart.
module _ (N : ℕ) (a b r : ℕ → ℤ) (p q : ℕ) (ra : Ranged N (Of a p)) (rb : Ranged N (Of b q)) (rr : Ranged N (Of r (p + q)))
    (ba : Apart (Of b q) (Of a p)) (rA : Apart (Of r (p + q)) (Of a p)) (rB : Apart (Of r (p + q)) (Of b q)) where
  up_formed : (i j : ℕ) → i ≤ p → j ≤ q → well_formed N (up a b r i j) ≡ true
  up_formed i j hi hj = skip (eqb i 0 && eqb j 0) refl
    where
      own : (k : ℕ) → k ≡ i + j → 0 < i + j → Of r (p + q) (variable (r (i + j)))
      own zero e l = absurd (omega arith)
      own (suc k) e l = (k, omega arith, ap (λ (m : ℕ). variable (r m)) (sym e))

      skip : (s : Bool) → eqb i 0 && eqb j 0 ≡ s → well_formed N (cond s [] ((lower a i ++ lower b j ++ r (i + j) ∷ []) ∷ [])) ≡ true
      skip true e = refl
      skip false e =
          and_both (joining N [] (lower a i ++ lower b j ++ r (i + j) ∷ [])) true
          (clause_formed N (Of a p) (Of b q) (Of r (p + q)) ra rb rr ba rA rB (r (i + j)) (lower-part a p i hi) (lower-part b q j hj)
          (own (i + j) refl (not_first i j e)))
          refl

  down_formed : (i j : ℕ) → i ≤ p → j ≤ q → well_formed N (down a p b q r i j) ≡ true
  down_formed i j hi hj = skip (eqb i p && eqb j q) refl
    where
      skip : (s : Bool) → eqb i p && eqb j q ≡ s → well_formed N (cond s [] ((upper a p i ++ upper b q j ++ neg_ℤ (r (suc (i + j))) ∷ []) ∷ [])) ≡ true
      skip true e = refl
      skip false e =
          and_both (joining N [] (upper a p i ++ upper b q j ++ neg_ℤ (r (suc (i + j))) ∷ [])) true
          (clause_formed N (Of a p) (Of b q) (Of r (p + q)) ra rb rr ba rA rB (neg_ℤ (r (suc (i + j)))) (upper-part a p i) (upper-part b q j)
          (i + j, not_last i j p q hi hj e, opposite_variable (r (suc (i + j)))))
          refl

  adder_formed : well_formed N (adder a p b q r) ≡ true
  adder_formed =
      below_all (joining N []) (suc p) (λ (i : ℕ). below (suc q) (λ (j : ℕ). up a b r i j ++ down a p b q r i j))
      (λ (i : ℕ) (hi : i < suc p).
      below_all (joining N []) (suc q) (λ (j : ℕ). up a b r i j ++ down a p b q r i j)
      (λ (j : ℕ) (hj : j < suc q).
      all_append (joining N []) (up a b r i j) (down a p b q r i j)
      ∙ and_both (well_formed N (up a b r i j)) (well_formed N (down a p b q r i j))
      (up_formed i j (omega arith) (omega arith))
      (down_formed i j (omega arith) (omega arith))))

-- the outputs of two parts are apart: leaves by their order, and added variables by their numbers
outputs_apart : (n lo mid hi : ℕ) (s t : Tree) → Ordered lo mid s → Ordered mid hi t → hi ≤ n → (k m : ℕ) → k < size s → m < size t
    → variable (output (n + added s) t (suc m)) ≡ variable (output n s (suc k)) → ⊥
outputs_apart n lo mid hi (leaf x) (leaf y) os ot h k m hk hm e = omega arith
outputs_apart n lo mid hi (leaf x) (node t u) os ot h k m hk hm e = omega (arith, ordered_top mid hi (node t u) ot)
outputs_apart n lo mid hi (node s u) (leaf y) os ot h k m hk hm e = omega arith
outputs_apart n lo mid hi (node s u) (node t w) os ot h k m hk hm e = omega arith

output_range : (n m : ℕ) (t : Tree) → Over n t → n + added t ≤ m → (v : ℕ) → Of (output n t) (size t) v → (0 < v) × (v ≤ m)
output_range n m t o h v w =
    let r : (0 < variable (output n t (suc w.0))) × (variable (output n t (suc w.0)) ≤ n + added t) = output-variable n t w.0 o w.1 in
    let e : v ≡ variable (output n t (suc w.0)) = w.2 in
    (omega arith, omega arith)

totalizer_formed : (N n lo hi : ℕ) (t : Tree) → Ordered lo hi t → hi ≤ n → n + added t ≤ N → well_formed N (totalizer n t) ≡ true
totalizer_formed N n lo hi (leaf x) o h l = refl
totalizer_formed N n lo hi (node s t) o h l =
    let mid : ℕ = o.0 in
    let top : mid < hi = ordered_top mid hi t o.2 in
    let os : Over n s = ordered_over lo mid n s o.1 (omega arith) in
    let ot : Over (n + added s) t = ordered_over mid hi (n + added s) t o.2 (omega arith) in
    let own : List (List ℤ) = adder (output n s) (size s) (output (n + added s) t) (size t) (output n (node s t)) in
    parts (joining N []) n s t
    ∙ and_both (well_formed N (totalizer n s) && well_formed N (totalizer (n + added s) t)) (well_formed N own)
    (and_both (well_formed N (totalizer n s)) (well_formed N (totalizer (n + added s) t))
    (totalizer_formed N n lo mid s o.1 (omega arith) (omega arith))
    (totalizer_formed N (n + added s) mid hi t o.2 (omega arith) (omega arith)))
    (adder_formed N (output n s) (output (n + added s) t) (output n (node s t)) (size s) (size t)
    (output_range n N s os (omega arith))
    (output_range (n + added s) N t ot (omega arith))
    (output_range n N (node s t) (os, ordered_over mid hi n t o.2 h) l)
    (λ (v w : ℕ) (y : Of (output (n + added s) t) (size t) v) (x : Of (output n s) (size s) w) (e : v ≡ w).
    outputs_apart n lo mid hi s t o.1 o.2 h x.0 y.0 x.1 y.1 (sym y.2 ∙ e ∙ x.2))
    (λ (v w : ℕ) (z : Of (output n (node s t)) (size s + size t) v) (x : Of (output n s) (size s) w) (e : v ≡ w).
    omega (arith, z.2, output_range n (n + added s) s os (omega arith) w x))
    (λ (v w : ℕ) (z : Of (output n (node s t)) (size s + size t) v) (y : Of (output (n + added s) t) (size t) w) (e : v ≡ w).
    omega (arith, z.2, output_range (n + added s) (n + added s + added t) t ot (omega arith) w y)))

-- The clauses over leaves whose variables rise and are among 1 to n are well-formed over those and the added ones.
pub at_most_formed : (n : ℕ) (l : List ℤ) (d : ℕ) → RisingLiterals 0 n l → well_formed (n + added (tree l)) (at_most n l d) ≡ true
at_most_formed n [] d r = rw (le-ltb d 0 (omega arith))
at_most_formed n (x ∷ l) d r =
    let t : Tree = tree (x ∷ l) in
    let N : ℕ = n + added t in
    let o : Ordered 0 n t = rising_ordered 0 n t (rw (tree-leaves (x ∷ l) (omega arith)) r) in
    all_append (joining N []) (totalizer n t) (limit n (x ∷ l) d)
    ∙ and_both (well_formed N (totalizer n t)) (well_formed N (limit n (x ∷ l) d))
    (totalizer_formed N n 0 n t o (omega arith) (omega arith))
    (last (ltb d (length (x ∷ l))) refl (ordered_over 0 n n t o (omega arith)))
  where
    last : (b : Bool) → ltb d (length (x ∷ l)) ≡ b → Over n (tree (x ∷ l))
        → well_formed (n + added (tree (x ∷ l))) (cond b ((neg_ℤ (output n (tree (x ∷ l)) (suc d)) ∷ []) ∷ []) []) ≡ true
    last true e o =
        let h : d < size (tree (x ∷ l)) = omega (arith, ltb-true d (length (x ∷ l)) e, tree-size (x ∷ l) (omega arith)) in
        let y : ℤ = output n (tree (x ∷ l)) (suc d) in
        and_both (joining (n + added (tree (x ∷ l))) [] (neg_ℤ y ∷ [])) true
        (enter (n + added (tree (x ∷ l))) [] (neg_ℤ y) []
        (rw (opposite_variable y) (output-variable n (tree (x ∷ l)) d o h))
        refl
        refl)
        refl
    last false e o = refl
