-- What follows from the definitions of specs/Meaning.antt.
use Rattle.std.specs.Prelude.{◌≡◌, refl, Bool, true, false, cond, not, ◌&&◌, ◌||◌, List, [], ◌∷◌, ◌++◌, ℕ, zero, suc, ◌+◌, ◌-◌, ◌≤◌, ◌<◌, min, eqb, ltb, ℤ, pos, negsuc, neg_ℤ}
use Rattle.std.proofs.Common.{sym, ap, ap₂, ◌∙◌, true≢false, not-suc-le-zero, arith, ltb-true, ltb-false, lt-ltb, le-ltb, eqb-true, eq-eqb, ne_eqb}
use Rattle.std.proofs.Math.Bool.{or-false, or_assoc, and-true, not-not}
use Rattle.std.proofs.lemmas.Bool.{eqb-false, not-true}
use Rattle.literal.specs.Literal.{variable}
use Rattle.formula.specs.Formula.{any, all}
use Rattle.rule_list_soundness.specs.Laws.{and_left, and_right, and_both, all_append}
use Rattle.totalizer.specs.Totalizer.{Tree, leaf, node, size, added, output, lower, upper, up, down, below, adder, totalizer, on, count, Over, Counts, AllCount}
use Rattle.totalizer.specs.Meaning.{Opposite, Signed}

-- that is so where every variable has a truth value of its own
pub on_opposite : (σ : ℕ → Bool) (n : ℕ) → Opposite (on σ) n
on_opposite σ n (pos zero) z h = absurd (not-suc-le-zero z)
on_opposite σ n (pos (suc k)) z h = refl
on_opposite σ n (negsuc k) z h = sym (not-not (σ (suc k)))

-- tests of two lists, one after the other
any_append : (h : ℤ → Bool) (c d : List ℤ) → any h (c ++ d) ≡ any h c || any h d
any_append h [] d = refl
any_append h (x ∷ c) d = ap (λ (b : Bool). h x || b) (any_append h c d) ∙ sym (or_assoc (h x) (any h c) (any h d))

-- what is below m holds exactly when each of it does
pub below_at : (p : List ℤ → Bool) (m : ℕ) (f : ℕ → List (List ℤ)) → all p (below m f) ≡ true → (i : ℕ) → i < m → all p (f i) ≡ true
below_at p zero f e i h = absurd (not-suc-le-zero h)
below_at p (suc m) f e i h =
    pick (eqb i m) refl (all_append p (below m f) (f m)) (below_at p m f)
  where
    pick : (b : Bool) → eqb i m ≡ b → all p (below m f ++ f m) ≡ all p (below m f) && all p (f m)
        → (all p (below m f) ≡ true → (j : ℕ) → j < m → all p (f j) ≡ true) → all p (f i) ≡ true
    pick true q s ih = ap (λ (j : ℕ). all p (f j)) (eqb-true i m q) ∙ and_right (all p (below m f)) (all p (f m)) (sym s ∙ e)
    pick false q s ih = ih (and_left (all p (below m f)) (all p (f m)) (sym s ∙ e)) i (less (eqb-false i m q))
      where
        less : (i ≡ m → ⊥) → i < m
        less ne = omega arith

pub below_all : (p : List ℤ → Bool) (m : ℕ) (f : ℕ → List (List ℤ)) → ((i : ℕ) → i < m → all p (f i) ≡ true) → all p (below m f) ≡ true
below_all p zero f g = refl
below_all p (suc m) f g =
    all_append p (below m f) (f m)
    ∙ and_both (all p (below m f)) (all p (f m)) (below_all p m f (λ (i : ℕ) (h : i < m). g i (omega arith))) (g m (omega arith))

-- a pair that is not the pair left out
unequal : (i j p q : ℕ) → (i ≡ p → j ≡ q → ⊥) → eqb i p && eqb j q ≡ false
unequal i j p q h = go (eqb i p) refl
  where
    go : (b : Bool) → eqb i p ≡ b → b && eqb j q ≡ false
    go true e = ne_eqb j q (h (eqb-true i p e))
    go false e = refl

apart : (i j p q : ℕ) → eqb i p && eqb j q ≡ false → i ≡ p → j ≡ q → ⊥
apart i j p q h e f = true≢false (sym (and_both (eqb i p) (eqb j q) (eq-eqb i p e) (eq-eqb j q f)) ∙ h)

pub not_first : (i j : ℕ) → eqb i 0 && eqb j 0 ≡ false → 0 < i + j
not_first i j h = go (ltb 0 (i + j)) refl
  where
    go : (b : Bool) → ltb 0 (i + j) ≡ b → 0 < i + j
    go true e = ltb-true 0 (i + j) e
    go false e = absurd (apart i j 0 0 h (omega (arith, ltb-false 0 (i + j) e)) (omega (arith, ltb-false 0 (i + j) e)))

pub not_last : (i j p q : ℕ) → i ≤ p → j ≤ q → eqb i p && eqb j q ≡ false → i + j < p + q
not_last i j p q hi hj h = go (ltb (i + j) (p + q)) refl
  where
    go : (b : Bool) → ltb (i + j) (p + q) ≡ b → i + j < p + q
    go true e = ltb-true (i + j) (p + q) e
    go false e = absurd (apart i j p q h (omega (arith, ltb-false (i + j) (p + q) e)) (omega (arith, ltb-false (i + j) (p + q) e)))

-- at least k + 1 do not hold: at most k do
over_under : (k c : ℕ) → not (ltb k c) ≡ ltb c (suc k)
over_under k c = go (ltb k c) refl
  where
    go : (b : Bool) → ltb k c ≡ b → not b ≡ ltb c (suc k)
    go true e = sym (le-ltb c (suc k) (ltb-true k c e))
    go false e = sym (lt-ltb c (suc k) (omega (arith, ltb-false k c e)))

-- where outputs count c, what a clause says by them
lower_says : (h : ℤ → Bool) (a : ℕ → ℤ) (m c : ℕ) → Counts h a m c → Signed h a m → (i : ℕ) → i ≤ m → any h (lower a i) ≡ ltb c i
lower_says h a m c r s zero l = sym (le-ltb c 0 (omega arith))
lower_says h a m c r s (suc k) l = or-false (h (neg_ℤ (a (suc k)))) ∙ s k l ∙ ap not (r k l) ∙ over_under k c

upper_says : (h : ℤ → Bool) (a : ℕ → ℤ) (m c : ℕ) → c ≤ m → Counts h a m c → (i : ℕ) → i ≤ m → any h (upper a m i) ≡ ltb i c
upper_says h a m c b r i l = go (ltb i m) refl
  where
    go : (t : Bool) → ltb i m ≡ t → any h (cond t (a (suc i) ∷ []) []) ≡ ltb i c
    go true e = or-false (h (a (suc i))) ∙ r i (ltb-true i m e)
    go false e = sym (le-ltb i c (omega (arith, ltb-false i m e)))

-- The clauses of one group, whose parts' outputs count x of p and y of q leaves.
module _ (h : ℤ → Bool) (a b r : ℕ → ℤ) (p q x y : ℕ) (xp : x ≤ p) (yq : y ≤ q) (ca : Counts h a p x) (cb : Counts h b q y)
    (sa : Signed h a p) (sb : Signed h b q) (sr : Signed h r (p + q)) where
  up_says : (i j : ℕ) → i ≤ p → j ≤ q → any h (lower a i ++ lower b j ++ r (i + j) ∷ []) ≡ ltb x i || ltb y j || h (r (i + j))
  up_says i j hi hj =
      any_append h (lower a i ++ lower b j) (r (i + j) ∷ [])
      ∙ ap₂ ◌||◌
      (any_append h (lower a i) (lower b j) ∙ ap₂ ◌||◌ (lower_says h a p x ca sa i hi) (lower_says h b q y cb sb j hj))
      (or-false (h (r (i + j))))

  down_says : (i j : ℕ) → i ≤ p → j ≤ q
      → any h (upper a p i ++ upper b q j ++ neg_ℤ (r (suc (i + j))) ∷ []) ≡ ltb i x || ltb j y || h (neg_ℤ (r (suc (i + j))))
  down_says i j hi hj =
      any_append h (upper a p i ++ upper b q j) (neg_ℤ (r (suc (i + j))) ∷ [])
      ∙ ap₂ ◌||◌
      (any_append h (upper a p i) (upper b q j) ∙ ap₂ ◌||◌ (upper_says h a p x xp ca i hi) (upper_says h b q y yq cb j hj))
      (or-false (h (neg_ℤ (r (suc (i + j))))))

  -- an up clause makes its output hold, and a down clause keeps it off
  up_gives : (i j : ℕ) → i ≤ x → j ≤ y → 0 < i + j → all (any h) (up a b r i j) ≡ true → h (r (i + j)) ≡ true
  up_gives i j hi hj z e =
      let skip : eqb i 0 && eqb j 0 ≡ false = unequal i j 0 0 (λ (u : i ≡ 0) (v : j ≡ 0). omega arith) in
      let one : any h (lower a i ++ lower b j ++ r (i + j) ∷ []) && true ≡ true = rw skip at e in
      let says : any h (lower a i ++ lower b j ++ r (i + j) ∷ []) ≡ ltb x i || ltb y j || h (r (i + j)) = up_says i j (omega arith) (omega arith) in
      let rest : ltb x i || ltb y j || h (r (i + j)) ≡ h (r (i + j)) = rw (le-ltb x i hi, le-ltb y j hj) in
      sym rest ∙ sym says ∙ sym (and-true (any h (lower a i ++ lower b j ++ r (i + j) ∷ []))) ∙ one

  down_gives : (i j : ℕ) → x ≤ i → i ≤ p → y ≤ j → j ≤ q → i + j < p + q → all (any h) (down a p b q r i j) ≡ true → h (r (suc (i + j))) ≡ false
  down_gives i j xi hi yj hj l e =
      let skip : eqb i p && eqb j q ≡ false = unequal i j p q (λ (u : i ≡ p) (v : j ≡ q). omega arith) in
      let one : any h (upper a p i ++ upper b q j ++ neg_ℤ (r (suc (i + j))) ∷ []) && true ≡ true = rw skip at e in
      let rest : ltb i x || ltb j y || h (neg_ℤ (r (suc (i + j)))) ≡ h (neg_ℤ (r (suc (i + j)))) = rw (le-ltb i x xi, le-ltb j y yj) in
      not-true (h (r (suc (i + j))))
      (sym (sr (i + j) l)
      ∙ sym rest
      ∙ sym (down_says i j hi hj)
      ∙ sym (and-true (any h (upper a p i ++ upper b q j ++ neg_ℤ (r (suc (i + j))) ∷ [])))
      ∙ one)

  -- outputs that count right meet both
  up_met : Counts h r (p + q) (x + y) → (i j : ℕ) → i ≤ p → j ≤ q → all (any h) (up a b r i j) ≡ true
  up_met cr i j hi hj = skip (eqb i 0 && eqb j 0) refl
    where
      held : (k : ℕ) → k ≡ i + j → 0 < i + j → i ≤ x → j ≤ y → h (r (i + j)) ≡ true
      held zero e l ix jy = absurd (omega arith)
      held (suc k) e l ix jy = ap (λ (m : ℕ). h (r m)) (sym e) ∙ cr k (omega arith) ∙ lt-ltb k (x + y) (omega arith)

      right : (s t : Bool) → ltb x i ≡ s → ltb y j ≡ t → 0 < i + j → s || t || h (r (i + j)) ≡ true
      right true t es et l = refl
      right false true es et l = refl
      right false false es et l = held (i + j) refl l (ltb-false x i es) (ltb-false y j et)

      skip : (s : Bool) → eqb i 0 && eqb j 0 ≡ s → all (any h) (cond s [] ((lower a i ++ lower b j ++ r (i + j) ∷ []) ∷ [])) ≡ true
      skip true e = refl
      skip false e =
          and-true (any h (lower a i ++ lower b j ++ r (i + j) ∷ []))
          ∙ up_says i j hi hj
          ∙ right (ltb x i) (ltb y j) refl refl (not_first i j e)

  down_met : Counts h r (p + q) (x + y) → (i j : ℕ) → i ≤ p → j ≤ q → all (any h) (down a p b q r i j) ≡ true
  down_met cr i j hi hj = skip (eqb i p && eqb j q) refl
    where
      off : i + j < p + q → x ≤ i → y ≤ j → h (neg_ℤ (r (suc (i + j)))) ≡ true
      off l ix jy = sr (i + j) l ∙ ap not (cr (i + j) l ∙ le-ltb (i + j) (x + y) (omega arith))

      right : (s t : Bool) → ltb i x ≡ s → ltb j y ≡ t → i + j < p + q → s || t || h (neg_ℤ (r (suc (i + j)))) ≡ true
      right true t es et l = refl
      right false true es et l = refl
      right false false es et l = off l (ltb-false i x es) (ltb-false j y et)

      skip : (s : Bool) → eqb i p && eqb j q ≡ s → all (any h) (cond s [] ((upper a p i ++ upper b q j ++ neg_ℤ (r (suc (i + j))) ∷ []) ∷ [])) ≡ true
      skip true e = refl
      skip false e =
          and-true (any h (upper a p i ++ upper b q j ++ neg_ℤ (r (suc (i + j))) ∷ []))
          ∙ down_says i j hi hj
          ∙ right (ltb i x) (ltb j y) refl refl (not_last i j p q hi hj e)

  -- the clauses hold exactly when the outputs count x + y
  adder_met : Counts h r (p + q) (x + y) → all (any h) (adder a p b q r) ≡ true
  adder_met cr =
      below_all (any h) (suc p) (λ (i : ℕ). below (suc q) (λ (j : ℕ). up a b r i j ++ down a p b q r i j))
      (λ (i : ℕ) (hi : i < suc p).
      below_all (any h) (suc q) (λ (j : ℕ). up a b r i j ++ down a p b q r i j)
      (λ (j : ℕ) (hj : j < suc q).
      all_append (any h) (up a b r i j) (down a p b q r i j)
      ∙ and_both (all (any h) (up a b r i j)) (all (any h) (down a p b q r i j))
      (up_met cr i j (omega arith) (omega arith))
      (down_met cr i j (omega arith) (omega arith))))

  module _ (e : all (any h) (adder a p b q r) ≡ true) where
    at : (i j : ℕ) → i ≤ p → j ≤ q → all (any h) (up a b r i j) && all (any h) (down a p b q r i j) ≡ true
    at i j hi hj =
        sym (all_append (any h) (up a b r i j) (down a p b q r i j))
        ∙ below_at (any h) (suc q) (λ (k : ℕ). up a b r i k ++ down a p b q r i k)
        (below_at (any h) (suc p) (λ (l : ℕ). below (suc q) (λ (k : ℕ). up a b r l k ++ down a p b q r l k)) e i (omega arith))
        j (omega arith)

    -- the pair whose up clause makes output k + 1 hold, where it should
    reached : (k : ℕ) → k < x + y → h (r (suc k)) ≡ true
    reached k l =
        let i : ℕ = min x (suc k) in
        let j : ℕ = suc k - i in
        let sum : i + j ≡ suc k = omega arith in
        ap (λ (m : ℕ). h (r m)) (sym sum)
        ∙ up_gives i j (omega arith) (omega arith) (omega arith)
        (and_left (all (any h) (up a b r i j)) (all (any h) (down a p b q r i j)) (at i j (omega arith) (omega arith)))

    -- and the pair whose down clause keeps it off, where it should
    unreached : (k : ℕ) → k < p + q → x + y ≤ k → h (r (suc k)) ≡ false
    unreached k l m =
        let i : ℕ = min p (k - y) in
        let j : ℕ = k - i in
        let sum : i + j ≡ k = omega arith in
        ap (λ (m : ℕ). h (r (suc m))) (sym sum)
        ∙ down_gives i j (omega arith) (omega arith) (omega arith) (omega arith) (omega arith)
        (and_right (all (any h) (up a b r i j)) (all (any h) (down a p b q r i j)) (at i j (omega arith) (omega arith)))

    adder_counts : Counts h r (p + q) (x + y)
    adder_counts k l = go (ltb k (x + y)) refl
      where
        go : (t : Bool) → ltb k (x + y) ≡ t → h (r (suc k)) ≡ t
        go true u = reached k (ltb-true k (x + y) u)
        go false u = unreached k l (ltb-false k (x + y) u)

pub count_most : (h : ℤ → Bool) (t : Tree) → count h t ≤ size t
count_most h (leaf x) = one (h x)
  where
    one : (b : Bool) → cond b 1 0 ≤ 1
    one true = omega arith
    one false = omega arith
count_most h (node s t) = omega (arith, count_most h s, count_most h t)

-- the outputs of a group that is right count its leaves
pub right_counts : (h : ℤ → Bool) (n : ℕ) (t : Tree) → AllCount h n t → Counts h (output n t) (size t) (count h t)
right_counts h n (leaf x) r zero l = one (h x)
  where
    one : (b : Bool) → b ≡ ltb 0 (cond b 1 0)
    one true = refl
    one false = refl
right_counts h n (leaf x) r (suc k) l = absurd (omega arith)
right_counts h n (node s t) r k l = r.2 k l

-- they are literals of the variables 1 to n + added t
pub output-variable : (n : ℕ) (t : Tree) (k : ℕ) → Over n t → k < size t → (0 < variable (output n t (suc k))) × (variable (output n t (suc k)) ≤ n + added t)
output-variable n (leaf x) k o l = (o.0, omega arith)
output-variable n (node s t) k o l = (omega arith, omega arith)

pub signed : (h : ℤ → Bool) (n m : ℕ) (t : Tree) → Opposite h m → n + added t ≤ m → Over n t → Signed h (output n t) (size t)
signed h n m t u l o k hk =
    let v : (0 < variable (output n t (suc k))) × (variable (output n t (suc k)) ≤ n + added t) = output-variable n t k o hk in
    u (output n t (suc k)) v.0 (omega arith)

pub over_more : (n m : ℕ) (t : Tree) → n ≤ m → Over n t → Over m t
over_more n m (leaf x) l o = (o.0, omega arith)
over_more n m (node s t) l o = (over_more n m s l o.0, over_more n m t l o.1)

-- a test of the clauses of two parts and of their adder
pub parts : (p : List ℤ → Bool) (n : ℕ) (s t : Tree)
    → all p (totalizer n (node s t))
    ≡ all p (totalizer n s)
    && all p (totalizer (n + added s) t)
    && all p (adder (output n s) (size s) (output (n + added s) t) (size t) (output n (node s t)))
parts p n s t =
    let own : List (List ℤ) = adder (output n s) (size s) (output (n + added s) t) (size t) (output n (node s t)) in
    all_append p (totalizer n s ++ totalizer (n + added s) t) own
    ∙ ap (λ (b : Bool). b && all p own) (all_append p (totalizer n s) (totalizer (n + added s) t))

-- The clauses of a group hold exactly when every output of every group in it is right, whatever the leaves, repeated or not, and whatever n.
module _ (h : ℤ → Bool) (m : ℕ) (u : Opposite h m) where
  pub totalizer_right : (n : ℕ) (t : Tree) → n + added t ≤ m → Over n t → all (any h) (totalizer n t) ≡ true → AllCount h n t
  totalizer_right n (leaf x) l o e = tt
  totalizer_right n (node s t) l o e =
      let own : Bool = all (any h) (adder (output n s) (size s) (output (n + added s) t) (size t) (output n (node s t))) in
      let left : Bool = all (any h) (totalizer n s) in
      let right : Bool = all (any h) (totalizer (n + added s) t) in
      let f : left && right && own ≡ true = sym (parts (any h) n s t) ∙ e in
      let g : left && right ≡ true = and_left (left && right) own f in
      let ot : Over (n + added s) t = over_more n (n + added s) t (omega arith) o.1 in
      let rs : AllCount h n s = totalizer_right n s (omega arith) o.0 (and_left left right g) in
      let rt : AllCount h (n + added s) t = totalizer_right (n + added s) t (omega arith) ot (and_right left right g) in (
        rs,
        rt,
        adder_counts h (output n s) (output (n + added s) t) (output n (node s t)) (size s) (size t) (count h s) (count h t) (count_most h s) (count_most h t)
            (right_counts h n s rs)
            (right_counts h (n + added s) t rt)
            (signed h n m s u (omega arith) o.0)
            (signed h (n + added s) m t u (omega arith) ot)
            (signed h n m (node s t) u l o)
            (and_right (left && right) own f),
      )

  pub right_totalizer : (n : ℕ) (t : Tree) → n + added t ≤ m → Over n t → AllCount h n t → all (any h) (totalizer n t) ≡ true
  right_totalizer n (leaf x) l o r = refl
  right_totalizer n (node s t) l o r =
      let own : Bool = all (any h) (adder (output n s) (size s) (output (n + added s) t) (size t) (output n (node s t))) in
      let left : Bool = all (any h) (totalizer n s) in
      let right : Bool = all (any h) (totalizer (n + added s) t) in
      let ot : Over (n + added s) t = over_more n (n + added s) t (omega arith) o.1 in
      parts (any h) n s t
      ∙ and_both (left && right) own
      (and_both left right (right_totalizer n s (omega arith) o.0 r.0) (right_totalizer (n + added s) t (omega arith) ot r.1))
      (adder_met h (output n s) (output (n + added s) t) (output n (node s t)) (size s) (size t) (count h s) (count h t) (count_most h s) (count_most h t)
      (right_counts h n s r.0)
      (right_counts h (n + added s) t r.1)
      (signed h n m s u (omega arith) o.0)
      (signed h (n + added s) m t u (omega arith) ot)
      (signed h n m (node s t) u l o)
      r.2)
