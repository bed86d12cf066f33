-- What giving a variable a value changes: which assignments extend the state, how many variables are left, and the wishes that are broken.
use Rattle.std.specs.Prelude.{◌≡◌, refl, ◌⊎◌, Bool, true, false, cond, List, [], ◌∷◌, ℕ, zero, suc, ◌+◌, ◌-◌, ◌≤◌, ◌<◌, eqb, ltb, ℤ, length, get_or, set}
use Rattle.std.proofs.Common.{sym, ap, ◌∙◌, inl, inr, le_of_suc-le-suc, not-suc-le-zero, arith, length-set, get_or-set_same, get_or-set_other, eqb-true, ltb-true, ltb-false, ne_eqb}
use Rattle.std.proofs.Math.Seq.{set_out}
use Rattle.std.proofs.lemmas.Bool.{eqb-false}
use Rattle.literal.specs.Literal.{variable, wanted, value, holds}
use Rattle.literal.specs.Slots.{wanted_bit}
use Rattle.wish.specs.Wish.{cost}
use Rattle.wish.specs.Laws.{free_cost, cost-unassigned}
use Rattle.distance.specs.Distance.{disagreement}
use Rattle.choices.specs.Choices.{Choice}
use Rattle.choices.proofs.Choices.{choice_value}
use Rattle.walk.specs.State.{State, is_unset, unassigned, assign, satisfy, is_unassigned}
use Rattle.walk.specs.Extension.{Extends}

-- as a store into the list of bytes
pub assign-set : (a : List ℕ) (v b : ℕ) → 0 < v → assign a v b ≡ set a (v - 1) b
assign-set a zero b h = absurd (not-suc-le-zero h)
assign-set a (suc i) b h = let e : i ≡ suc i - 1 = omega arith in ap (λ (j : ℕ). set a j b) e

-- the byte at an index after a store
pub set_at : (a : List ℕ) (j i b : ℕ) → (i ≡ j → j < length a → get_or (set a j b) i 2 ≡ b) × ((i ≡ j → ⊥) → get_or (set a j b) i 2 ≡ get_or a i 2)
set_at a j i b = (λ e h. ap (λ (k : ℕ). get_or (set a j b) k 2) e ∙ get_or-set_same a j b 2 h, λ q. get_or-set_other a j i b 2 q)

-- another variable keeps its value
pub assign_other : (a : List ℕ) (v b u : ℕ) → (u ≡ v → ⊥) → value (assign a v b) u ≡ value a u
assign_other a zero b u h = refl
assign_other a (suc i) b zero h = refl
assign_other a (suc i) b (suc j) h = get_or-set_other a i j b 2 (λ e. h (ap suc e))

-- an assignment that extends a, and gives variable v the value b, extends a with v assigned b
pub extends_assign : {c a : List ℕ} → Extends c a → (v b : ℕ) → value c v ≡ b → Extends c (assign a v b)
extends_assign h zero b e = h
extends_assign {c} {a} h (suc j) b e = record { keeps = λ i q. at i q (ltb j (length a)) refl (eqb i j) refl }
  where
    at : (i : ℕ) → (get_or (set a j b) i 2 ≡ 2 → ⊥) → (s : Bool) → ltb j (length a) ≡ s → (t : Bool) → eqb i j ≡ t → get_or c i 2 ≡ get_or (set a j b) i 2
    at i q true k true p =
        let z : i ≡ j = eqb-true i j p in
        ap (λ (m : ℕ). get_or c m 2) z ∙ e ∙ sym ((set_at a j i b).0 z (ltb-true j (length a) k))
    at i q true k false p =
        let o : get_or (set a j b) i 2 ≡ get_or a i 2 = (set_at a j i b).1 (eqb-false i j p) in
        h.keeps i (λ w. q (o ∙ w)) ∙ sym o
    at i q false k t p =
        let o : set a j b ≡ a = set_out a j b (ltb-false j (length a) k) in
        h.keeps i (λ w. q (ap (λ (l : List ℕ). get_or l i 2) o ∙ w)) ∙ ap (λ (l : List ℕ). get_or l i 2) (sym o)

-- assigning an unassigned variable extends the state
pub assign_extends : (a : List ℕ) (v b : ℕ) → value a v ≡ 2 → Extends (assign a v b) a
assign_extends a zero b e = record { keeps = λ i q. refl }
assign_extends a (suc j) b e =
    record { keeps = λ i q. (set_at a j i b).1 (λ z. q (ap (λ (m : ℕ). get_or a m 2) z ∙ e)) }

-- the variable has the value then
pub assign_value : {n : ℕ} {a : List ℕ} → State n a → (v b : ℕ) → 0 < v → v ≤ n → value (assign a v b) v ≡ b
assign_value h zero b l u = absurd (not-suc-le-zero l)
assign_value {n} {a} h (suc j) b l u = get_or-set_same a j b 2 (omega (arith, h.size))

-- the state stays a state
pub assign_state : {n : ℕ} {a : List ℕ} → State n a → (v b : ℕ) → b ≤ 2 → State n (assign a v b)
assign_state h zero b k = h
assign_state {n} {a} h (suc j) b k = record { size = length-set a j b ∙ h.size; bytes = λ i. at i (ltb j (length a)) refl (eqb i j) refl }
  where
    at : (i : ℕ) (s : Bool) → ltb j (length a) ≡ s → (t : Bool) → eqb i j ≡ t → get_or (set a j b) i 2 ≤ 2
    at i true p true q = omega (arith, (set_at a j i b).0 (eqb-true i j q) (ltb-true j (length a) p))
    at i true p false q = omega (arith, (set_at a j i b).1 (eqb-false i j q), h.bytes i)
    at i false p t q = rw (set_out a j b (ltb-false j (length a) p)) (h.bytes i)

-- one variable fewer is unassigned
store_fewer : (a : List ℕ) (j b : ℕ) → j < length a → get_or a j 2 ≡ 2 → b < 2 → suc (unassigned (set a j b)) ≡ unassigned a
store_fewer [] j b h e k = absurd (not-suc-le-zero h)
store_fewer (x ∷ a) zero b h e k = rw (e, ne_eqb b 2 (λ q. omega arith))
store_fewer (x ∷ a) (suc j) b h e k = go (is_unset x) (store_fewer a j b (le_of_suc-le-suc h) e k)
  where
    go : (t : Bool) → suc (unassigned (set a j b)) ≡ unassigned a
        → suc (cond t (suc (unassigned (set a j b))) (unassigned (set a j b))) ≡ cond t (suc (unassigned a)) (unassigned a)
    go true q = ap suc q
    go false q = q

pub assign-fewer : {n : ℕ} {a : List ℕ} → State n a → (v b : ℕ) → 0 < v → v ≤ n → value a v ≡ 2 → b < 2 → suc (unassigned (assign a v b)) ≡ unassigned a
assign-fewer h zero b l u e k = absurd (not-suc-le-zero l)
assign-fewer {n} {a} h (suc j) b l u e k = store_fewer a j b (omega (arith, h.size)) e k

-- a running tally of broken wishes goes up by what the value costs
store_cost : (row a : List ℕ) (j b : ℕ) → j < length a → get_or a j 2 ≡ 2 → disagreement row (set a j b) ≡ disagreement row a + cost (get_or row j 2) b
store_cost [] a j b h e = omega (arith, free_cost b)
store_cost (w ∷ row) [] j b h e = absurd (not-suc-le-zero h)
store_cost (w ∷ row) (x ∷ a) zero b h e = let q : cost w x ≡ 0 = ap (cost w) e ∙ cost-unassigned w in omega arith
store_cost (w ∷ row) (x ∷ a) (suc j) b h e = omega (arith, store_cost row a j b (le_of_suc-le-suc h) e)

pub assign-cost : {n : ℕ} {a : List ℕ} → State n a → (row : List ℕ) (v b : ℕ) → 0 < v → v ≤ n → value a v ≡ 2
    → disagreement row (assign a v b) ≡ disagreement row a + cost (value row v) b
assign-cost h row zero b l u e = absurd (not-suc-le-zero l)
assign-cost {n} {a} h row (suc j) b l u e = store_cost row a j b (omega (arith, h.size)) e

-- a choice gives each variable off or on, so that it extends one of the two branches
pub extends_branch : {n : ℕ} {c a : List ℕ} → Choice n c → Extends c a → (v b : ℕ) → 0 < v → v ≤ n → b < 2
    → Extends c (assign a v b) ⊎ Extends c (assign a v (1 - b))
extends_branch {n} {c} {a} h k v b l u q = go (eqb (value c v) b) refl
  where
    go : (t : Bool) → eqb (value c v) b ≡ t → Extends c (assign a v b) ⊎ Extends c (assign a v (1 - b))
    go true e = inl (extends_assign k v b (eqb-true (value c v) b e))
    go false e =
        let other : value c v ≡ b → ⊥ = eqb-false (value c v) b e in
        let z : value c v ≡ 1 - b = omega (arith, choice_value n c h v l u) in
        inr (extends_assign k v (1 - b) z)

-- making a literal hold, where it is unassigned
pub extends_satisfy : {c a : List ℕ} → Extends c a → (x : ℤ) → holds c x ≡ true → Extends c (satisfy a x)
extends_satisfy {c} h x e = extends_assign h (variable x) (wanted x) (eqb-true (value c (variable x)) (wanted x) e)

pub satisfy_extends : (a : List ℕ) (x : ℤ) → is_unassigned a x ≡ true → Extends (satisfy a x) a
satisfy_extends a x e = assign_extends a (variable x) (wanted x) (eqb-true (value a (variable x)) 2 e)

pub satisfy_state : {n : ℕ} {a : List ℕ} → State n a → (x : ℤ) → State n (satisfy a x)
satisfy_state h x = assign_state h (variable x) (wanted x) (omega (arith, wanted_bit x))
