-- What follows from the definitions of specs/Extension.antt.
use Rattle.std.specs.Prelude.{◌≡◌, refl, Bool, true, false, not, ◌&&◌, ℕ, zero, suc, ◌≤◌, eqb, ℤ}
use Rattle.std.proofs.Common.{sym, ap, ap₂, ◌∙◌, true≢false, zero-le, arith, eqb-true, ne_eqb}
use Rattle.std.proofs.Math.Bool.{and-eq-true_iff}
use mathlib.Core.List.{List, [], ◌∷◌, Memᴰ}
use Rattle.std.proofs.lemmas.Bool.{not-true, eqb-false}
use Rattle.literal.specs.Literal.{variable, wanted, value, holds}
use Rattle.literal.specs.Slots.{wanted_bit}
use Rattle.formula.specs.Formula.{satisfied}
use Rattle.wish.specs.Wish.{cost}
use Rattle.wish.specs.Laws.{cost-unassigned}
use Rattle.distance.specs.Distance.{disagreement}
use Rattle.distance.specs.Laws.{disagreement-nothing}
use Rattle.choices.proofs.Lists.{any_at, any_member, any_false}
use Rattle.walk.proofs.Counting.{count_member, count-zero}
use Rattle.walk.specs.State.{is_unset, is_unassigned, unassigned_in, is_open, is_falsified}
use Rattle.walk.specs.Extension.{Extends}

pub extends_refl : (a : List ℕ) → Extends a a
extends_refl a = record { keeps = λ i h. refl }

pub extends_trans : {c b a : List ℕ} → Extends c b → Extends b a → Extends c a
extends_trans {c} {b} {a} h k = record { keeps = λ i q. h.keeps i (λ e. q (sym (k.keeps i q) ∙ e)) ∙ k.keeps i q }

pub keeps_value : {b a : List ℕ} → Extends b a → (v : ℕ) → (value a v ≡ 2 → ⊥) → value b v ≡ value a v
keeps_value h zero q = refl
keeps_value h (suc i) q = h.keeps i q

-- an assigned literal keeps its verdict
pub holds_same : {b a : List ℕ} → Extends b a → (x : ℤ) → is_unassigned a x ≡ false → holds b x ≡ holds a x
holds_same {b} {a} h x q = ap (λ (k : ℕ). eqb k (wanted x)) (keeps_value h (variable x) (eqb-false (value a (variable x)) 2 q))

-- what holds is assigned, and goes on holding
pub holds_assigned : (a : List ℕ) (x : ℤ) → holds a x ≡ true → is_unassigned a x ≡ false
holds_assigned a x h =
    ne_eqb (value a (variable x)) 2 (λ e. omega (arith, eqb-true (value a (variable x)) (wanted x) h, wanted_bit x))

pub holds_kept : {b a : List ℕ} → Extends b a → (x : ℤ) → holds a x ≡ true → holds b x ≡ true
holds_kept {b} {a} h x q = holds_same h x (holds_assigned a x q) ∙ q

pub satisfied_kept : {b a : List ℕ} → Extends b a → (c : List ℤ) → satisfied a c ≡ true → satisfied b c ≡ true
satisfied_kept {b} {a} h c q =
    let r = any_member (holds a) c q in any_at (holds b) r.1 (holds_kept h r.0 r.2)

-- what makes an open clause true is an unassigned literal
pub satisfied_by_unassigned : {b a : List ℕ} → Extends b a → (c : List ℤ) → satisfied a c ≡ false → satisfied b c ≡ true
    → (x : ℤ) × Memᴰ x c × (holds b x ≡ true) × (is_unassigned a x ≡ true)
satisfied_by_unassigned {b} {a} h c q t =
    let r = any_member (holds b) c t in (r.0, r.1, r.2, go r.0 r.1 r.2 (is_unassigned a r.0) refl)
  where
    go : (x : ℤ) → Memᴰ x c → holds b x ≡ true → (u : Bool) → is_unassigned a x ≡ u → is_unassigned a x ≡ true
    go x m k true e = e
    go x m k false e = absurd (true≢false (sym k ∙ holds_same h x e ∙ any_false (holds a) q m))

-- a falsified clause stays falsified
-- where no literal is unassigned, each is assigned, and stays so
pub unassigned_none : (a : List ℕ) (c : List ℤ) → unassigned_in a c ≡ 0 → (x : ℤ) → Memᴰ x c → is_unassigned a x ≡ false
unassigned_none a c h x m = go (is_unassigned a x) refl
  where
    go : (b : Bool) → is_unassigned a x ≡ b → b ≡ false
    go true e = absurd (omega (arith, count_member (is_unassigned a) m e))
    go false e = refl

pub assigned_kept : {b a : List ℕ} → Extends b a → (x : ℤ) → is_unassigned a x ≡ false → is_unassigned b x ≡ false
assigned_kept {b} {a} h x q = ap is_unset (keeps_value h (variable x) (eqb-false (value a (variable x)) 2 q)) ∙ q

-- a falsified clause stays falsified
pub falsified_open : (a : List ℕ) (c : List ℤ) → is_falsified a c ≡ true → satisfied a c ≡ false
falsified_open a c h = not-true (satisfied a c) ((and-eq-true_iff (is_open a c) (eqb (unassigned_in a c) 0)).0 h).0

pub falsified_full : (a : List ℕ) (c : List ℤ) → is_falsified a c ≡ true → unassigned_in a c ≡ 0
falsified_full a c h = eqb-true (unassigned_in a c) 0 ((and-eq-true_iff (is_open a c) (eqb (unassigned_in a c) 0)).0 h).1

pub falsified_never : {b a : List ℕ} → Extends b a → (c : List ℤ) → is_falsified a c ≡ true → satisfied b c ≡ false
falsified_never {b} {a} h c q = go (satisfied b c) refl
  where
    go : (t : Bool) → satisfied b c ≡ t → t ≡ false
    go true e =
        let r = satisfied_by_unassigned h c (falsified_open a c q) e in
        absurd (true≢false (sym r.3 ∙ unassigned_none a c (falsified_full a c q) r.0 r.1))
    go false e = refl

pub falsified_kept : {b a : List ℕ} → Extends b a → (c : List ℤ) → is_falsified a c ≡ true → is_falsified b c ≡ true
falsified_kept {b} {a} h c q =
    let e : unassigned_in b c ≡ 0 = count-zero (is_unassigned b) c (λ x m. assigned_kept h x (unassigned_none a c (falsified_full a c q) x m)) in
    ap₂ (λ (s : Bool) (k : ℕ). not s && eqb k 0) (falsified_never h c q) e

cost_grows : (w x y : ℕ) → ((x ≡ 2 → ⊥) → y ≡ x) → cost w x ≤ cost w y
cost_grows w x y h = go (is_unset x) refl
  where
    go : (t : Bool) → is_unset x ≡ t → cost w x ≤ cost w y
    go true e = let q : cost w x ≡ 0 = ap (cost w) (eqb-true x 2 e) ∙ cost-unassigned w in omega arith
    go false e = let q : cost w y ≡ cost w x = ap (cost w) (h (eqb-false x 2 e)) in omega arith

-- an extension breaks as many wishes or more
pub disagreement_grows : (row b a : List ℕ) → Extends b a → disagreement row a ≤ disagreement row b
disagreement_grows [] b a h = zero-le
disagreement_grows (w ∷ row) b [] h = zero-le
disagreement_grows (w ∷ row) [] (x ∷ a) h =
    omega (arith, cost_grows w x 2 (h.keeps 0), cost-unassigned w, disagreement_grows row [] a (record { keeps = λ i. h.keeps (suc i) }), disagreement-nothing row)
disagreement_grows (w ∷ row) (y ∷ b) (x ∷ a) h =
    omega (arith, cost_grows w x y (h.keeps 0), disagreement_grows row b a (record { keeps = λ i. h.keeps (suc i) }))
