-- What follows from the definitions of specs/Due.antt.
use Rattle.std.specs.Prelude.{◌≡◌, refl, ◌⊎◌, Bool, true, false, cond, not, ◌&&◌, ◌||◌, ℕ, suc, ◌-◌, ◌≤◌, ◌<◌, eqb, ℤ}
use Rattle.std.proofs.Common.{sym, ap, ap₂, ◌∙◌, inl, inr, true≢false, arith, eq-eqb, eqb-true}
use mathlib.Core.List.{List, [], ◌∷◌}
use Rattle.std.proofs.Math.Decide.{ℕ_discrete}
use Rattle.literal.specs.Literal.{variable, wanted, value, holds, is_literal}
use Rattle.literal.specs.Slots.{wanted_bit}
use Rattle.formula.specs.Formula.{contains, satisfied}
use Rattle.walk.specs.State.{State, assign, is_unset, is_unassigned, unassigned_in, is_unit, is_falsified}
use Rattle.walk.proofs.Assignment.{assign_value, assign_extends, assign_other}
use Rattle.walk.proofs.Extension.{satisfied_kept}
use Rattle.walk_unit_queue.proofs.Order.{two_left}
use Rattle.walk_unit_queue.specs.Due.{Due}

-- a clause that is neither falsified nor unit asks for nothing
pub not_due : (a : List ℕ) (c : List ℤ) → is_falsified a c ≡ false → is_unit a c ≡ false → Due a c → ⊥
not_due a c f u h = omega (arith, two_left a c h.unmet u f, h.short)

-- and a unit or falsified one does
short_due : (a : List ℕ) (c : List ℤ) (m : ℕ) → m < 2 → (Due a c → ⊥) → not (satisfied a c) && eqb (unassigned_in a c) m ≡ false
short_due a c m l h = go (satisfied a c) refl (eqb (unassigned_in a c) m) refl
  where
    go : (s : Bool) → satisfied a c ≡ s → (t : Bool) → eqb (unassigned_in a c) m ≡ t → not s && t ≡ false
    go true p t q = refl
    go false p true q = absurd (h (record { unmet = p; short = omega (arith, eqb-true (unassigned_in a c) m q) }))
    go false p false q = refl

pub due_unit : (a : List ℕ) (c : List ℤ) → (Due a c → ⊥) → is_unit a c ≡ false
due_unit a c = short_due a c 1 (omega arith)

pub due_falsified : (a : List ℕ) (c : List ℤ) → (Due a c → ⊥) → is_falsified a c ≡ false
due_falsified a c = short_due a c 0 (omega arith)

-- a variable v takes the value b
module _ {n : ℕ} {a : List ℕ} (s : State n a) (v b : ℕ) (low : 0 < v) (high : v ≤ n) (free : value a v ≡ 2) (bit : b < 2) where
  -- a literal that does not hold then, and is not the one that wants the other value, is as it was
  as_before : (x : ℤ) → holds (assign a v b) x ≡ false → is_literal v (1 - b) x ≡ false → is_unassigned (assign a v b) x ≡ is_unassigned a x
  as_before x h k = elim (ℕ_discrete (variable x) v) [ yes e ↦ absurd (same e) | no e ↦ ap is_unset (assign_other a v b (variable x) e) ]
    where
      same : variable x ≡ v → ⊥
      same e = elim (ℕ_discrete (wanted x) b) [
        | yes w ↦ true≢false (sym (eq-eqb (value (assign a v b) (variable x)) (wanted x) (ap (value (assign a v b)) e ∙ assign_value s v b low high ∙ sym w)) ∙ h)
        | no w ↦ true≢false (sym (ap₂ ◌&&◌ (eq-eqb (variable x) v e) (eq-eqb (wanted x) (1 - b) (omega (arith, wanted_bit x)))) ∙ k)
      ]

  count-before : (c : List ℤ) → satisfied (assign a v b) c ≡ false → contains v (1 - b) c ≡ false → unassigned_in (assign a v b) c ≡ unassigned_in a c
  count-before [] h k = refl
  count-before (x ∷ c) h k =
      let p = or-false (holds (assign a v b) x) (satisfied (assign a v b) c) h in
      let q = or-false (is_literal v (1 - b) x) (contains v (1 - b) c) k in
      ap₂ (λ (t : Bool) (m : ℕ). cond t (suc m) m) (as_before x p.0 q.0) (count-before c p.1 q.1)
    where
      or-false : (t u : Bool) → t || u ≡ false → (t ≡ false) × (u ≡ false)
      or-false true u e = absurd (true≢false e)
      or-false false u e = (refl, e)

  pub due_later : (c : List ℤ) → Due (assign a v b) c → Due a c ⊎ (contains v (1 - b) c ≡ true)
  due_later c h = go (contains v (1 - b) c) refl
    where
      open_before : (t : Bool) → satisfied a c ≡ t → t ≡ false
      open_before true e = absurd (true≢false (sym (satisfied_kept (assign_extends a v b free) c e) ∙ h.unmet))
      open_before false e = refl

      go : (t : Bool) → contains v (1 - b) c ≡ t → Due a c ⊎ (t ≡ true)
      go true e = inr refl
      go false e = inl (record { unmet = open_before (satisfied a c) refl; short = omega (arith, count-before c h.unmet e, h.short) })
