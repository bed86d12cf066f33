-- The order in which unit clauses are taken does not matter. No arrangement is named here: that settling by it ends as settling by the list does, which document 02 (L10) asks, is `sound_alike` in Theorems.antt.
use Rattle.std.specs.Prelude.{◌≡◌, refl, ◌⊎◌, Bool, true, false, cond, not, ◌&&◌, List, [], ◌∷◌, ℕ, suc, ◌≤◌, eqb, ℤ, get_or}
use Rattle.std.proofs.Common.{sym, ap, ap₂, ◌∙◌, inl, inr, true≢false, arith, ext_get_or}
use Rattle.std.proofs.lemmas.Option.{same_Some}
use Rattle.std.proofs.Math.Decide.{ℕ_discrete}
use Rattle.literal.specs.Literal.{holds}
use Rattle.formula.specs.Formula.{any, satisfied}
use Rattle.choices.proofs.Lists.{any_at, any_member, any_false}
use Rattle.walk.specs.State.{State, satisfy, is_unassigned, unassigned_in, is_unit, is_falsified}
use Rattle.walk.proofs.PropagationLaws.{unit_one}
use Rattle.walk.specs.Extension.{Extends}
use Rattle.walk.proofs.Extension.{assigned_kept, satisfied_by_unassigned, falsified_kept}
use Rattle.walk.proofs.Counting.{find_only}
use Rattle.walk.proofs.Assignment.{extends_satisfy}
use Rattle.walk_unit_queue.specs.Steps.{UnitOf, Steps, Quiet}
use Rattle.walk_unit_queue.proofs.Steps.{steps_extend, steps_state}

-- an extension leaves no more literals unassigned
pub fewer-unassigned : {b a : List ℕ} → Extends b a → (c : List ℤ) → unassigned_in b c ≤ unassigned_in a c
fewer-unassigned h [] = omega arith
fewer-unassigned {b} {a} h (x ∷ c) = go (is_unassigned b x) refl (is_unassigned a x) refl (fewer-unassigned h c)
  where
    go : (t : Bool) → is_unassigned b x ≡ t → (u : Bool) → is_unassigned a x ≡ u → unassigned_in b c ≤ unassigned_in a c
        → cond t (suc (unassigned_in b c)) (unassigned_in b c) ≤ cond u (suc (unassigned_in a c)) (unassigned_in a c)
    go true p true q l = omega arith
    go true p false q l = absurd (true≢false (sym p ∙ assigned_kept h x q))
    go false p true q l = omega arith
    go false p false q l = l

-- an open clause that is neither unit nor falsified has two unassigned literals or more
pub two_left : (a : List ℕ) (c : List ℤ) → satisfied a c ≡ false → is_unit a c ≡ false → is_falsified a c ≡ false → 2 ≤ unassigned_in a c
two_left a c s u f = elim (ℕ_discrete (unassigned_in a c) 0) [ yes z ↦ absurd (none z) | no z ↦ elim (ℕ_discrete (unassigned_in a c) 1) [ yes w ↦ absurd (one w) | no w ↦ omega arith ] ]
  where
    none : unassigned_in a c ≡ 0 → ⊥
    none z = true≢false (sym (ap₂ (λ (t : Bool) (k : ℕ). not t && eqb k 0) s z) ∙ f)

    one : unassigned_in a c ≡ 1 → ⊥
    one z = true≢false (sym (ap₂ (λ (t : Bool) (k : ℕ). not t && eqb k 1) s z) ∙ u)

-- a state without a unit or falsified clause makes the literal of every clause hold that was unit before
unit_holds : {f : List (List ℤ)} {c a : List ℕ} → Extends c a → Quiet f c → any (is_falsified c) f ≡ false → {x : ℤ} → UnitOf f a x → holds c x ≡ true
unit_holds {f} {c} {a} h quiet alive {x} u = go (satisfied c u.clause) refl
  where
    was : (satisfied a u.clause ≡ false) × (unassigned_in a u.clause ≡ 1)
    was = unit_one a u.clause u.unit

    go : (t : Bool) → satisfied c u.clause ≡ t → holds c x ≡ true
    go true e =
        let y = satisfied_by_unassigned h u.clause was.0 e in
        let same = same_Some y.0 x (sym (find_only (is_unassigned a) was.1 y.1 y.3) ∙ u.literal) in
        ap (holds c) (sym same) ∙ y.2
    go false e =
        absurd (omega (arith, two_left c u.clause e (quiet u.clause u.stands) (any_false (is_falsified c) alive u.stands), fewer-unassigned h u.clause, was.1))

-- so it extends whatever the steps lead to from a state that it extends
pub steps_within : {f : List (List ℤ)} {c : List ℕ} → Quiet f c → any (is_falsified c) f ≡ false → (a : List ℕ) (xs : List ℤ) {b : List ℕ} → Steps f a xs b → Extends c a → Extends c b
steps_within quiet alive a [] {b} e h = rw (sym e) h
steps_within quiet alive a (x ∷ xs) s h = steps_within quiet alive (satisfy a x) xs s.1 (extends_satisfy h x (unit_holds h quiet alive s.0))

-- two states that extend one another are the same
pub extend_both : {n : ℕ} {b c : List ℕ} → State n b → State n c → Extends b c → Extends c b → b ≡ c
extend_both {n} {b} {c} p q h k = ext_get_or 2 b c (p.size ∙ sym q.size) (λ i l. elim (ℕ_discrete (get_or c i 2) 2) [ yes z ↦ both i z | no z ↦ h.keeps i z ])
  where
    both : (i : ℕ) → get_or c i 2 ≡ 2 → get_or b i 2 ≡ get_or c i 2
    both i z = elim (ℕ_discrete (get_or b i 2) 2) [ yes w ↦ w ∙ sym z | no w ↦ sym (k.keeps i w) ]

-- wherever steps from one state lead until no clause is unit, there is a falsified clause in both, or it is one state
pub order_irrelevant : (n : ℕ) (f : List (List ℤ)) (a : List ℕ) → State n a → (xs ys : List ℤ) (b c : List ℕ) → Steps f a xs b → Steps f a ys c → Quiet f b → Quiet f c
    → ((any (is_falsified b) f ≡ true) × (any (is_falsified c) f ≡ true)) ⊎ (b ≡ c)
order_irrelevant n f a h xs ys b c p q quiet-b quiet-c = go (any (is_falsified b) f) refl (any (is_falsified c) f) refl
  where
    -- what is falsified stays so
    still : {u v : List ℕ} → Extends u v → any (is_falsified v) f ≡ true → any (is_falsified u) f ≡ true
    still {u} {v} e t = let r = any_member (is_falsified v) f t in any_at (is_falsified u) r.1 (falsified_kept e r.0 r.2)

    go : (s : Bool) → any (is_falsified b) f ≡ s → (t : Bool) → any (is_falsified c) f ≡ t → ((s ≡ true) × (t ≡ true)) ⊎ (b ≡ c)
    go true e true k = inl (refl, refl)
    go true e false k = absurd (true≢false (sym (still (steps_within quiet-c k a xs p (steps_extend f a ys q)) e) ∙ k))
    go false e true k = absurd (true≢false (sym (still (steps_within quiet-b e a ys q (steps_extend f a xs p)) k) ∙ e))
    go false e false k =
        inr (extend_both (steps_state f a xs h p) (steps_state f a ys h q) (steps_within quiet-b e a ys q (steps_extend f a xs p)) (steps_within quiet-c k a xs p (steps_extend f a ys q)))
