-- What follows from the definitions of specs/Lists.antt.
use Rattle.std.specs.Prelude.{◌≡◌, refl, ◌↔◌, Bool, true, false, cond, ◌&&◌, ◌||◌, ℕ, zero, suc, min, ◌≤◌, ◌<◌, leb, length, get_or, Option, None, Some, option_map}
use Rattle.std.proofs.Common.{sym, ap, subst, ◌∙◌, true≢false, le_of_suc-le-suc, not-suc-le-zero, arith, leb-true, leb-false}
use Rattle.std.proofs.Math.Bool.{or-true}
use mathlib.Core.List.Memᴰ
use mathlib.Core.List.{List, [], ◌∷◌, Memᴰ}
use Rattle.std.proofs.lemmas.Option.{same_Some, none-some}
use Rattle.std.proofs.Math.Nat.{min-eq_left, min-eq_right}
use Rattle.formula.specs.Formula.{any, all}
use Rattle.distance.specs.Distance.{keep, least}
use Rattle.choices.specs.Lists.{Minimum}

-- what stands at an index is a member, and each member stands at some index
pub member_at {ℓ} : {A : Type ℓ} (z : A) (l : List A) (i : ℕ) → i < length l → Memᴰ (get_or l i z) l
member_at z [] i h = absurd (not-suc-le-zero h)
member_at z (x ∷ l) zero h = Memᴰ.head refl
member_at z (x ∷ l) (suc i) h = Memᴰ.tail (member_at z l i (le_of_suc-le-suc h))

pub member_index {ℓ} : {A : Type ℓ} (z : A) (l : List A) {x : A} → Memᴰ x l → (i : ℕ) × (i < length l) × (get_or l i z ≡ x)
member_index z [] m = absurd (Memᴰ.not-nil m)
member_index z (y ∷ l) (Memᴰ.head e) = (0, (omega arith), sym e)
member_index z (y ∷ l) (Memᴰ.tail m) = let r = member_index z l m in (suc r.0, (omega (arith, r.1)), r.2)

-- a test that some member passes, and one that all pass
pub any_at {ℓ} : {A : Type ℓ} (p : A → Bool) {x : A} {l : List A} → Memᴰ x l → p x ≡ true → any p l ≡ true
any_at p (Memᴰ.head {xs = l} e) t = ap (λ (b : Bool). b || any p l) (sym (ap p e) ∙ t)
any_at p (Memᴰ.tail {x = y} {xs = l} m) t = ap (λ (b : Bool). p y || b) (any_at p m t) ∙ or-true (p y)

pub any_member {ℓ} : {A : Type ℓ} (p : A → Bool) (l : List A) → any p l ≡ true → (x : A) × Memᴰ x l × (p x ≡ true)
any_member p [] e = absurd (true≢false (sym e))
any_member {A} p (y ∷ l) e = go (p y) refl e (λ q. any_member p l q)
  where
    go : (b : Bool) → p y ≡ b → b || any p l ≡ true → (any p l ≡ true → (x : A) × Memᴰ x l × (p x ≡ true))
        → (x : A) × Memᴰ x (y ∷ l) × (p x ≡ true)
    go true t q ih = (y, Memᴰ.head refl, t)
    go false t q ih = let r = ih q in (r.0, Memᴰ.tail r.1, r.2)

-- no member passes a test that the list fails
pub any_false {ℓ} : {A : Type ℓ} (p : A → Bool) {x : A} {l : List A} → any p l ≡ false → Memᴰ x l → p x ≡ false
any_false p {x} {l} e m = go (p x) refl
  where
    go : (b : Bool) → p x ≡ b → b ≡ false
    go true t = absurd (true≢false (sym (any_at p m t) ∙ e))
    go false t = refl

pub all_at {ℓ} : {A : Type ℓ} (p : A → Bool) {x : A} {l : List A} → all p l ≡ true → Memᴰ x l → p x ≡ true
all_at p {x = x} h (Memᴰ.head {x = y} {xs = l} e) = ap p e ∙ go (p y) h
  where
    go : (b : Bool) → b && all p l ≡ true → b ≡ true
    go true q = refl
    go false q = q
all_at p {x = x} h (Memᴰ.tail {x = y} {xs = l} m) = all_at p (go (p y) h) m
  where
    go : (b : Bool) → b && all p l ≡ true → all p l ≡ true
    go true q = q
    go false q = absurd (true≢false (sym q))

-- some member fails a test that the list fails
pub all_false {ℓ} : {A : Type ℓ} (p : A → Bool) (l : List A) → all p l ≡ false → (x : A) × Memᴰ x l × (p x ≡ false)
all_false p [] e = absurd (true≢false e)
all_false {A} p (y ∷ l) e = go (p y) refl e (λ q. all_false p l q)
  where
    go : (b : Bool) → p y ≡ b → b && all p l ≡ false → (all p l ≡ false → (x : A) × Memᴰ x l × (p x ≡ false))
        → (x : A) × Memᴰ x (y ∷ l) × (p x ≡ false)
    go true t q ih = let r = ih q in (r.0, Memᴰ.tail r.1, r.2)
    go false t q ih = (y, Memᴰ.head refl, t)

-- what was kept stood in the list and passed the test
pub kept_passes {ℓ} : {A : Type ℓ} (p : A → Bool) (l : List A) {x : A} → Memᴰ x (keep p l) → Memᴰ x l × (p x ≡ true)
kept_passes p [] m = absurd (Memᴰ.not-nil m)
kept_passes p (y ∷ l) {x} m = go (p y) refl (λ (q : Memᴰ x (keep p l)). kept_passes p l q) m
  where
    later : Memᴰ x l × (p x ≡ true) → Memᴰ x (y ∷ l) × (p x ≡ true)
    later q = (Memᴰ.tail q.0, q.1)

    here : p y ≡ true → (Memᴰ x (keep p l) → Memᴰ x l × (p x ≡ true)) → Memᴰ x (y ∷ keep p l) → Memᴰ x (y ∷ l) × (p x ≡ true)
    here e ih (Memᴰ.head q) = (Memᴰ.head q, ap p q ∙ e)
    here e ih (Memᴰ.tail q) = later (ih q)

    go : (b : Bool) → p y ≡ b → (Memᴰ x (keep p l) → Memᴰ x l × (p x ≡ true))
        → Memᴰ x (cond b (y ∷ keep p l) (keep p l)) → Memᴰ x (y ∷ l) × (p x ≡ true)
    go true e ih m = here e ih m
    go false e ih m = later (ih m)

-- what stands in the list and passes the test is kept
pub passes_kept {ℓ} : {A : Type ℓ} (p : A → Bool) {x : A} {l : List A} → Memᴰ x l → p x ≡ true → Memᴰ x (keep p l)
passes_kept p {x = x} (Memᴰ.head {x = y} {xs = l} e) t = go (p y) (sym (ap p e) ∙ t)
  where
    go : (b : Bool) → b ≡ true → Memᴰ x (cond b (y ∷ keep p l) (keep p l))
    go true q = Memᴰ.head e
    go false q = absurd (true≢false (sym q))
passes_kept p {x = x} (Memᴰ.tail {x = y} {xs = l} m) t = go (p y) (passes_kept p m t)
  where
    go : (b : Bool) → Memᴰ x (keep p l) → Memᴰ x (cond b (y ∷ keep p l) (keep p l))
    go true q = Memᴰ.tail q
    go false q = q

minimum_step : {l : List ℕ} {m : ℕ} (k : ℕ) → Minimum l m → Minimum (k ∷ l) (min k m)
minimum_step {l} {m} k h = record { attained = go (leb k m) refl; below = λ j q. under j q }
  where
    go : (b : Bool) → leb k m ≡ b → Memᴰ (min k m) (k ∷ l)
    go true e = Memᴰ.head (min-eq_left (leb-true k m e))
    go false e = let i : m ≤ k = omega (arith, leb-false k m e) in Memᴰ.tail {xs = l} (rw (min-eq_right i) h.attained)

    under : (j : ℕ) → Memᴰ j (k ∷ l) → min k m ≤ j
    under j (Memᴰ.head e) = omega arith
    under j (Memᴰ.tail q) = omega (arith, h.below j q)

-- a list that is not empty has a least number, and `least` gives it
pub least-cons : (k : ℕ) (l : List ℕ) → (m : ℕ) × (least (k ∷ l) ≡ Some m) × Minimum (k ∷ l) m
least-cons k [] = (k, refl, record { attained = Memᴰ.head refl; below = λ j q. under j q })
  where
    under : (j : ℕ) → Memᴰ j (k ∷ []) → k ≤ j
    under j (Memᴰ.head e) = omega arith
    under j (Memᴰ.tail q) = absurd (Memᴰ.not-nil q)
least-cons k (j ∷ l) = let r = least-cons j l in (min k r.0, ap (option_map (min k)) r.1, minimum_step k r.2)

-- a list is empty exactly when nothing stands in it
pub empty_iff {ℓ} : {A : Type ℓ} (l : List A) → (l ≡ []) ↔ ((x : A) → Memᴰ x l → ⊥)
empty_iff {A} l = (λ (e : l ≡ []) (x : A) (m : Memᴰ x l). Memᴰ.not-nil (subst (Memᴰ x) e m), back l)
  where
    back : (k : List A) → ((x : A) → Memᴰ x k → ⊥) → k ≡ []
    back [] f = refl
    back (y ∷ k) f = absurd (f y (Memᴰ.head refl))

pub least_none : (l : List ℕ) → (least l ≡ None) ↔ (l ≡ [])
least_none [] = (λ e. refl, λ e. refl)
least_none (k ∷ l) = (λ e. absurd (none-some _ (sym e)), λ e. absurd ((empty_iff (k ∷ l)).0 e k (Memᴰ.head refl)))

pub least-some : (l : List ℕ) (k : ℕ) → (least l ≡ Some k) ↔ Minimum l k
least-some [] k = (λ e. absurd (none-some k e), λ h. absurd (Memᴰ.not-nil h.attained))
least-some (j ∷ l) k = (λ e. forth e, λ h. back h)
  where
    m : ℕ
    m = (least-cons j l).0

    forth : least (j ∷ l) ≡ Some k → Minimum (j ∷ l) k
    forth e = subst (Minimum (j ∷ l)) (same_Some m k (sym (least-cons j l).1 ∙ e)) (least-cons j l).2

    back : Minimum (j ∷ l) k → least (j ∷ l) ≡ Some k
    back h =
        let r : Minimum (j ∷ l) m = (least-cons j l).2 in
        let e : m ≡ k = omega (arith, r.below k h.attained, h.below m r.attained) in
        (least-cons j l).1 ∙ ap {B = Option ℕ} Some e
