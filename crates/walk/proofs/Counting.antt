-- What `count` and `find` say of the members of a list.
use Rattle.std.specs.Prelude.{◌≡◌, refl, Bool, true, false, cond, suc, ◌<◌, Option, Some}
use Rattle.std.proofs.Common.{sym, ap, ◌∙◌, true≢false, not-suc-le-zero, arith}
use mathlib.Core.List.{List, [], ◌∷◌, Memᴰ}
use Rattle.std.proofs.lemmas.Option.{same_Some, none-some}
use Rattle.walk.specs.State.{count, find}

-- a member that passes a test is counted
pub count_member {ℓ} : {A : Type ℓ} (p : A → Bool) {x : A} {l : List A} → Memᴰ x l → p x ≡ true → 0 < count p l
count_member p (Memᴰ.head {x = y} {xs = l} e) t = go (p y) (sym (ap p e) ∙ t)
  where
    go : (b : Bool) → b ≡ true → 0 < cond b (suc (count p l)) (count p l)
    go true q = omega arith
    go false q = absurd (true≢false (sym q))
count_member p (Memᴰ.tail {x = y} {xs = l} m) t = go (p y) (count_member p m t)
  where
    go : (b : Bool) → 0 < count p l → 0 < cond b (suc (count p l)) (count p l)
    go true q = omega arith
    go false q = q

-- where none passes, none is counted
pub count-zero {ℓ} : {A : Type ℓ} (p : A → Bool) (l : List A) → ((x : A) → Memᴰ x l → p x ≡ false) → count p l ≡ 0
count-zero p [] h = refl
count-zero p (y ∷ l) h = rw (h y (Memᴰ.head refl)) (count-zero p l (λ x m. h x (Memᴰ.tail m)))

-- the first member that passes a test: it does pass, it is there if any does, and it is the only one if one does
pub find_member : {A : Type 0} (p : A → Bool) (l : List A) {x : A} → find p l ≡ Some x → Memᴰ x l × (p x ≡ true)
find_member p [] {x} e = absurd (none-some x e)
find_member p (y ∷ l) {x} e = go (p y) refl e (λ q. find_member p l q)
  where
    go : (b : Bool) → p y ≡ b → cond b (Some y) (find p l) ≡ Some x → (find p l ≡ Some x → Memᴰ x l × (p x ≡ true)) → Memᴰ x (y ∷ l) × (p x ≡ true)
    go true t q ih = let z = same_Some y x q in (Memᴰ.head (sym z), ap p (sym z) ∙ t)
    go false t q ih = let r = ih q in (Memᴰ.tail r.0, r.1)

pub find-some : {A : Type 0} (p : A → Bool) (l : List A) → 0 < count p l → (x : A) × (find p l ≡ Some x)
find-some p [] h = absurd (not-suc-le-zero h)
find-some {A} p (y ∷ l) h = go (p y) h (λ q. find-some p l q)
  where
    go : (b : Bool) → 0 < cond b (suc (count p l)) (count p l) → (0 < count p l → (x : A) × (find p l ≡ Some x)) → (x : A) × (cond b (Some y) (find p l) ≡ Some x)
    go true q ih = (y, refl)
    go false q ih = ih q

pub find_only : {A : Type 0} (p : A → Bool) {x : A} {l : List A} → count p l ≡ 1 → Memᴰ x l → p x ≡ true → find p l ≡ Some x
find_only {A} p {x = x} h (Memᴰ.head {x = y} {xs = l} e) t = go (p y) (sym (ap p e) ∙ t)
  where
    go : (b : Bool) → b ≡ true → cond b (Some y) (find p l) ≡ Some x
    go true q = ap {B = Option A} Some (sym e)
    go false q = absurd (true≢false (sym q))
find_only {A} p {x = x} h (Memᴰ.tail {x = y} {xs = l} m) t = go (p y) h (λ q. find_only p q m t)
  where
    go : (b : Bool) → cond b (suc (count p l)) (count p l) ≡ 1 → (count p l ≡ 1 → find p l ≡ Some x) → cond b (Some y) (find p l) ≡ Some x
    go true q ih = absurd (omega (arith, count_member p m t))
    go false q ih = ih q
