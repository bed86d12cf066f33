-- `find` at any level of types, over mathlib's `Option`, with its laws, and that it is `find` of specs/State.antt where std has an `Option`.
use Rattle.std.specs.Prelude.{◌≡◌, refl, Bool, true, false, cond, suc, ◌<◌}
use Rattle.std.specs.Prelude as std
use Rattle.std.proofs.Common.{sym, ap, ◌∙◌, true≢false, not-suc-le-zero, arith}
use mathlib.Core.List.{List, [], ◌∷◌, Memᴰ}
use Rattle.std.proofs.Math.Option.{Option, none, some, some-injective, none-ne-some}
use Rattle.walk.specs.State as state
use Rattle.walk.specs.State.{count}
use Rattle.walk.proofs.Counting.{count_member}

abbrev pub find {ℓ} : {A : Type ℓ} → (A → Bool) → List A → Option A
find p [] = none
find p (x ∷ l) = cond (p x) (some x) (find p l)

-- the first member that passes a test: it does pass, it is there if any does, and it is the only one if one does
pub find_member {ℓ} : {A : Type ℓ} (p : A → Bool) (l : List A) {x : A} → find p l ≡ some x → Memᴰ x l × (p x ≡ true)
find_member p [] {x} e = absurd (none-ne-some x e)
find_member p (y ∷ l) {x} e = go (p y) refl e (λ q. find_member p l q)
  where
    go : (b : Bool) → p y ≡ b → cond b (some y) (find p l) ≡ some x → (find p l ≡ some x → Memᴰ x l × (p x ≡ true)) → Memᴰ x (y ∷ l) × (p x ≡ true)
    go true t q ih = let z = some-injective y x q in (Memᴰ.head (sym z), ap p (sym z) ∙ t)
    go false t q ih = let r = ih q in (Memᴰ.tail r.0, r.1)

pub find-some {ℓ} : {A : Type ℓ} (p : A → Bool) (l : List A) → 0 < count p l → (x : A) × (find p l ≡ some x)
find-some p [] h = absurd (not-suc-le-zero h)
find-some {A} p (y ∷ l) h = go (p y) h (λ q. find-some p l q)
  where
    go : (b : Bool) → 0 < cond b (suc (count p l)) (count p l) → (0 < count p l → (x : A) × (find p l ≡ some x)) → (x : A) × (cond b (some y) (find p l) ≡ some x)
    go true q ih = (y, refl)
    go false q ih = ih q

pub find_only {ℓ} : {A : Type ℓ} (p : A → Bool) {x : A} {l : List A} → count p l ≡ 1 → Memᴰ x l → p x ≡ true → find p l ≡ some x
find_only {A} p {x = x} h (Memᴰ.head {x = y} {xs = l} e) t = go (p y) (sym (ap p e) ∙ t)
  where
    go : (b : Bool) → b ≡ true → cond b (some y) (find p l) ≡ some x
    go true q = ap {B = Option A} some (sym e)
    go false q = absurd (true≢false (sym q))
find_only {A} p {x = x} h (Memᴰ.tail {x = y} {xs = l} m) t = go (p y) h (λ q. find_only p q m t)
  where
    go : (b : Bool) → cond b (suc (count p l)) (count p l) ≡ 1 → (count p l ≡ 1 → find p l ≡ some x) → cond b (some y) (find p l) ≡ some x
    go true q ih = absurd (omega (arith, count_member p m t))
    go false q ih = ih q

-- the same member by std's `Option`
abbrev pub by_std : {A : Type 0} → Option A → std.Option A
by_std none = std.None
by_std (some x) = std.Some x

pub find_is : {A : Type 0} (p : A → Bool) (l : List A) → by_std (find p l) ≡ state.find p l
find_is p [] = refl
find_is {A} p (y ∷ l) = go (p y) (find_is p l)
  where
    go : (b : Bool) → by_std (find p l) ≡ state.find p l → by_std (cond b (some y) (find p l)) ≡ cond b (std.Some y) (state.find p l)
    go true e = refl
    go false e = e
