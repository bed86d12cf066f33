-- What follows from the definitions of specs/Numbered.antt.
use Rattle.std.specs.Prelude.{◌≡◌, refl, Bool, true, false, cond, ℕ, zero, suc, ◌+◌, ◌-◌, ◌≤◌, ◌<◌, ℤ, length, get_or}
use mathlib.Core.List.Memᴰ
use mathlib.Core.List.{List, [], ◌∷◌, Memᴰ}
use Rattle.std.proofs.Common.{⊎_elim, not-suc-le-zero, le_of_suc-le-suc, arith}
use Rattle.walk_occurrences.specs.Occurrences.{numbered}
use Rattle.walk_occurrences.specs.SameRules.{Rising}
use Rattle.walk_occurrences.specs.Numbered.{Passes}

module _ (p : List ℤ → Bool) where
  -- a clause that passes has its number there
  pub numbered_in : (f : List (List ℤ)) (k i : ℕ) → i < length f → p (get_or f i []) ≡ true → Memᴰ (k + i) (numbered k p f)
  numbered_in [] k i h e = absurd (not-suc-le-zero h)
  numbered_in (c ∷ f) k zero h e = rw e (Memᴰ.head {x = k} (omega arith))
  numbered_in (c ∷ f) k (suc i) h e = go (p c) (Memᴰ.cast (omega arith) (numbered_in f (suc k) i (le_of_suc-le-suc h) e))
    where
      go : (b : Bool) → Memᴰ (k + suc i) (numbered (suc k) p f) → Memᴰ (k + suc i) (cond b (k ∷ numbered (suc k) p f) (numbered (suc k) p f))
      go true m = Memᴰ.tail m
      go false m = m

  -- and no other number is there
  pub numbered-from : (f : List (List ℤ)) (k : ℕ) {j : ℕ} → Memᴰ j (numbered k p f) → Passes k p f j
  numbered-from [] k m = absurd (Memᴰ.not-nil m)
  numbered-from (c ∷ f) k {j} m = go (p c) refl m (λ q. later (numbered-from f (suc k) q))
    where
      later : Passes (suc k) p f j → Passes k p (c ∷ f) j
      later r =
          let next : j - k ≡ suc (j - suc k) = omega (arith, r.low) in
          record { low = omega (arith, r.low); high = omega (arith, r.high); passed = rw next r.passed }

      here : p c ≡ true → j ≡ k → Passes k p (c ∷ f) j
      here e q =
          let none : j - k ≡ 0 = omega arith in
          record { low = omega arith; high = omega arith; passed = rw none e }

      go : (b : Bool) → p c ≡ b → Memᴰ j (cond b (k ∷ numbered (suc k) p f) (numbered (suc k) p f))
          → (Memᴰ j (numbered (suc k) p f) → Passes k p (c ∷ f) j) → Passes k p (c ∷ f) j
      go true e q ih = ⊎_elim (here e) ih (Memᴰ.cases_cons q)
      go false e q ih = ih q

  least : (f : List (List ℤ)) (k i : ℕ) → i < length (numbered k p f) → k ≤ get_or (numbered k p f) i 0
  least [] k i h = absurd (not-suc-le-zero h)
  least (c ∷ f) k i h = go (p c) i h (λ (j : ℕ) (l : j < length (numbered (suc k) p f)). omega (arith, least f (suc k) j l))
    where
      go : (b : Bool) (j : ℕ) → j < length (cond b (k ∷ numbered (suc k) p f) (numbered (suc k) p f))
          → ((t : ℕ) → t < length (numbered (suc k) p f) → k ≤ get_or (numbered (suc k) p f) t 0) → k ≤ get_or (cond b (k ∷ numbered (suc k) p f) (numbered (suc k) p f)) j 0
      go true zero l ih = omega arith
      go true (suc j) l ih = ih j (le_of_suc-le-suc l)
      go false j l ih = ih j l

  pub numbered_rise : (f : List (List ℤ)) (k : ℕ) → Rising (numbered k p f)
  numbered_rise [] k = λ i j h l. absurd (not-suc-le-zero l)
  numbered_rise (c ∷ f) k = go (p c) (numbered_rise f (suc k))
    where
      go : (b : Bool) → Rising (numbered (suc k) p f) → Rising (cond b (k ∷ numbered (suc k) p f) (numbered (suc k) p f))
      go true r i zero h l = absurd (not-suc-le-zero h)
      go true r zero (suc j) h l = least f (suc k) j (le_of_suc-le-suc l)
      go true r (suc i) (suc j) h l = r i j (le_of_suc-le-suc h) (le_of_suc-le-suc l)
      go false r i j h l = r i j h l
