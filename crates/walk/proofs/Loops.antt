-- The equations by which a loop over an index goes through a clause: at an element that passes a test, at one that fails it, and past the end.
use Rattle.std.specs.Prelude.{◌≡◌, Bool, true, false, List, ℕ, suc, ◌+◌, ◌≤◌, ◌<◌, length, get_or, drop}
use Rattle.std.proofs.Common.{add-one, drop_of_length-le, drop-cons}
use Rattle.formula.specs.Formula.{all}
use Rattle.walk.specs.State.{count}

module _ {ℓ} {A : Type ℓ} (p : A → Bool) (l : List A) (i : ℕ) (z : A) where
  pub count_here : i < length l → p (get_or l i z) ≡ true → count p (drop i l) ≡ suc (count p (drop (i + 1) l))
  count_here h e = rw (drop-cons l i z h, e, add-one i)

  pub count_later : i < length l → p (get_or l i z) ≡ false → count p (drop i l) ≡ count p (drop (i + 1) l)
  count_later h e = rw (drop-cons l i z h, e, add-one i)

  pub all_here : i < length l → p (get_or l i z) ≡ true → all p (drop i l) ≡ all p (drop (i + 1) l)
  all_here h e = rw (drop-cons l i z h, e, add-one i)

  pub all_fails : i < length l → p (get_or l i z) ≡ false → all p (drop i l) ≡ false
  all_fails h e = rw (drop-cons l i z h, e)

module _ {ℓ} {A : Type ℓ} (p : A → Bool) (l : List A) (i : ℕ) where
  pub count_past : length l ≤ i → count p (drop i l) ≡ 0
  count_past h = rw (drop_of_length-le l h)

  pub all_past : length l ≤ i → all p (drop i l) ≡ true
  all_past h = rw (drop_of_length-le l h)
