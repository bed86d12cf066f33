-- What the first pass over a file answers.
use Rattle.std.specs.Prelude.{◌≡◌, refl, ℕ, Option, None, Some, Result, Ok, Err}
use Rattle.std.proofs.Common.{sym, ◌∙◌}
use Rattle.refusal.specs.declared.Refusal.{Refusal}

-- for a cause, or for k numbers without one
abbrev pub check_as : Option Refusal → ℕ → Result ℕ Refusal
check_as None k = Ok k
check_as (Some r) k = Err r

-- what its answer tells
module _ (o : Option Refusal) (k : ℕ) (answer : Result ℕ Refusal) (e : answer ≡ check_as o k) where
  pub check_refused : (r : Refusal) → answer ≡ Err r → o ≡ Some r
  check_refused r f = go o (sym f ∙ e)
    where
      go : (p : Option Refusal) → Err r ≡ check_as p k → p ≡ Some r
      go None g = cc
      go (Some q) g = cc

  pub check_good : (j : ℕ) → answer ≡ Ok j → (o ≡ None) × (j ≡ k)
  check_good j f = go o (sym f ∙ e)
    where
      go : (p : Option Refusal) → Ok j ≡ check_as p k → (p ≡ None) × (j ≡ k)
      go None g = (refl, (cc))
      go (Some q) g = ((cc), (cc))
