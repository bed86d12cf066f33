-- Opposite literals in a choice, and a clause with both senses of a variable (document 02, L3): "such a rule is always met".
use Rattle.std.specs.Prelude.{◌≡◌, refl, Bool, true, false, not, ℕ, zero, suc, ◌≤◌, ◌<◌, eqb, ℤ, pos, negsuc, neg_ℤ}
use Rattle.std.proofs.Common.{ap, ◌∙◌, not-suc-le-zero, arith}
use mathlib.Core.List.{List, Memᴰ}
use Rattle.literal.specs.Literal.{variable, value, holds}
use Rattle.formula.specs.Formula.{satisfied}
use Rattle.choices.specs.Choices.{Choice}
use Rattle.choices.proofs.Choices.{choice_value}
use Rattle.choices.proofs.Lists.{any_at}

bit : (w : ℕ) → w < 2 → (eqb w 0 ≡ not (eqb w 1)) × (eqb w 1 ≡ not (eqb w 0))
bit zero h = (refl, refl)
bit (suc zero) h = (refl, refl)
bit (suc (suc w)) h = absurd (omega arith)

-- opposite literals have opposite truth
pub choice_opposite : (n : ℕ) (a : List ℕ) → Choice n a → (x : ℤ) → 0 < variable x → variable x ≤ n → holds a (neg_ℤ x) ≡ not (holds a x)
choice_opposite n a c (pos zero) z h = absurd (not-suc-le-zero z)
choice_opposite n a c (pos (suc k)) z h = (bit (value a (suc k)) (choice_value n a c (suc k) z h)).0
choice_opposite n a c (negsuc k) z h = (bit (value a (suc k)) (choice_value n a c (suc k) z h)).1

-- So every choice of n variables meets a clause that holds one of them in both senses.
pub opposites_met : (n : ℕ) (a : List ℕ) (c : List ℤ) (x : ℤ) → Choice n a → 0 < variable x → variable x ≤ n → Memᴰ x c → Memᴰ (neg_ℤ x) c → satisfied a c ≡ true
opposites_met n a c x h z l m o = go (holds a x) refl
  where
    go : (b : Bool) → holds a x ≡ b → satisfied a c ≡ true
    go true e = any_at (holds a) m e
    go false e = any_at (holds a) o (choice_opposite n a h x z l ∙ ap not e)
