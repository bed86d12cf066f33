-- A rule with both senses of a setting, in a sound list (document 02, L3): "such a rule is always met".
use Rattle.std.specs.Prelude.{◌≡◌, true, ℕ, leb, ltb, ℤ, neg_ℤ}
use Rattle.std.proofs.Math.Bool.{and-eq-true_iff}
use mathlib.Core.List.{List, Memᴰ}
use Rattle.std.proofs.Common.{leb-true, ltb-true}
use Rattle.literal.specs.Literal.{variable}
use Rattle.formula.specs.Formula.{all, clauses, satisfied}
use Rattle.rule_list.specs.Sound.{SoundList}
use Rattle.choices.specs.Choices.{Choice}
use Rattle.choices.proofs.Lists.{all_at}
use Rattle.choices.proofs.Opposites.{opposites_met}
use Rattle.walk.specs.State.{has_variable}
use Rattle.search_meaning.specs.Fits.{sound_fits}

-- Every choice meets every such rule.
pub always_met : (n : ℕ) (list : List ℤ) → SoundList n list → (c : List ℤ) → Memᴰ c (clauses list) → (x : ℤ) → Memᴰ x c → Memᴰ (neg_ℤ x) c
    → (a : List ℕ) → Choice n a → satisfied a c ≡ true
always_met n list e c there x m o a h =
    let inside : has_variable n x ≡ true = all_at (has_variable n) (all_at (all (has_variable n)) (sound_fits n list e) there) m in
    let parts = (and-eq-true_iff (ltb 0 (variable x)) (leb (variable x) n)).0 inside in
    opposites_met n a c x h (ltb-true 0 (variable x) parts.0) (leb-true (variable x) n parts.1) m o
