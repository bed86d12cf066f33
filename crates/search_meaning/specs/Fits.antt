-- A sound list is a formula over its variables, as the walk asks for it.
use Rattle.std.specs.Prelude.{◌≡◌, refl, true, not, ◌&&◌, List, [], ◌∷◌, ℕ, leb, ltb, ℤ}
use Rattle.std.proofs.Common.{arith, lt-ltb}
use Rattle.std.proofs.lemmas.Bool.{eqb-false, not-true}
use Rattle.literal.specs.Literal.{variable}
use Rattle.formula.specs.Formula.{all, clauses, closes}
use Rattle.rule_list.specs.Sound.{may_join, SoundList}
use Rattle.rule_list_soundness.specs.Flat.{joining}
use Rattle.rule_list_soundness.specs.Laws.{and_left, and_right, and_both, all_weaken}
use Rattle.rule_list_soundness.specs.Soundness.{sound}
use Rattle.walk.specs.State.{has_variable, fits}

within : (n : ℕ) (read c : List ℤ) → joining n read c ≡ true → all (has_variable n) c ≡ true
within n read [] e = refl
within n read (x ∷ c) e =
    let one : not (closes x) && (leb (variable x) n && may_join read x) ≡ true = and_left (not (closes x) && (leb (variable x) n && may_join read x)) (joining n (x ∷ read) c) e in
    let literal : variable x ≡ 0 → ⊥ = eqb-false (variable x) 0 (not-true (closes x) (and_left (not (closes x)) (leb (variable x) n && may_join read x) one)) in
    let inside : leb (variable x) n ≡ true = and_left (leb (variable x) n) (may_join read x) (and_right (not (closes x)) (leb (variable x) n && may_join read x) one) in
    and_both (has_variable n x) (all (has_variable n) c)
    (and_both (ltb 0 (variable x)) (leb (variable x) n) (lt-ltb 0 (variable x) (omega arith)) inside)
    (within n (x ∷ read) c (and_right (not (closes x) && (leb (variable x) n && may_join read x)) (joining n (x ∷ read) c) e))

pub sound_fits : (n : ℕ) (list : List ℤ) → SoundList n list → fits n (clauses list) ≡ true
sound_fits n list e = all_weaken (joining n []) (all (has_variable n)) (within n []) (clauses list) (sound n list e).formed
