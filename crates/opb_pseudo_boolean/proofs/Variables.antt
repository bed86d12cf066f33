-- What follows from the definitions of specs/Variables.antt.
use Rattle.std.specs.Prelude.{◌≡◌, true, ℕ, ◌≤◌, ◌<◌, ℤ}
use Rattle.std.proofs.Common.{ap, arith}
use mathlib.Core.List.Memᴰ
use mathlib.Core.List.{List, [], ◌∷◌, Memᴰ}
use Rattle.std.proofs.lemmas.Bool.{eqb-false}
use Rattle.literal.specs.Literal.{variable}
use Rattle.formula.specs.Formula.{clauses}
use Rattle.choices.proofs.Lists.{all_at}
use Rattle.rule_list.specs.Sound.{SoundList}
use Rattle.rule_list_soundness.specs.Flat.{joining}
use Rattle.rule_list_soundness.specs.Laws.{Joined, joined}
use Rattle.rule_list_soundness.specs.Soundness.{sound}
use Rattle.opb_pseudo_boolean.specs.Variables.{Over}

-- so has a clause that may stand in a list of n variables
joining_over : (n : ℕ) (read c : List ℤ) → joining n read c ≡ true → Over n c
joining_over n read [] e y m = absurd (Memᴰ.not-nil m)
joining_over n read (x ∷ c) e y m = go (joined n read x c e) m (joining_over n (x ∷ read) c)
  where
    go : Joined n read x c → Memᴰ y (x ∷ c) → (joining n (x ∷ read) c ≡ true → Over n c) → (0 < variable y) × (variable y ≤ n)
    go j (Memᴰ.head q) ih =
        let z : variable x ≡ 0 → ⊥ = eqb-false (variable x) 0 j.literal in
        (omega (arith, ap variable q), omega (arith, j.range, ap variable q))
    go j (Memᴰ.tail m) ih = ih j.rest y m

-- the clauses of a sound list of n variables are over 1 to n
pub sound_over : (n : ℕ) (list : List ℤ) → SoundList n list → (c : List ℤ) → Memᴰ c (clauses list) → Over n c
sound_over n list e c m = joining_over n [] c (all_at (joining n []) (sound n list e).formed m)
