-- What follows from the definitions of specs/Once.antt.
use Rattle.std.specs.Prelude.{◌≡◌, refl, ◌↔◌, Bool, true, false, not, eqb, ℤ, pos, negsuc}
use Rattle.std.proofs.Common.{sym, ap, true≢false, arith, eq-eqb, eqb-true}
use Rattle.std.proofs.Math.Bool.{and-eq-true_iff}
use mathlib.Core.List.Memᴰ
use mathlib.Core.List.{List, Memᴰ}
use Rattle.literal.specs.Literal.{variable, wanted, is_literal}
use Rattle.formula.specs.Formula.{any}
use Rattle.rule_list.specs.Sound.{may_join}
use Rattle.choices.proofs.Lists.{any_at, any_member}

-- a literal is its variable and the value that it wants
literal_parts : (x y : ℤ) → variable y ≡ variable x → wanted y ≡ wanted x → x ≡ y
literal_parts (pos k) (pos j) v w = ap pos (sym v)
literal_parts (pos k) (negsuc j) v w = absurd (omega arith)
literal_parts (negsuc k) (pos j) v w = absurd (omega arith)
literal_parts (negsuc k) (negsuc j) v w = let same : k ≡ j = omega arith in ap negsuc same

-- What the test says: a literal is a repeat exactly when it is one of those read.
pub repeat_read : (read : List ℤ) (x : ℤ) → (may_join read x ≡ false) ↔ Memᴰ x read
repeat_read read x = (λ e. there (any equal read) refl e, λ m. ap not (any_at equal m own))
  where
    equal : ℤ → Bool
    equal = is_literal (variable x) (wanted x)

    own : equal x ≡ true
    own = rw (eq-eqb (variable x) (variable x) refl, eq-eqb (wanted x) (wanted x) refl)

    there : (b : Bool) → any equal read ≡ b → not b ≡ false → Memᴰ x read
    there true f e =
        let found = any_member equal read f in
        let y : ℤ = found.0 in
        let parts = (and-eq-true_iff (eqb (variable y) (variable x)) (eqb (wanted y) (wanted x))).0 found.2 in
        Memᴰ.cast (literal_parts x y (eqb-true (variable y) (variable x) parts.0) (eqb-true (wanted y) (wanted x) parts.1)) found.1
    there false f e = absurd (true≢false e)
