-- The equations by which proofs tell whether a line begins at a place, and a comment with it.
use Rattle.std.specs.Prelude.{◌≡◌, refl, Bool, true, false, cond, List, ℕ, zero, suc, ◌-◌, eqb, get_or}
use Rattle.std.proofs.Common.{sym, ap, arith}
use Rattle.rule_file.specs.Class.{letter_c, class_of}
use Rattle.rule_file.specs.Tokens.{line_start, between, opens_comment, position_at}

-- a byte behind another
pub byte_before : (s : List ℕ) (at : ℕ) → (at ≡ 0 → ⊥) → position_at s at ≡ cond (eqb (get_or s (at - 1) 0) 10) line_start between
byte_before s zero h = absurd (h refl)
byte_before s (suc k) h =
    let last : k ≡ suc k - 1 = omega arith in
    ap (λ (j : ℕ). cond (eqb (get_or s j 0) 10) line_start between) last

-- a line begins there, or none
module _ (s : List ℕ) (at : ℕ) (begins : Bool) (e : position_at s at ≡ cond begins line_start between) where
  pub inside_line : begins ≡ false → false ≡ opens_comment (position_at s at) (get_or s at 0)
  inside_line f = sym (rw (e, f))

  pub line-start : begins ≡ true → eqb (class_of (get_or s at 0)) letter_c ≡ opens_comment (position_at s at) (get_or s at 0)
  line-start f = sym (rw (e, f))
