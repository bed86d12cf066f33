-- What the machine's signed operations make of an i32, in the integers' own terms.
use mathlib.Core.Path.{◌≡◌, refl, sym, ◌∙◌}
use mathlib.Core.Bool.{Bool, true, false, true≢false}
use Prim.Native.Nat.{ℕ, zero, suc, ◌≤◌}
use native.Mathlib.Nat.{zero-add, not-suc-le-zero}
use native.Mathlib.Omega.{arith}
use borrow.Author.Tests.{ltb-true, ne_eqb}
use lib.Dec.{eqb}
use lib.IntN.{ℤ, pos, negsuc, nat_abs, neg_ℤ, ◌-ℤ◌, +ℤ_idl}
use lib.Signed.{lt_z}
use mir.Syntax.{w32, w64}
use mir.Val.{Fits, SFits, to_z, of_z}
use mir.ValLaws.{to_z-of_z}
use Rattle.literal.specs.Literal.{closes, wanted, literal}

pub widens : (x : ℤ) → SFits w32 x → SFits w64 x
widens x f = record { sfits = omega (arith, f.sfits) }

-- an i32, as it lies in an i64
abbrev pub wide : ℤ → ℤ
wide x = to_z w64 (of_z w64 (to_z w32 (of_z w32 x)))

pub wide_is : (x : ℤ) → SFits w32 x → wide x ≡ x
wide_is x f = rw (to_z-of_z w32 x f) (to_z-of_z w64 x (widens x f))

-- the magnitude of an i32 fits an i64 and a usize
pub magnitude_fits : (x : ℤ) → SFits w32 x → SFits w64 (pos (nat_abs x))
magnitude_fits (pos n) f = record { sfits = omega (arith, f.sfits) }
magnitude_fits (negsuc n) f = record { sfits = omega (arith, f.sfits) }

pub magnitude_usize : (x : ℤ) → SFits w32 x → Fits w64 (nat_abs x)
magnitude_usize x f = record { fits = omega (arith, (magnitude_fits x f).sfits) }

negated : (x : ℤ) → lt_z x (pos 0) ≡ true → pos 0 -ℤ x ≡ pos (nat_abs x)
negated (pos n) e = absurd (not-suc-le-zero (ltb-true n 0 e))
negated (negsuc n) e = rw zero-add

-- a negative number's negation is its magnitude
pub negative : (x : ℤ) → SFits w32 x → lt_z (wide x) (pos 0) ≡ true → pos 0 -ℤ wide x ≡ pos (nat_abs x)
negative x f e = rw (wide_is x f) (negated x (rw (wide_is x f) at e))

-- what is not negative is its own magnitude
plain : (x : ℤ) → lt_z x (pos 0) ≡ false → x ≡ pos (nat_abs x)
plain (pos n) e = refl
plain (negsuc n) e = absurd (true≢false e)

pub nonnegative : (x : ℤ) → SFits w32 x → lt_z (wide x) (pos 0) ≡ false → wide x ≡ pos (nat_abs x)
nonnegative x f e = rw (wide_is x f) (plain x (rw (wide_is x f) at e))

-- the sign says which value a literal wants
pub wanted-negative : (x : ℤ) → lt_z x (pos 0) ≡ true → wanted x ≡ 0
wanted-negative (pos n) e = absurd (not-suc-le-zero (ltb-true n 0 e))
wanted-negative (negsuc n) e = refl

pub wanted-positive : (x : ℤ) → lt_z x (pos 0) ≡ false → wanted x ≡ 1
wanted-positive (pos n) e = refl
wanted-positive (negsuc n) e = absurd (true≢false e)

-- the magnitude of a variable's number, as it lies in an i32, and its negation
pub number_is : (v : ℕ) → v ≤ 2147483647 → to_z w32 v ≡ pos v
number_is v h = to_z-of_z w32 (pos v) (record { sfits = omega arith })

pub negation_is : (v : ℕ) → v ≤ 2147483647 → pos 0 -ℤ to_z w32 v ≡ literal v false
negation_is v h = rw (number_is v h) (+ℤ_idl (neg_ℤ (pos v)))

pub literal_fits : (v : ℕ) (positive : Bool) → v ≤ 2147483647 → SFits w32 (literal v positive)
literal_fits v true h = record { sfits = omega arith }
literal_fits zero false h = record { sfits = omega arith }
literal_fits (suc k) false h = record { sfits = omega arith }

-- the negation of an i32 other than the least
pub opposite_is : (x : ℤ) → SFits w32 x → pos 0 -ℤ to_z w32 (of_z w32 x) ≡ neg_ℤ x
opposite_is x f = rw (to_z-of_z w32 x f) (+ℤ_idl (neg_ℤ x))

pub opposite_fits : (x : ℤ) → nat_abs x ≤ 2147483647 → SFits w32 (neg_ℤ x)
opposite_fits (pos zero) h = record { sfits = omega arith }
opposite_fits (pos (suc n)) h = record { sfits = omega arith }
opposite_fits (negsuc n) h = record { sfits = omega arith }

-- of all i32 only 0 lies as 0
pub zero_is : (x : ℤ) → SFits w32 x → eqb (of_z w32 x) 0 ≡ closes x
zero_is (pos n) f = refl
zero_is (negsuc n) f =
    ne_eqb (of_z w32 (negsuc n)) 0 (λ e. omega (arith, e, f.sfits)) ∙ sym (ne_eqb (suc n) 0 (λ e. omega (arith, e)))
