-- The slot of a literal: its place in a table that has one for each literal.
use Rattle.std.specs.Prelude.{◌≡◌, refl, Bool, true, false, cond, ◌&&◌, ℕ, zero, suc, ◌+◌, ◌*◌, ◌^◌, ◌≤◌, ◌<◌, eqb, ℤ, pos, negsuc}
use Rattle.std.proofs.Common.{arith, lit<, eq-eqb, ne_eqb, eqb-true}
use Rattle.std.specs.Int.Signed.{mag}
use Rattle.std.specs.Int.{w32}
use mir.Val.{hbits}
use Rattle.std.proofs.lemmas.Bool.{eqb-false}
use Rattle.literal.specs.Literal.{variable, wanted, literal, is_literal}

-- -v has the slot 2v, and v the slot 2v + 1
abbrev pub slot : ℤ → ℕ
slot x = 2 * variable x + wanted x

abbrev pub is_at : ℕ → ℤ → Bool
is_at i x = eqb (slot x) i

-- a literal wants off or on
pub wanted_bit : (x : ℤ) → wanted x < 2
wanted_bit (pos k) = lit< tt
wanted_bit (negsuc k) = lit< tt

-- the variable of an i32 is far below the largest usize
pub variable-most : (x : ℤ) → mag x < 2 ^ hbits w32 → variable x ≤ 2 ^ 31
variable-most (pos n) h = omega arith
variable-most (negsuc n) h = omega arith

-- a literal's slot says its variable and the value that it wants
pub slot-literal : (v b : ℕ) → b < 2 → (x : ℤ) → is_at (2 * v + b) x ≡ is_literal v b x
slot-literal v b h x = go (eqb (variable x) v) refl (eqb (wanted x) b) refl
  where
    other : (slot x ≡ 2 * v + b → ⊥) → is_at (2 * v + b) x ≡ false
    other e = ne_eqb (slot x) (2 * v + b) e

    go : (s : Bool) → eqb (variable x) v ≡ s → (t : Bool) → eqb (wanted x) b ≡ t → is_at (2 * v + b) x ≡ s && t
    go true p true q = eq-eqb (slot x) (2 * v + b) (omega (arith, eqb-true (variable x) v p, eqb-true (wanted x) b q))
    go true p false q = let ne : wanted x ≡ b → ⊥ = eqb-false (wanted x) b q in other (λ e. ne (omega (arith, e, eqb-true (variable x) v p)))
    go false p t q = let ne : variable x ≡ v → ⊥ = eqb-false (variable x) v p in other (λ e. ne (omega (arith, e, wanted_bit x)))

-- the slot of the literal that asks a variable to be on, or off
pub slot_of_literal : (v : ℕ) → 0 < v → (on : Bool) → slot (literal v on) ≡ 2 * v + cond on 1 0
slot_of_literal zero h on = absurd (omega arith)
slot_of_literal (suc k) h true = refl
slot_of_literal (suc k) h false = refl
