-- The equations by which proofs read a variable's value.
use Rattle.std.specs.Prelude.{◌≡◌, refl, List, [], ◌∷◌, ℕ, zero, suc, ◌-◌, ◌^◌, ◌≤◌, ◌<◌, ℤ, length, get_or}
use Rattle.std.proofs.Common.{le_of_suc-le-suc, not-suc-le-zero, sub-one}
use Rattle.std.specs.Int.Signed.{mag}
use Rattle.std.specs.Int.{w32}
use mir.Val.{hbits, to_z, of_z}
use Rattle.std.proofs.lemmas.Int.{to_z-of_z}
use Rattle.std.proofs.Math.ListN.{get_or-eq_default}
use Rattle.literal.specs.Literal.{value}

-- inside a list the default does not matter
pub get_or_inside {ℓ} : {A : Type ℓ} (l : List A) (i : ℕ) (d e : A) → i < length l → get_or l i d ≡ get_or l i e
get_or_inside [] i d e h = absurd (not-suc-le-zero h)
get_or_inside (x ∷ l) zero d e h = refl
get_or_inside (x ∷ l) (suc i) d e h = get_or_inside l i d e (le_of_suc-le-suc h)

-- variable v has its byte at index v - 1
pub value_at : (a : List ℕ) (v : ℕ) → 0 < v → value a v ≡ get_or a (v - 1) 2
value_at a zero h = absurd (not-suc-le-zero h)
value_at a (suc k) h = rw (sub-one (suc k))

pub value_past : (a : List ℕ) (v : ℕ) → 0 < v → length a ≤ v - 1 → value a v ≡ 2
value_past a v h l = rw (value_at a v h) (get_or-eq_default a 2 l)

-- an i32 that was read out of a list is the list's number
pub as_read : (z : ℤ) → mag z < 2 ^ hbits w32 → to_z w32 (of_z w32 z) ≡ z
as_read z h = to_z-of_z w32 z (record { sfits = h })
