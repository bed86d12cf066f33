-- What follows from the definitions of specs/Examples.antt.
use Rattle.std.specs.Prelude.{◌≡◌, refl, [], ◌∷◌, ◌++◌}
use Rattle.refusal.specs.Reply.{refusal}
use Rattle.decimal.specs.Decimal.{digits, decimal}
use Rattle.wish_file.specs.Format.{written, reading, refuses, gives}
use Rattle.wish_file.specs.Examples.{both_off}

pub both_read : reading both_off ≡ gives 2 2 1 (0 ∷ 0 ∷ [])
both_read = refl

pub both_written : written 2 (0 ∷ 0 ∷ []) 1 ≡ both_off
unfolding digits decimal
both_written = refl

-- a byte after the last line
pub extra_byte : reading (both_off ++ 32 ∷ []) ≡ refuses (refusal 8 38)
extra_byte = refl
