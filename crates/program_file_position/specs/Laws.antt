-- The equations by which proofs go on from a byte to the next.
use Rattle.std.specs.Prelude.{◌≡◌, refl, List, [], ℕ, zero, suc, ◌+◌, ◌-◌, ◌≤◌, ◌<◌, length, get_or, drop}
use Rattle.std.proofs.Common.{ap, add-one, arith, drop_of_length-le, drop-cons, eq-eqb, ne_eqb}
use Rattle.program_file_position.specs.Position.{position, position_from, position_at}

-- all bytes before the place are to come
pub from_start : (file : List ℕ) (place : ℕ) → position_at file place ≡ position_from 1 1 (place - 0) (drop 0 file)
from_start file place =
    let whole : place ≡ place - 0 = omega arith in
    ap (λ (k : ℕ). position_from 1 1 k file) whole

-- the place is reached; the file ends before it
pub here : (line column place i : ℕ) (s : List ℕ) → i ≡ place → position_from line column (place - i) s ≡ position line column
here line column place i s e =
    let none : place - i ≡ 0 = omega arith in
    rw (none)

pub past_end : (line column k : ℕ) (s : List ℕ) (i : ℕ) → length s ≤ i → position_from line column k (drop i s) ≡ position line column
past_end line column k s i h = rw (drop_of_length-le s h) (go k)
  where
    go : (k : ℕ) → position_from line column k [] ≡ position line column
    go zero = refl
    go (suc k) = refl

-- a byte before the place: a line feed, and any other
module _ (line column place : ℕ) (s : List ℕ) (i : ℕ) (h : i < length s) (b : i < place) where
  abbrev left : place - i ≡ suc (place - (i + 1))
  left = omega arith

  pub feed : get_or s i 0 ≡ 10 → position_from line column (place - i) (drop i s) ≡ position_from (line + 1) 1 (place - (i + 1)) (drop (i + 1) s)
  feed e = rw (left, drop-cons s i 0 h, eq-eqb (get_or s i 0) 10 e, add-one line, add-one i)

  pub no_feed : (get_or s i 0 ≡ 10 → ⊥) → position_from line column (place - i) (drop i s) ≡ position_from line (column + 1) (place - (i + 1)) (drop (i + 1) s)
  no_feed e = rw (left, drop-cons s i 0 h, ne_eqb (get_or s i 0) 10 e, add-one column, add-one i)
