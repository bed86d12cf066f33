-- Whole numbers as differences of natural numbers: what is said of them is said of natural numbers.
use Rattle.std.specs.Prelude.{◌≡◌, refl, ◌↔◌, Bool, true, false, cond, ℕ, zero, suc, ◌+◌, ◌-◌, ◌≤◌, ltb, ℤ, pos, negsuc, ◌+ℤ◌, ◌-ℤ◌, ◌≤ℤ◌}
use Rattle.std.proofs.Common.{ap, arith, leb→le, le→leb, ltb-true, ltb-false}
use Rattle.std.specs.Int.Signed.{le_z_yes}

-- z is x less y
abbrev IsDifference : ℤ → ℕ → ℕ → Type 0
IsDifference (pos k) x y = x ≡ k + y
IsDifference (negsuc k) x y = y ≡ x + suc k

difference : (x y : ℕ) → IsDifference (pos x -ℤ pos y) x y
difference x zero = omega arith
difference x (suc y) = go (ltb x (suc y)) refl
  where
    go : (t : Bool) → ltb x (suc y) ≡ t → IsDifference (cond t (negsuc (suc y - suc x)) (pos (x - suc y))) x (suc y)
    go true e = omega (arith, ltb-true x (suc y) e)
    go false e = omega (arith, ltb-false x (suc y) e)

-- the same number as another difference
shift : (z : ℤ) (x y p q : ℕ) → IsDifference z x y → x + q ≡ p + y → IsDifference z p q
shift (pos k) x y p q h e = omega arith
shift (negsuc k) x y p q h e = omega arith

same : (z u : ℤ) (x y : ℕ) → IsDifference z x y → IsDifference u x y → z ≡ u
same (pos a) (pos b) x y h k = ap pos (omega arith)
same (pos a) (negsuc b) x y h k = absurd (omega arith)
same (negsuc a) (pos b) x y h k = absurd (omega arith)
same (negsuc a) (negsuc b) x y h k = ap negsuc (omega arith)

add : (z u : ℤ) (x y p q : ℕ) → IsDifference z x y → IsDifference u p q → IsDifference (z +ℤ u) (x + p) (y + q)
add (pos a) (pos b) x y p q h k = omega arith
add (pos a) (negsuc b) x y p q h k = shift (pos a -ℤ pos (suc b)) a (suc b) (x + p) (y + q) (difference a (suc b)) (omega arith)
add (negsuc a) (pos b) x y p q h k = shift (pos b -ℤ pos (suc a)) b (suc a) (x + p) (y + q) (difference b (suc a)) (omega arith)
add (negsuc a) (negsuc b) x y p q h k = omega arith

compare : (z u : ℤ) (x y p q : ℕ) → IsDifference z x y → IsDifference u p q → (z ≤ℤ u) ↔ (x + q ≤ p + y)
compare (pos a) (pos b) x y p q h k = (λ (l : pos a ≤ℤ pos b). omega (arith, leb→le a b l.le), λ l. le_z_yes (le→leb a b (omega arith)))
compare (pos a) (negsuc b) x y p q h k = (λ (l : pos a ≤ℤ negsuc b). absurd l.le, λ l. absurd (omega arith))
compare (negsuc a) (pos b) x y p q h k = (λ l. omega arith, λ l. le_z_yes tt)
compare (negsuc a) (negsuc b) x y p q h k = (λ (l : negsuc a ≤ℤ negsuc b). omega (arith, leb→le b a l.le), λ l. le_z_yes (le→leb b a (omega arith)))

-- when two differences are equal
pub difference_equal : (x y p q : ℕ) → x + q ≡ p + y → pos x -ℤ pos y ≡ pos p -ℤ pos q
difference_equal x y p q e = same (pos x -ℤ pos y) (pos p -ℤ pos q) p q (shift (pos x -ℤ pos y) x y p q (difference x y) e) (difference p q)

-- the sum of two differences
pub difference_add : (x y p q : ℕ) → (pos x -ℤ pos y) +ℤ (pos p -ℤ pos q) ≡ pos (x + p) -ℤ pos (y + q)
difference_add x y p q =
    same ((pos x -ℤ pos y) +ℤ (pos p -ℤ pos q)) (pos (x + p) -ℤ pos (y + q)) (x + p) (y + q)
    (add (pos x -ℤ pos y) (pos p -ℤ pos q) x y p q (difference x y) (difference p q))
    (difference (x + p) (y + q))

-- when a difference is at most another
pub difference_le : (x y p q : ℕ) → ((pos x -ℤ pos y) ≤ℤ (pos p -ℤ pos q)) ↔ (x + q ≤ p + y)
difference_le x y p q = compare (pos x -ℤ pos y) (pos p -ℤ pos q) x y p q (difference x y) (difference p q)
