-- The numbers of clauses: the clauses with entries and those without are all there are, and each number is that of a clause.
use Rattle.std.specs.Prelude.{◌≡◌, refl, ◌⊎◌, Bool, true, false, not, ℕ, ◌+◌, ◌≤◌, ◌<◌, ℤ, length, get_or}
use Rattle.std.proofs.Common.{ap, inl, inr, arith}
use mathlib.Core.List.Memᴰ
use mathlib.Core.List.{List, [], ◌++◌, Memᴰ}
use Rattle.formula.specs.Formula.{contains}
use Rattle.walk_occurrences.proofs.Numbered.{numbered_in, numbered-from}
use Rattle.walk_occurrences.specs.Occurrences.{numbered, occurrences, is_empty, empty_clauses, filled_clauses}

pub every_number : (f : List (List ℤ)) (j : ℕ) → j < length f → Memᴰ (1 + j) (filled_clauses f ++ empty_clauses f)
every_number f j h = go (is_empty (get_or f j [])) refl
  where
    go : (t : Bool) → is_empty (get_or f j []) ≡ t → Memᴰ (1 + j) (filled_clauses f ++ empty_clauses f)
    go true e = Memᴰ.append_right (filled_clauses f) (numbered_in is_empty f 1 j h e)
    go false e = Memᴰ.append_left (empty_clauses f) (numbered_in (λ (c : List ℤ). not (is_empty c)) f 1 j h (ap not e))

-- whatever test the clauses pass
numbered_inside : (p : List ℤ → Bool) (f : List (List ℤ)) {m : ℕ} → Memᴰ m (numbered 1 p f) → (0 < m) × (m ≤ length f)
numbered_inside p f w = let r = numbered-from p f 1 w in (r.low, omega (arith, r.high))

pub every_inside : (f : List (List ℤ)) {m : ℕ} → Memᴰ m (filled_clauses f ++ empty_clauses f) → (0 < m) × (m ≤ length f)
every_inside f {m} w = go (Memᴰ.append_cases (filled_clauses f) w)
  where
    go : Memᴰ m (filled_clauses f) ⊎ Memᴰ m (empty_clauses f) → (0 < m) × (m ≤ length f)
    go (inl q) = numbered_inside (λ (c : List ℤ). not (is_empty c)) f q
    go (inr q) = numbered_inside is_empty f q

pub occurrences_inside : (f : List (List ℤ)) (v b : ℕ) {m : ℕ} → Memᴰ m (occurrences f v b) → (0 < m) × (m ≤ length f)
occurrences_inside f v b = numbered_inside (contains v b) f
