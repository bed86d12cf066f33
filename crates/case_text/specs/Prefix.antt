-- The part at the start of an array that a case has filled.
use Rattle.std.specs.Prelude.{◌≡◌, List, ℕ, ◌≤◌, length, take}
use Rattle.std.proofs.Common.{sym, length-take-le}

-- The first n elements can be lent. The second part follows from the first, and is what lending them asks for.
abbrev pub Prefix : {A : Type 0} → ℕ → List A → Type 0
Prefix n xs = (n ≤ length xs) × (n ≡ length (take n xs))

pub prefix : {A : Type 0} (n : ℕ) (xs : List A) → n ≤ length xs → Prefix n xs
prefix n xs h = (h, sym (length-take-le n xs h))
