-- How much of the lent bytes the files filled.
use Rattle.std.specs.Prelude.{◌≡◌, List, ℕ, ◌≤◌, length, take, Option, None, Some}
use Rattle.std.proofs.Common.{subst}

-- the first n bytes can be lent; the second part follows from the first, and is what lending them asks for
abbrev pub IsPrefixLen : ℕ → List ℕ → Type 0
IsPrefixLen n xs = (n ≤ length xs) × (n ≡ length (take n xs))

-- the bytes read, unless the file could not be read, are at the front, so that this part can be lent
abbrev pub Filled : Option ℕ → List ℕ → Type 0
Filled None buf = Unit {0}
Filled (Some n) buf = IsPrefixLen n buf

pub filled : (r : Option ℕ) (buf : List ℕ) → Filled r buf → (n : ℕ) → r ≡ Some n → IsPrefixLen n buf
filled r buf h n e = subst (λ (q : Option ℕ). Filled q buf) e h

-- the same of two files
abbrev pub BothFilled : Option (ℕ × ℕ) → List ℕ → List ℕ → Type 0
BothFilled None rules wishes = Unit {0}
BothFilled (Some (k, w)) rules wishes = IsPrefixLen k rules × IsPrefixLen w wishes

pub both_filled : (r : Option (ℕ × ℕ)) (rules wishes : List ℕ) → BothFilled r rules wishes → (k w : ℕ) → r ≡ Some (k, w) → IsPrefixLen k rules × IsPrefixLen w wishes
both_filled r rules wishes h k w e = subst (λ (q : Option (ℕ × ℕ)). BothFilled q rules wishes) e h
