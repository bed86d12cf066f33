-- The tree of some leaves splits as document 01 says, and has these leaves, in their order.
use Rattle.std.specs.Prelude.{Bool, cond, List, [], ◌∷◌, ◌++◌, ℕ, ◌+◌, ◌≤◌, ◌<◌, ℤ}
use Rattle.literal.specs.Literal.{variable}
use Rattle.totalizer.specs.Totalizer.{Tree, leaf, node}

-- the leaves of a group, in order
abbrev pub leaves_of : Tree → List ℤ
leaves_of (leaf x) = x ∷ []
leaves_of (node s t) = leaves_of s ++ leaves_of t

-- how many literals of a list hold
abbrev pub held : (ℤ → Bool) → List ℤ → ℕ
held h [] = 0
held h (x ∷ l) = cond (h x) 1 0 + held h l

-- every literal of a list is one of the variables 1 to n
abbrev pub Within : ℕ → List ℤ → Type 0
Within n [] = Unit {0}
Within n (x ∷ l) = (0 < variable x) × (variable x ≤ n) × Within n l
