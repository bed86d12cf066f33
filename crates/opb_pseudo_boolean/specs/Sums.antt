-- The two kinds of sums that are exported, for a choice: that of a clause, and that of the wishes.
use Rattle.std.specs.Prelude.{cond, ℕ, suc, ℤ}
use mathlib.Core.List.{List, [], ◌∷◌}
use Rattle.literal.specs.Literal.{holds}

-- the number of literals of a clause that hold
abbrev pub held : List ℕ → List ℤ → ℕ
held a [] = 0
held a (x ∷ c) = cond (holds a x) (suc (held a c)) (held a c)
