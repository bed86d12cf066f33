-- What the clauses of a totalizer say, of any assignment: they hold exactly when every output of every group counts the leaves of its group.
use Rattle.std.specs.Prelude.{◌≡◌, Bool, not, ℕ, suc, ◌-◌, ◌≤◌, ◌<◌, ℤ, neg_ℤ}
use Rattle.literal.specs.Literal.{variable}

-- An assignment h says of every literal whether it holds. Here opposite literals of the variables 1 to n have opposite truth.
abbrev pub Opposite : (ℤ → Bool) → ℕ → Type 0
Opposite h n = (x : ℤ) → 0 < variable x → variable x ≤ n → h (neg_ℤ x) ≡ not (h x)

-- opposite outputs have opposite truth
abbrev pub Signed : (ℤ → Bool) → (ℕ → ℤ) → ℕ → Type 0
Signed h a m = (k : ℕ) → k < m → h (neg_ℤ (a (suc k))) ≡ not (h (a (suc k)))
