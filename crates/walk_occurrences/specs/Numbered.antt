-- The numbers of the clauses that pass a test: which they are, and that they rise.
use Rattle.std.specs.Prelude.{◌≡◌, Bool, true, ℕ, ◌+◌, ◌-◌, ◌≤◌, ◌<◌, ℤ, length, get_or}
use mathlib.Core.List.{List, []}

-- the clause with number j, of those that are numbered from k on, passes the test
pub record Passes (k : ℕ) (p : List ℤ → Bool) (f : List (List ℤ)) (j : ℕ) : Type 0 where
  pub low : k ≤ j
  pub high : j < k + length f
  pub passed : p (get_or f (j - k) []) ≡ true
