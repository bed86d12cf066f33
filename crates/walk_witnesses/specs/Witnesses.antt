-- For each clause one of its literals is remembered, by where it stands in the closed list: its witness. It is one that held when a reading last found the clause satisfied, and at first what stands where the clause begins: its first literal, or the closing 0 of a clause without any, which never holds. While the witness holds the clause need not be read; where it does not, nothing follows. No definition of document 01 speaks of it: it only saves reading.
use Rattle.std.specs.Prelude.{◌≡◌, true, List, [], ℕ, ◌<◌, ℤ, pos, length, get_or}
use Rattle.literal.specs.Literal.{holds}
use Rattle.formula.specs.Formula.{clauses, satisfied}

-- each clause has one, and in any assignment in which it holds the clause is satisfied
pub record Witnesses (rules : List ℤ) (witnesses : List ℕ) : Type 0 where
  pub many : length witnesses ≡ length (clauses rules)
  pub inside : (k : ℕ) → k < length (clauses rules) → get_or witnesses k 0 < length rules
  pub satisfies : (k : ℕ) → k < length (clauses rules) → (a : List ℕ) → holds a (get_or rules (get_or witnesses k 0) (pos 0)) ≡ true → satisfied a (get_or (clauses rules) k []) ≡ true
