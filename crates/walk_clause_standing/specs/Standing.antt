-- What reading a clause tells of it.
use Rattle.std.specs.Prelude.{◌≡◌, true, false, List, ℕ, ◌+◌, ◌≤◌, ◌<◌, ℤ, pos, get_or, drop}
use Rattle.literal.specs.Literal.{holds}
use Rattle.formula.specs.Formula.{satisfied, clause_length}
use Rattle.walk.specs.State.{unassigned_in}
use Rattle.walk_clause_standing.specs.Clause.{clause_at}
use Rattle.walk_clause_standing.specs.declared.ReadClause.{ReadClause}
use Rattle.walk_clause_standing.specs.declared.ReadClause.TheVariants.{Satisfied, Open}

-- a literal that holds stands at an index of the list, in the clause that begins at `from`
pub record HoldsAt (a : List ℕ) (l : List ℤ) (from at : ℕ) : Type 0 where
  pub after : from ≤ at
  pub before : at < from + clause_length (drop from l)
  pub held : holds a (get_or l at (pos 0)) ≡ true

-- "A rule is open while none of its entries holds": the clause that begins at `from` is, and ends at an index, and has so many unsettled entries
pub record StandsOpen (a : List ℕ) (l : List ℤ) (from end count : ℕ) : Type 0 where
  pub ends : end ≡ from + clause_length (drop from l)
  pub none : satisfied a (clause_at from l) ≡ false
  pub counted : unassigned_in a (clause_at from l) ≡ count

-- what reading the clause that begins at `from` tells of it
abbrev pub IsRead : List ℕ → List ℤ → ℕ → ReadClause → Type 0
IsRead a l from (Satisfied at) = HoldsAt a l from at
IsRead a l from (Open end count) = StandsOpen a l from end count
