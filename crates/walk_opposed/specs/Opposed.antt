-- Opposed clauses of a list.
use Rattle.std.specs.Prelude.{◌≡◌, Bool, true, false, ℕ, ◌≤◌, ◌<◌, ℤ, length, drop, Option, None, Some}
use mathlib.Core.List.{List, Memᴰ}
use Rattle.formula.specs.Formula.{clauses}
use Rattle.walk.specs.State.{unassigned_in}
use Rattle.walk.specs.Branching.{is_opposed, shortest}
use Rattle.walk_clause_standing.specs.Clause.{clause_at}

-- step 3 asks whether some clause is opposed: there is one where there is a number
abbrev pub some_opposed : Option ℕ → Bool
some_opposed None = false
some_opposed (Some k) = true

-- there is no opposed clause, or one begins at i and the shortest is not before it
abbrev pub KeepsShortest : List ℕ → List ℕ → List ℤ → Option ℕ → Type 0
KeepsShortest row a l None = shortest row a (clauses l) ≡ None
KeepsShortest row a l (Some i) =
    (i < length l) × (is_opposed row a (clause_at i l) ≡ true) × (shortest row a (clauses l) ≡ shortest row a (clauses (drop i l)))

-- no opposed clause has less than two unassigned literals. It is so after unit propagation, which leaves no such clause open, and opposed clauses are open
abbrev pub NoneShort : List ℕ → List ℕ → List (List ℤ) → Type 0
NoneShort row a f = (c : List ℤ) → Memᴰ c f → is_opposed row a c ≡ true → 2 ≤ unassigned_in a c
