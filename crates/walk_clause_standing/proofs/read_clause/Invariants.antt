-- `walk_clause_standing::read_clause` meets its contract. The loop's invariant is `Reads`: none of the literals read holds, and `count` of them are unassigned.
use Rattle.walk_clause_standing.specs.Reads.{Reads}
use Rattle.walk_clause_standing.proofs.read_clause.Given as goal

abbrev pub invariant-loop-i : goal.invariant-loop-i
invariant-loop-i l = Reads l.assignment l.rules l.from l.i l.count
