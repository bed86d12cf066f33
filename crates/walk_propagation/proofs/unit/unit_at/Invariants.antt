-- `walk_propagation::unit::unit_at` meets its contract. The loop's invariant: what the clause asks for is what its rest does, after the unassigned literals so far.
use mathlib.Core.Path.{◌≡◌}
use Rattle.walk_clause_standing.specs.Clause.{clause_at}
use Rattle.walk_propagation.specs.Unit.{asks, asks_after}
use Rattle.walk_propagation.proofs.unit.unit_at.Given as goal

abbrev pub invariant-loop-i : goal.invariant-loop-i
invariant-loop-i l = asks l.a (clause_at l.from l.rules) ≡ asks_after l.a l.found (clause_at l.i l.rules)
