-- `walk_completion::completes` meets its contract. The loop's invariant: the completion satisfies the clauses passed.
use mathlib.Core.Path.{◌≡◌}
use Prim.Native.Nat.{◌-◌}
use lib.ListN.{length, drop}
use Rattle.formula.specs.Formula.{clauses, models}
use Rattle.walk.specs.Walk.{complete}
use Rattle.walk_completion.proofs.model.completes.Given as goal

abbrev pub invariant-loop-from : goal.invariant-loop-from
invariant-loop-from l = models (complete l.row l.assignment) (clauses l.rules) ≡ models (complete l.row l.assignment) (clauses (drop l.from l.rules))

abbrev pub decreases-loop-from : goal.decreases-loop-from
decreases-loop-from l = length l.rules - l.from
