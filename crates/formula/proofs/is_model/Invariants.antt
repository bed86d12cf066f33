-- `formula::is_model` meets its contract. The loop's invariant: the clauses passed are satisfied.
use Rattle.std.proofs.Common.{◌≡◌, ◌-◌, length, drop}
use Rattle.formula.specs.Formula.{clauses, models}
use Rattle.formula.proofs.is_model.Given as goal

abbrev pub invariant-loop-from : goal.invariant-loop-from
invariant-loop-from l = models l.assignment (clauses l.rules) ≡ models l.assignment (clauses (drop l.from l.rules))

abbrev pub decreases-loop-from : goal.decreases-loop-from
decreases-loop-from l = length l.rules - l.from
