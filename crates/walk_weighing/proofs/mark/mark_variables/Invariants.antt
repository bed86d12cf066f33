-- `walk_weighing::mark_variables` meets its contract. The loop's invariant: the variables passed are marked.
use Rattle.walk_weighing.specs.Laws.{Marking}
use Rattle.walk_weighing.proofs.mark.mark_variables.Given as goal

abbrev pub invariant-loop-x : goal.invariant-loop-x
invariant-loop-x l = Marking l.clause l.initial.marks l.marks l.x-index
