-- `walk_weighing::add_weight` meets its contract. The loop's invariant: the weight is added at the literals passed.
use Rattle.walk_weighing.specs.Laws.{Adding}
use Rattle.walk_weighing.proofs.add.add_weight.Given as goal

abbrev pub invariant-loop-x : goal.invariant-loop-x
invariant-loop-x l = Adding l.clause l.weight l.initial.weights l.weights l.x-index
