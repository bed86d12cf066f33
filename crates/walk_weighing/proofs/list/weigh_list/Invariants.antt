-- `walk_weighing::weigh_list` meets its contract. The loop's invariant: the clauses passed have been weighed, and where the limit is spent none of them makes a dead end.
use Rattle.walk_weighing.specs.ListLaws.{Weighing}
use Rattle.walk_weighing.proofs.list.weigh_list.Given as goal

abbrev pub invariant-loop-k : goal.invariant-loop-k
invariant-loop-k l = Weighing l.row l.assignment l.fewest l.spent l.rules l.initial.weights l.witnesses l.weights l.k
