-- `walk_completion::fill_completion` meets its contract. The loop's invariant: the bytes passed are the completion's, and the rest is as it was.
use Rattle.walk_completion.specs.Filling.{Filling}
use Rattle.walk_completion.proofs.fill.fill_completion.Given as goal

abbrev pub invariant-loop-i : goal.invariant-loop-i
invariant-loop-i l = Filling l.row l.initial.assignment l.assignment l.i
