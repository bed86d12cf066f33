-- `walk_opposed::clause::is_opposed` meets its contract. The loop's invariant: the literals passed oppose.
use mathlib.Core.Path.{◌≡◌}
use lib.ListN.{drop}
use Rattle.formula.specs.Formula.{all}
use Rattle.walk.specs.Branching.{is_opposed}
use Rattle.walk_opposed.specs.Opposes.{opposes}
use Rattle.walk_opposed.proofs.clause.is_opposed.Given as goal

abbrev pub invariant-loop-x : goal.invariant-loop-x
invariant-loop-x l = is_opposed l.row l.assignment l.clause ≡ all (opposes l.row l.assignment) (drop l.x-index l.clause)
