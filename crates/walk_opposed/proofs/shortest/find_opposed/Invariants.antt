-- `walk_opposed::find_opposed` meets its contract. The loop's invariant: the clauses passed are not opposed.
use mathlib.Core.Path.{◌≡◌}
use Prim.Native.Nat.{◌-◌}
use lib.ListN.{length, drop}
use Rattle.formula.specs.Formula.{clauses}
use Rattle.walk.specs.Branching.{shortest}
use Rattle.walk_opposed.proofs.shortest.find_opposed.Given as goal

abbrev pub invariant-loop-from : goal.invariant-loop-from
invariant-loop-from l = shortest l.row l.assignment (clauses l.rules) ≡ shortest l.row l.assignment (clauses (drop l.from l.rules))

abbrev pub decreases-loop-from : goal.decreases-loop-from
decreases-loop-from l = length l.rules - l.from
