-- `walk_opposed::shortest_opposed` meets its contract. The loop's invariant: the shorter of the kept clause and the shortest opposed one left is the shortest of all, and `size` of the kept clause's literals are unassigned.
use Rattle.std.specs.Prelude.{Some}
use mathlib.Core.Path.{◌≡◌}
use Prim.Native.Nat.{◌-◌}
use lib.ListN.{length, drop}
use Rattle.formula.specs.Formula.{clauses}
use Rattle.walk.specs.State.{unassigned_in}
use Rattle.walk.specs.Branching.{shorter_of, shortest}
use Rattle.walk_opposed.proofs.shortest.shortest_opposed.Given as goal

abbrev pub invariant-loop-from : goal.invariant-loop-from
invariant-loop-from l =
    (shortest l.row l.assignment (clauses (drop l.first l.rules)) ≡ Some (shorter_of l.assignment l.kept (shortest l.row l.assignment (clauses (drop l.from l.rules))))) × (l.size ≡ unassigned_in l.assignment l.kept)

abbrev pub decreases-loop-from : goal.decreases-loop-from
decreases-loop-from l = length l.rules - l.from
