-- `walk_propagation::queue::follow_queue` meets its contract: each turn is one of the laws of `Draining`.
use Prim.Native.Nat.{◌-◌}
use lib.ListN.{length}
use Rattle.formula.specs.Formula.{clauses}
use Rattle.walk_propagation.specs.Loops.{Draining}
use Rattle.walk_propagation.proofs.queue.follow_queue.Given as goal

abbrev pub invariant-loop-head : goal.invariant-loop-head
invariant-loop-head l = Draining (length l.initial.a) (clauses l.rules) l.row l.d l.initial.head l.initial.present l.initial.a l.initial.trail l.head l.present l.a l.trail

abbrev pub decreases-loop-head : goal.decreases-loop-head
decreases-loop-head l = length l.initial.a - l.head
