-- `walk_propagation::trail::undo` meets its contract. The loop's invariant: what is left to undo of the present state gives what all of it gives of the first.
use mathlib.Core.Path.{◌≡◌}
use Prim.Native.Nat.{◌≤◌}
use lib.ListN.{length}
use lib.Seq.{slice}
use Rattle.walk_propagation.specs.Trail.{undone}
use Rattle.walk_propagation.proofs.trail.undo.Given as goal

abbrev pub invariant-loop-k : goal.invariant-loop-k
invariant-loop-k l = (length l.a ≡ length l.initial.a) × (undone (slice l.from l.k l.trail) l.a ≡ undone (slice l.from l.to l.trail) l.initial.a)
