-- `walk_occurrences::begins::note_begins` meets its contract. The loop's invariant: the begins of the clauses passed are noted.
use mathlib.Core.Path.{◌≡◌}
use Prim.Native.Nat.{◌-◌}
use lib.ListN.{length}
use Rattle.walk_occurrences.specs.Begins.{Beginning}
use Rattle.walk_occurrences.proofs.begins.note_begins.Given as goal

abbrev pub invariant-loop-from : goal.invariant-loop-from
invariant-loop-from l = (length l.begins ≡ length l.initial.begins) × Beginning l.rules l.begins l.k l.from

abbrev pub decreases-loop-from : goal.decreases-loop-from
decreases-loop-from l = length l.rules - l.from
