-- `nearest_core_scan::assumable::take_assigned` meets its contract. The loop's invariant: the bytes passed are those of the values passed.
use mathlib.Core.Path.{◌≡◌}
use mathlib.Core.List.{map}
use lib.ListN.{length, take}
use Rattle.nearest_cores.specs.Cores.{taken_byte}
use Rattle.nearest_core_scan.proofs.assumable.take_assigned.Given as goal

abbrev pub invariant-loop-i : goal.invariant-loop-i
invariant-loop-i l = (length l.taken ≡ length l.initial.taken) × (take l.i l.taken ≡ map taken_byte (take l.i l.a))
