-- `nearest_core_scan::scan::find_cores` meets its contract. The loop's invariant: what is left to scan comes to what all comes to (`Going`).
use mathlib.Core.Path.{◌≡◌}
use lib.ListN.{length}
use Rattle.nearest_core_scan.specs.Going.{Going}
use Rattle.nearest_core_scan.proofs.scan.find_cores.Given as goal

abbrev pub invariant-loop-i : goal.invariant-loop-i
invariant-loop-i l =
    Going l.rules l.arrangement l.row l.tally l.initial.a l.initial.trail l.i l.progress l.a l.trail l.taken l.assumed × (length l.assumed ≡ length l.initial.assumed)
