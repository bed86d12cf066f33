-- `nearest_core_scan::broken::first_broken` meets its contract. The loop's invariant: the lowest of all is the lowest of those that are left.
use mathlib.Core.Path.{◌≡◌}
use Prim.Native.Nat.{◌+◌, ◌-◌}
use lib.ListN.{length}
use Rattle.nearest_cores.specs.Cores.{broken_from, first_broken}
use Rattle.nearest_core_scan.proofs.broken.first_broken.Given as goal

abbrev pub invariant-loop-i : goal.invariant-loop-i
invariant-loop-i l = first_broken l.row l.taken l.a ≡ broken_from (length l.a - l.i) l.row l.taken l.a (l.i + 1)
