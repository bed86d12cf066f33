-- `nearest_core_scan::close::close_core` meets its contract. The loop's invariant: the rest of the core, taken of what is taken now, gives what all of it gives of what was taken at first, and its least weight with the least so far is that of all.
use mathlib.Core.Path.{◌≡◌}
use Prim.Native.Nat.{◌≤◌, min}
use lib.ListN.{length, drop}
use Rattle.wish.specs.Wish.{max_weight}
use Rattle.nearest_cores.specs.Cores.{least_weight, take_each}
use Rattle.nearest_core_scan.proofs.close.close_core.Given as goal

abbrev pub invariant-loop-v : goal.invariant-loop-v
invariant-loop-v l =
    (length l.taken ≡ length l.initial.taken) × (take_each l.taken (drop l.v-index l.core) ≡ take_each l.initial.taken l.core) × (min l.least (least_weight l.row (drop l.v-index l.core)) ≡ least_weight l.row l.core) × (l.least ≤ max_weight)
