-- `totalizer_groups::put_group` meets its contract, by recursion on the number of leaves: at most one leaf, or two parts and their own clauses.
use Rattle.std.proofs.Common.{length}
use Rattle.totalizer_groups.proofs.+put_group.Given as goal

abbrev pub decreases-put_group : goal.decreases-put_group
decreases-put_group l = length l.leaves.now
