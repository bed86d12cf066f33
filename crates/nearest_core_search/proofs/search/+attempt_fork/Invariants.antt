-- The measures of the cycle of calls {attempt, fork}: the number of unassigned variables, which falls from a fork to each of its tries; twice of a fork, and one more of a try.
use Rattle.std.proofs.Common.{◌+◌, ◌*◌}
use Rattle.walk.specs.State.{unassigned}
use Rattle.nearest_core_search.proofs.search.+attempt_fork.Given as goal

abbrev pub decreases-attempt : goal.decreases-attempt
decreases-attempt l = 2 * unassigned l.a.now + 1

abbrev pub decreases-fork : goal.decreases-fork
decreases-fork l = 2 * unassigned l.a.now
