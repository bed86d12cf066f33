-- `walk_opposed::unassigned_in` meets its contract: the definition's count is std's.
use Rattle.std.proofs.Common.{rules}
use Rattle.walk.specs.State.{is_unassigned}
use Rattle.walk_opposed.specs.Laws.{counted}
use Rattle.walk_opposed.proofs.pair.unassigned_in.Goals as goal

pub returns : goal.returns
returns c = rw (counted (is_unassigned c.args.assignment.now) c.args.clause.now) (search rules)
