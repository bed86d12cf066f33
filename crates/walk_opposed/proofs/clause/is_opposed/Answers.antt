use Rattle.walk_opposed.specs.OpposesLaws.{opposed_all}
use Rattle.walk_opposed.proofs.clause.is_opposed.Goals as goal

pub loop-x-init : goal.loop-x-init
loop-x-init c = opposed_all c.args.row.now c.args.assignment.now c.args.clause.now
