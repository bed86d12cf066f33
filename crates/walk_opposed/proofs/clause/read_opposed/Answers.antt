-- `walk_opposed::clause::read_opposed` meets its contract: its closure tests what `spares` says.
use Rattle.std.proofs.Common.{rules}
use Rattle.walk_opposed.specs.Opposes.{spares}
use Rattle.walk_opposed.proofs.clause.read_opposed.Goals as goal

pub returns : goal.returns
returns c = c.test_clause.ensures (spares c.args.row.now c.args.assignment.now) (λ x fits r post. search rules)
