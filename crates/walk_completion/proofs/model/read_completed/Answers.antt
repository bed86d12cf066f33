-- `walk_completion::model::read_completed` meets its contract: its closure tests whether a literal holds in the completion.
use Rattle.std.proofs.Common.{rules}
use Rattle.literal.specs.Literal.{holds}
use Rattle.walk.specs.Walk.{complete}
use Rattle.walk_completion.proofs.model.read_completed.Goals as goal

pub returns : goal.returns
returns c = c.test_clause.ensures (holds (complete c.args.row.now c.args.assignment.now)) (λ x fits r post. search rules)
