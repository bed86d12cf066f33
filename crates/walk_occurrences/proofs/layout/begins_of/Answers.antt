-- `walk_occurrences::layout::begins_of` meets its contract.
use Rattle.walk_occurrences.proofs.LayoutLaws.{begins_all}
use Rattle.walk_occurrences.proofs.layout.begins_of.Goals as goal

pub returns : goal.returns
returns c = begins_all c.args.arrangement.now
