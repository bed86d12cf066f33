use Rattle.writing.specs.Wrote.{remaining_next}
use Rattle.opb_wishes.specs.Line.{rest, terms_split}
use Rattle.opb_wishes.proofs.put.put_terms.Goals as goal

pub loop-i-preserved : goal.loop-i-preserved
loop-i-preserved c =
    remaining_next (rest c.args.row.now c.loop-i.i c.loop-i-test.true) c.loop-i.invariant (terms_split c.args.row.now c.loop-i.i c.loop-i-test.true) c.put_wish-at.ensures
