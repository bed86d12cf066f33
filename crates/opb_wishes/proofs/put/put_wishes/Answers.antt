-- `opb_wishes::put::put_wishes` meets its contract: nothing without a wish, else the terms and the bound.
use Rattle.writing.specs.Wrote.{wrote_more, wrote_as}
use Rattle.opb_wishes.specs.Line.{line_parts}
use Rattle.opb_wishes.proofs.put.put_wishes.Goals as goal

pub returns : goal.returns
returns c =
    wrote_as
    (line_parts c.args.row.now c.args.wishes c.args.d c.requires.0 c.if-wishes-eq0.false c.wished_on.result c.wished_on.ensures)
    (wrote_more c.put_terms-end.ensures c.put_bound.ensures)
