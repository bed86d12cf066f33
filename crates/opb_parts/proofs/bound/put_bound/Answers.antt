-- `opb_parts::bound::put_bound` meets its contract: three texts, one after the other.
use Rattle.writing.specs.Wrote.{wrote_more}
use Rattle.opb_parts.proofs.bound.put_bound.Goals as goal

pub returns : goal.returns
returns c =
    wrote_more c.put_bytes-number.ensures (wrote_more c.put_difference-end.ensures c.put_bytes.ensures)
