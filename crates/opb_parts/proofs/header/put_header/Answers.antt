-- `opb_parts::header::put_header` meets its contract: five texts, one after the other, each with room for the rest.
use Rattle.writing.specs.Wrote.{wrote_more}
use Rattle.opb_parts.proofs.header.put_header.Goals as goal

pub returns : goal.returns
returns c =
    wrote_more c.put_bytes-variables.ensures
    (wrote_more c.put_number-word.ensures
    (wrote_more c.put_bytes-count.ensures (wrote_more c.put_number-end.ensures c.put_byte.ensures)))
