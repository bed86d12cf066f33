-- `rule_file_writer::put::put_header` meets its contract: five texts, one after the other.
use Rattle.writing.specs.Wrote.{wrote_more}
use Rattle.rule_file_writer.proofs.put.put_header.Goals as goal

pub returns : goal.returns
returns c =
    wrote_more c.put_bytes-variables.ensures
    (wrote_more c.put_number-space.ensures
    (wrote_more c.put_byte-count.ensures (wrote_more c.put_number-end.ensures c.put_byte.ensures)))
