-- `wish_file_writer::put::put_header` meets its contract: three columns and a line feed are the line.
use Rattle.writing.specs.Wrote.{wrote_more}
use Rattle.wish_file_writer.proofs.put.put_header.Goals as goal

pub returns : goal.returns
returns c =
    wrote_more c.put_column-second.ensures (wrote_more c.put_column-third.ensures (wrote_more c.put_column-end.ensures c.put_byte.ensures))
