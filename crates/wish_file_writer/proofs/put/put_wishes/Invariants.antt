-- `wish_file_writer::put::put_wishes` meets its contract. The loop's invariant: the lines of the row from index i on are still to be put.
use Rattle.std.specs.Prelude.{◌+◌, drop}
use Rattle.writing.specs.Wrote.{Remaining}
use Rattle.wish_file.specs.Format.{wish_lines}
use Rattle.wish_file.specs.Wishes.{wish_list}
use Rattle.wish_file_writer.proofs.put.put_wishes.Given as goal

abbrev pub invariant-loop-i : goal.invariant-loop-i
invariant-loop-i l = Remaining (wish_lines (wish_list 1 l.row)) l.initial.out l.from (wish_lines (wish_list (l.i + 1) (drop l.i l.row))) l.out l.at
