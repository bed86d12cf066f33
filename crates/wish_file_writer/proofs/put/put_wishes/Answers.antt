use Rattle.std.specs.Prelude.{◌<◌, length}
use Rattle.std.proofs.Common.{arith}
use Rattle.writing.specs.Wrote.{remaining_next}
use Rattle.wish_file_writer.specs.Writing.{rest, lines_split}
use Rattle.wish_file_writer.proofs.put.put_wishes.Goals as goal

pub loop-i-preserved : goal.loop-i-preserved
loop-i-preserved c =
    let inside : c.loop-i.i < length c.args.row.now = omega arith in
    remaining_next (rest c.args.row.now c.loop-i.i inside) c.loop-i.invariant (lines_split c.args.row.now c.loop-i.i inside) c.put_wish-at.ensures
