use Rattle.std.proofs.Common.{arith}
use Rattle.totalizer_adder.specs.Adder.{row}
use Rattle.totalizer_adder.specs.Laws.{room_below, wrote_below, wrote_last}
use Rattle.totalizer_adder.proofs.clauses.put_adder.Goals as goal

pub put_row-at-requires : goal.put_row-at-requires
put_row-at-requires c =
    let g = c.args.g in
    let i = c.loop-i.i in
    (c.requires.0, omega arith, room_below (row g) i c.loop-i.invariant g.p (omega arith) c.requires.1)

pub loop-i-preserved : goal.loop-i-preserved
loop-i-preserved c = wrote_below (row c.args.g) c.loop-i.i c.loop-i.invariant c.put_row-at.ensures

pub returns-2 : goal.returns-2
returns-2 c = wrote_last (row c.args.g) c.loop-i.i c.loop-i.invariant c.args.g.p (omega arith) c.put_row-at.ensures
