use Rattle.std.proofs.Common.{arith}
use Rattle.totalizer_adder.specs.Adder.{up_clauses, down_clauses, pair}
use Rattle.totalizer_adder.specs.Laws.{room_first, room_next, wrote_both, room_below, wrote_below, wrote_last}
use Rattle.totalizer_adder.proofs.clauses.put_row.Goals as goal

pub put_up-at-requires : goal.put_up-at-requires
put_up-at-requires c =
    let g = c.args.g in
    let i = c.args.i in
    let j = c.loop-j.j in (
      c.requires.0,
      c.requires.1,
      omega arith,
      room_first (up_clauses g i j) (down_clauses g i j) c.loop-j.out c.loop-j.at (room_below (pair g i) j c.loop-j.invariant g.q (omega arith) c.requires.2),
    )

pub put_down-at-requires : goal.put_down-at-requires
put_down-at-requires c =
    let g = c.args.g in
    let i = c.args.i in
    let j = c.loop-j.j in (
      c.requires.0,
      c.requires.1,
      omega arith,
      room_next (up_clauses g i j) (down_clauses g i j) c.put_up-at.ensures (room_below (pair g i) j c.loop-j.invariant g.q (omega arith) c.requires.2),
    )

pub loop-j-preserved : goal.loop-j-preserved
loop-j-preserved c =
    let g = c.args.g in
    let i = c.args.i in
    let j = c.loop-j.j in
    wrote_below (pair g i) j c.loop-j.invariant (wrote_both (up_clauses g i j) (down_clauses g i j) c.put_up-at.ensures c.put_down-at.ensures)

pub returns-2 : goal.returns-2
returns-2 c =
    let g = c.args.g in
    let i = c.args.i in
    let j = c.loop-j.j in
    wrote_last (pair g i) j c.loop-j.invariant g.q (omega arith) (wrote_both (up_clauses g i j) (down_clauses g i j) c.put_up-at.ensures c.put_down-at.ensures)
