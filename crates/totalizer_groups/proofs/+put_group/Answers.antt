use Rattle.std.proofs.Common.{arith}
use Rattle.totalizer_groups.specs.Laws.{left_length, right_length, left_asks, right_asks, join_asks, written_node}
use Rattle.totalizer_groups.proofs.+put_group.Goals as goal

pub put_group-left-requires : goal.put_group-left-requires
put_group-left-requires t c =
    let l = c.args.leaves.now in
    let pre = c.requires in
    (omega (arith, left_length l c.if-m-lt2.false), left_asks c.args.n l c.if-m-lt2.false c.args.out.now c.args.at pre.0 pre.1 pre.2)

pub put_group-right-requires : goal.put_group-right-requires
put_group-right-requires t c =
    let l = c.args.leaves.now in
    let pre = c.requires in (
      omega (arith, right_length l c.if-m-lt2.false),
      right_asks c.args.n l c.if-m-lt2.false c.args.out.now c.args.at pre.0 pre.1 pre.2 c.put_group-left.ensures,
    )

pub join-requires : goal.join-requires
join-requires t c =
    let pre = c.requires in
    join_asks c.args.n c.args.leaves.now c.if-m-lt2.false c.args.out.now c.args.at pre.0 pre.1 pre.2 c.put_group-left.ensures c.put_group-right.ensures

pub returns : goal.returns
returns t c =
    let pre = c.requires in
    written_node c.args.n c.args.leaves.now c.if-m-lt2.false c.args.out.now c.args.at pre.0 pre.1 pre.2 c.put_group-left.ensures c.put_group-right.ensures c.join.ensures
