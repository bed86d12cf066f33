-- `totalizer_encoding::write` meets its contract: the leaves are found, the rules copied, and the clauses over the leaves put after them.
use Rattle.std.proofs.Common.{arith, length-take, refl}
use Rattle.totalizer_encoding.specs.Causes.{few_leaves}
use Rattle.totalizer_encoding.specs.Writing.{found_room, own_asks, all_written}
use Rattle.totalizer_encoding.proofs.write.Goals as goal

pub put_leaves-m-requires : goal.put_leaves-m-requires
put_leaves-m-requires c =
    let few = few_leaves c.args.n c.args.rules.now c.args.row.now c.args.d c.requires.0 in
    (omega (arith, c.requires.0.long_row, c.requires.0.most), omega (arith, few))

pub slice_bounds-found-end : goal.slice_bounds-found-end
slice_bounds-found-end c =
    omega (arith, found_room c.args.n c.args.rules.now c.args.row.now c.args.d c.args.out.now c.requires refl c.put_leaves-m.ensures)

pub slice_bounds-put_at_most-end : goal.slice_bounds-put_at_most-end
slice_bounds-put_at_most-end c =
    omega (arith, length-take c.put_leaves-m.result c.put_leaves-m.new.out, found_room c.args.n c.args.rules.now c.args.row.now c.args.d c.args.out.now c.requires refl c.put_leaves-m.ensures)

pub put_at_most-end-requires : goal.put_at_most-end-requires
put_at_most-end-requires c =
    own_asks c.args.n c.args.rules.now c.args.row.now c.args.d c.args.out.now c.requires refl c.put_leaves-m.ensures c.put_all-from.ensures

pub returns : goal.returns
returns c =
    let both = all_written c.args.n c.args.rules.now c.args.row.now c.args.d c.args.out.now c.requires refl c.put_leaves-m.ensures c.put_all-from.ensures c.put_at_most-end.ensures in
    record { sizes = both.0; output = both.1 }
