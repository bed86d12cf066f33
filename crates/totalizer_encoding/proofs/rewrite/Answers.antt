-- `totalizer_encoding::rewrite` meets its contract: refused for what was lent, for want of room, or written.
use Rattle.std.proofs.lemmas.Result.{err_from_is_err_and}
use Rattle.totalizer_encoding.specs.Causes.{few_leaves-weight, refused_late, writable, answered}
use Rattle.totalizer_encoding.proofs.rewrite.Goals as goal

pub length_of-requires : goal.length_of-requires
length_of-requires c = few_leaves-weight c.args.n c.args.rules.now c.args.row.now c.args.d c.in_ok-counts.counts c.in_ok-counts.ensures

pub write-requires : goal.write-requires
write-requires c =
    writable c.args.n c.args.rules.now c.args.row.now c.args.d c.in_ok-counts.counts c.in_ok-counts.ensures c.args.out.now c.length_of.result c.length_of.ensures.0 c.in_ok-check_room.ensures

pub returns-in_err-check_room : goal.returns-in_err-check_room
returns-in_err-check_room c =
    let both = refused_late c.args.n c.args.rules.now c.args.row.now c.args.d c.in_ok-counts.counts c.in_ok-counts.ensures c.args.out.now c.length_of.result c.length_of.ensures.0 c.in_err-check_room.field-0.0 c.in_err-check_room.ensures in
    let given = err_from_is_err_and c.from_residual-in_err-check_room.result c.from_residual-in_err-check_room.ensures.1 in
    record { reply = rw (given.1, given.2) both.0; output = both.1 }

pub returns : goal.returns
returns c =
    let both = answered c.args.n c.args.rules.now c.args.row.now c.args.d c.in_ok-counts.counts c.in_ok-counts.ensures c.args.out.now c.length_of.result c.length_of.ensures.0 c.in_ok-check_room.ensures c.write.result c.write.new.out c.write.ensures.sizes c.write.ensures.output in
    record { reply = both.0; output = both.1 }
