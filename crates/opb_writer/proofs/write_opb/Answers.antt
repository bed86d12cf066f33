-- `opb_writer::write_opb` meets its contract: refused for what was lent, for want of room, or the three parts one after the other.
use Rattle.std.proofs.lemmas.Result.{err_from_is_err_and}
use Rattle.opb_writer.specs.Ends.{rules_fit, refused_late, written}
use Rattle.opb_writer.proofs.write_opb.Goals as goal

pub rules_length-requires : goal.rules_length-requires
rules_length-requires c = rules_fit c.args.n c.args.rules.now c.args.row.now c.args.d c.in_ok-counts.counts c.in_ok-counts.ensures

pub returns-in_err-check_room : goal.returns-in_err-check_room
returns-in_err-check_room c =
    let both = refused_late c.args.n c.args.rules.now c.args.row.now c.args.d c.in_ok-counts.counts c.in_ok-counts.ensures c.args.file.now c.line_count-lines.result c.line_count-lines.ensures
    c.header_length.ensures.0 c.rules_length.ensures.0 c.wishes_length.ensures.0 c.in_err-check_room.field-0.0 c.in_err-check_room.ensures in
    let given = err_from_is_err_and c.from_residual-in_err-check_room.result c.from_residual-in_err-check_room.ensures.1 in
    record { reply = rw (given.1, given.2) both.0; output = both.1 }

pub returns : goal.returns
returns c =
    let both = written c.args.n c.args.rules.now c.args.row.now c.args.d c.in_ok-counts.counts c.in_ok-counts.ensures c.args.file.now c.line_count-lines.result c.line_count-lines.ensures
    c.header_length.ensures.0 c.rules_length.ensures.0 c.wishes_length.ensures.0 c.in_ok-check_room.ensures c.put_header-first.ensures c.put_rules-last.ensures c.put_wishes.ensures in
    record { reply = both.0; output = both.1 }
