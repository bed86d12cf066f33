-- `wish_file_reader::read_wishes` meets its contract: refused for the file, for its row, or read.
use Rattle.std.specs.Prelude.{List, ℕ, ◌≤◌, length, drop, Err}
use Rattle.std.proofs.Common.{sym, ap, subst, ◌∙◌}
use Rattle.std.proofs.lemmas.Result.{err_from_is_err_and}
use Rattle.refusal.specs.Laws.{enough_room}
use Rattle.refusal.specs.Reply.{refused}
use Rattle.wish_file.specs.Format.{wishes_in}
use Rattle.wish_file.specs.Wishes.{marked, Rising}
use Rattle.wish_file_scan.specs.Scan.{scan-refused, scan_sound}
use Rattle.wish_file_reader.specs.Read.{reply_of}
use Rattle.wish_file_reader.specs.Laws.{refused_for_lem, too_short_lem, rising_room, row_read}
use Rattle.wish_file_reader.proofs.read_wishes.Goals as goal

pub returns-in_err-header : goal.returns-in_err-header
returns-in_err-header c =
    let passed = err_from_is_err_and c.from_residual.result c.from_residual.ensures.1 in
    let both = refused_for_lem c.args.file.now c.args.row.now c.in_err-header.field-0.0 (scan-refused c.args.file.now c.scan_file.result c.in_err-header.field-0.0 c.scan_file.ensures c.in_err-header.was) in
    record { reply = ap reply_of (passed.1 ∙ ap Err passed.2) ∙ both.0; output = both.1 }

pub returns-in_err-check_room : goal.returns-in_err-check_room
returns-in_err-check_room c =
    let h = c.in_ok-header.header in
    let good = scan_sound c.args.file.now c.scan_file.result h c.scan_file.ensures c.in_ok-header.was in
    let passed = err_from_is_err_and c.from_residual-in_err-check_room.result c.from_residual-in_err-check_room.ensures.1 in
    let both = too_short_lem c.args.file.now c.args.row.now h.variables h.wishes h.limit good.0 good.1 c.in_err-check_room.field-0.0
    (sym c.check_room.ensures ∙ ap refused c.in_err-check_room.was) in
    record { reply = ap reply_of (passed.1 ∙ ap Err passed.2) ∙ both.0; output = both.1 }

pub mark_row-requires : goal.mark_row-requires
mark_row-requires c =
    let h = c.in_ok-header.header in
    let good = scan_sound c.args.file.now c.scan_file.result h c.scan_file.ensures c.in_ok-header.was in
    let room : h.variables ≤ length c.args.row.now = enough_room h.variables (length c.args.row.now) (sym c.check_room.ensures ∙ ap refused c.in_ok-check_room.was) in
    subst (λ (k : ℕ). Rising k 0 (wishes_in h.wishes (drop 16 c.args.file.now))) (sym c.free_row.auto.row)
    (rising_room c.args.file.now c.args.row.now h.variables h.wishes h.limit good.0 good.1 room)

pub returns : goal.returns
returns c =
    let h = c.in_ok-header.header in
    let good = scan_sound c.args.file.now c.scan_file.result h c.scan_file.ensures c.in_ok-header.was in
    let room : h.variables ≤ length c.args.row.now = enough_room h.variables (length c.args.row.now) (sym c.check_room.ensures ∙ ap refused c.in_ok-check_room.was) in
    let both = row_read c.args.file.now c.args.row.now h.variables h.wishes h.limit good.0 good.1 room c.mark_row.new.row
    (c.mark_row.ensures ∙ ap (λ (l : List ℕ). marked l (wishes_in h.wishes (drop 16 c.args.file.now))) c.free_row.ensures) in
    record { reply = both.0; output = both.1 }
