-- `wish_file_writer::write_row` meets its contract: no room, or the header and the lines.
use Rattle.std.specs.Prelude.{◌≡◌, List, ℕ, ◌≤◌, length, None, Err}
use Rattle.std.proofs.Common.{sym, ap, ◌∙◌, arith}
use Rattle.std.proofs.lemmas.Result.{err_from_is_err_and}
use Rattle.refusal.specs.Laws.{enough_room}
use Rattle.refusal.specs.Reply.{refused, too_short}
use Rattle.replies.specs.Written.{reply_of}
use Rattle.writing.specs.Wrote.{Wrote, wrote_more, wrote_as, wrote_whole}
use Rattle.wish.specs.RowLaws.{count_most}
use Rattle.wish_file.specs.Format.{file_size, written}
use Rattle.refusal_causes.specs.Admitted.{none_applies}
use Rattle.refusal_causes.specs.Lent.{Lent, wishes_alone}
use Rattle.refusal_causes.specs.Texts.{refused_late, answered}
use Rattle.wish_file_writer.specs.Laws.{parts, head_length, whole_length, file_length}
use Rattle.wish_file_writer.proofs.write_row.Goals as goal

pub overflow_mul-needed : goal.overflow_mul-needed
overflow_mul-needed c =
    omega (arith, c.requires.1, count_most c.args.row.now, c.requires.0.long_row, c.requires.0.most)

pub overflow_add-needed : goal.overflow_add-needed
overflow_add-needed c =
    omega (arith, c.requires.1, count_most c.args.row.now, c.requires.0.long_row, c.requires.0.most)

pub returns-in_err-check_room : goal.returns-in_err-check_room
returns-in_err-check_room c =
    let passed = err_from_is_err_and c.from_residual.result c.from_residual.ensures.1 in
    let lent : Lent = wishes_alone c.args.n c.args.row.now c.args.d in
    let both = refused_late lent (written c.args.n c.args.row.now c.args.d) c.args.file.now (none_applies lent c.requires.0) (file_size c.args.wishes) (file_length c.args.n c.args.row.now c.args.d c.requires.0 c.args.wishes c.requires.1) c.in_err-check_room.field-0.0
    (sym c.check_room.ensures ∙ ap refused c.in_err-check_room.was) in
    record { reply = ap reply_of (passed.1 ∙ ap Err passed.2) ∙ both.0; output = both.1 }

pub put_header-at-requires : goal.put_header-at-requires
put_header-at-requires c =
    let passed : too_short (file_size c.args.wishes) (length c.args.file.now) ≡ None = sym c.check_room.ensures ∙ ap refused c.in_ok-check_room.was in
    omega (arith, head_length c.args.n c.args.row.now c.args.d c.requires.0 c.args.wishes c.requires.1, enough_room (file_size c.args.wishes) (length c.args.file.now) passed)

pub put_wishes-requires : goal.put_wishes-requires
put_wishes-requires c =
    let passed : too_short (file_size c.args.wishes) (length c.args.file.now) ≡ None = sym c.check_room.ensures ∙ ap refused c.in_ok-check_room.was in
    omega (
      arith,
      c.put_header-at.ensures.place,
      c.put_header-at.auto,
      head_length c.args.n c.args.row.now c.args.d c.requires.0 c.args.wishes c.requires.1,
      whole_length c.args.n c.args.row.now c.args.d c.requires.0 c.args.wishes c.requires.1,
      file_length c.args.n c.args.row.now c.args.d c.requires.0 c.args.wishes c.requires.1,
      enough_room (file_size c.args.wishes) (length c.args.file.now) passed,
    )

pub returns : goal.returns
returns c =
    let out : List ℕ = c.args.file.now in
    let file : List ℕ = written c.args.n c.args.row.now c.args.d in
    let lent : Lent = wishes_alone c.args.n c.args.row.now c.args.d in
    let size = file_length c.args.n c.args.row.now c.args.d c.requires.0 c.args.wishes c.requires.1 in
    let passed : too_short (file_size c.args.wishes) (length out) ≡ None = sym c.check_room.ensures ∙ ap refused c.in_ok-check_room.was in
    let room : file_size c.args.wishes ≤ length out = enough_room (file_size c.args.wishes) (length out) passed in
    let whole : Wrote file out 0 c.put_wishes.new.out c.put_wishes.result =
    wrote_as (parts c.args.n c.args.row.now c.args.d c.requires.0 c.args.wishes c.requires.1) (wrote_more c.put_header-at.ensures c.put_wishes.ensures) in
    let both = answered lent file out (none_applies lent c.requires.0) (file_size c.args.wishes) size passed c.put_wishes.result (omega (arith, whole.place)) c.put_wishes.new.out (wrote_whole whole (omega (arith, size, room))) in
    record { reply = both.0; output = both.1 }
