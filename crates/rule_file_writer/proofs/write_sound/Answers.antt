-- `rule_file_writer::write_sound` meets its contract: no room, or the header and the lines.
use Rattle.std.specs.Prelude.{◌≡◌, List, ℕ, ◌+◌, ◌≤◌, length, None}
use Rattle.std.proofs.Common.{sym, ap, ◌∙◌, arith}
use Rattle.refusal.specs.Laws.{enough_room}
use Rattle.refusal.specs.Reply.{refused, too_short}
use Rattle.writing.specs.Wrote.{wrote_more, wrote_as, wrote_whole}
use Rattle.rule_file.specs.Written.{written}
use Rattle.refusal_causes.specs.Admitted.{none_applies}
use Rattle.refusal_causes.specs.Lent.{Lent, plain_problem}
use Rattle.refusal_causes.specs.Texts.{answered}
use Rattle.rule_file.proofs.Sizes.{sound_length}
use Rattle.rule_file_writer.specs.Writing.{written_parts, written-length}
use Rattle.rule_file_writer.proofs.write_sound.Goals as goal

pub body_length-requires : goal.body_length-requires
body_length-requires c =
    sound_length c.args.n c.args.rules.now c.requires.0.sound_rules

pub returns : goal.returns
returns c =
    let needed : ℕ = c.header_length.result + c.body_length.result in
    let out : List ℕ = c.args.file.now in
    let file : List ℕ = written c.args.n c.args.rules.now in
    let lent : Lent = plain_problem c.args.n c.args.rules.now in
    let size : needed ≡ length file = omega (arith, c.header_length.ensures.0, c.body_length.ensures.0, written-length c.args.n c.args.count c.args.rules.now c.requires.1) in
    let passed : too_short needed (length out) ≡ None = sym c.check_room.ensures ∙ ap refused c.in_ok-check_room.was in
    let fits : needed ≤ length out = enough_room needed (length out) passed in
    let whole = wrote_as (written_parts c.args.n c.args.count c.args.rules.now c.requires.1) (wrote_more c.put_header-at.ensures c.put_body.ensures) in
    let both = answered lent file out (none_applies lent c.requires.0) needed size passed c.put_body.result (omega (arith, whole.place)) c.put_body.new.out (wrote_whole whole (omega (arith, size, fits))) in
    record { reply = both.0; output = both.1 }
