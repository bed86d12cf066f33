use Rattle.std.specs.Prelude.{◌≡◌, ◌+◌, ◌<◌, ℤ, pos, get_or, length, drop}
use Rattle.std.specs.Int.{w32}
use Rattle.std.proofs.Common.{rules, ap, arith, SFits, to_z, of_z}
use Rattle.std.proofs.lemmas.Int.{to_z-of_z}
use Rattle.writing.specs.Wrote.{wrote_as, remaining_next}
use Rattle.rule_file.specs.Written.{body}
use Rattle.rule_file_writer.specs.Write.{element_text}
use Rattle.rule_file_writer.specs.Writing.{body_split}
use Rattle.rule_file_writer.proofs.put.put_body.Goals as goal

pub loop-x-preserved : goal.loop-x-preserved
loop-x-preserved c =
    let x : ℤ = get_or c.args.rules.now c.loop-x.x-index (pos 0) in
    let fits : SFits w32 x = search rules in
    let inside : c.loop-x.x-index < length c.args.rules.now = omega arith in
    remaining_next (body (drop (c.loop-x.x-index + 1) c.args.rules.now)) c.loop-x.invariant (body_split c.args.rules.now c.loop-x.x-index inside)
    (wrote_as (ap element_text (to_z-of_z w32 x fits)) c.put_element-at.ensures)
