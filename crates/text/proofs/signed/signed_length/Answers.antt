-- `text::signed::signed_length` meets its contract, by the number's sign.
use Rattle.std.proofs.Common.{ap, ◌∙◌, arith, length}
use Rattle.literal.specs.Laws.{as_read}
use Rattle.literal.specs.Literal.{variable, wanted}
use Rattle.text.specs.Laws.{numeral_off, numeral-on, signed-most}
use Rattle.text.proofs.signed.signed_length.Goals as goal

pub returns-then-wanted_by-eq0 : goal.returns-then-wanted_by-eq0
returns-then-wanted_by-eq0 c =
    let x = as_read c.args.x c.ranges.x.sfits in
    let text = numeral_off c.args.x c.variable_of.result.0 c.wanted_by.result (c.variable_of.ensures ∙ ap variable x) (c.wanted_by.ensures ∙ ap wanted x) c.if-wanted_by-eq0.true in
    omega (arith, ap length text, c.number_length-digits.ensures.0, signed-most c.args.x c.ranges.x.sfits)

pub returns-else-wanted_by-eq0 : goal.returns-else-wanted_by-eq0
returns-else-wanted_by-eq0 c =
    let x = as_read c.args.x c.ranges.x.sfits in
    let text = numeral-on c.args.x c.variable_of.result.0 c.wanted_by.result (c.variable_of.ensures ∙ ap variable x) (c.wanted_by.ensures ∙ ap wanted x) c.if-wanted_by-eq0.false in
    omega (arith, ap length text, c.number_length-digits.ensures.0, signed-most c.args.x c.ranges.x.sfits)
