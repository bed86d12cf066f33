use mathlib.Core.Path.{ap, ap₂, ◌∙◌}
use native.Mathlib.Numerals.{add-one}
use native.Mathlib.Omega.{arith}
use Rattle.literal.specs.Laws.{get_or_inside}
use Rattle.literal.specs.Literal.{value}
use Rattle.walk.specs.Walk.{complete_byte}
use Rattle.walk_completion.specs.Filling.{next, whole}
use Rattle.walk_completion.proofs.fill.fill_completion.Goals as goal

pub loop-i-preserved : goal.loop-i-preserved
loop-i-preserved c =
    let row = c.args.row.now in
    let i = c.loop-i.i in
    let now = c.loop-i.assignment in
    next row c.args.assignment.now now i c.loop-i.invariant (omega arith) c.complete_byte.result
    (c.complete_byte.ensures ∙ ap₂ complete_byte (c.value_of.ensures ∙ ap (value row) (add-one i)) (get_or_inside now i 0 2 (omega arith)))

pub returns : goal.returns
returns c = whole c.args.row.now c.args.assignment.now c.loop-i.assignment c.loop-i.i c.loop-i.invariant (omega arith)
