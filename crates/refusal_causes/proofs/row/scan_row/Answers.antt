use Rattle.std.proofs.Common.{sym, ◌∙◌, arith}
use Rattle.wish.specs.RowLaws.{count_most, count_wish}
use Rattle.refusal_causes.proofs.row.scan_row.Goals as goal

pub overflow_add-wishes : goal.overflow_add-wishes
overflow_add-wishes c =
    let l = c.loop-place in
    let row = c.args.row.now in
    omega (arith, count_wish row l.place c.loop-place-test.true (sym c.is_wish.ensures ∙ c.if-is_wish.true), count_most row, l.invariant.3)
