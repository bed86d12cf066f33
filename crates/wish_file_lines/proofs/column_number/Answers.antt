-- `wish_file_lines::column_number` meets its contract: the part past the spaces is what the column's number is read from.
use Rattle.std.specs.Prelude.{◌≡◌, ◌+◌, ◌-◌}
use Rattle.std.proofs.Common.{◌∙◌, arith}
use Rattle.wish_file_lines.specs.Laws.{column-part}
use Rattle.wish_file_lines.proofs.column_number.Goals as goal

pub returns : goal.returns
returns c =
    let width : c.args.at + 5 - c.args.at ≡ 5 = omega arith in
    c.number_of.ensures ∙ column-part c.args.file.now c.args.at (c.args.at + 5 - c.args.at) c.leading_spaces-start.result width c.leading_spaces-start.ensures.1
