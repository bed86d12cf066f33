-- `wish_file_scan::scan_file` meets its contract: refused at line one, for its range, in the lines after it, or good.
use Rattle.std.specs.Prelude.{Err}
use Rattle.std.proofs.Common.{sym, ap, ◌∙◌, arith}
use Rattle.std.proofs.lemmas.Result.{err_from_is_err_and}
use Rattle.refusal.specs.Reply.{refused}
use Rattle.wish_file_lines.specs.Laws.{line_long}
use Rattle.wish_file_scan.specs.Scan.{file_scan}
use Rattle.wish_file_scan.specs.Laws.{header_malformed, header-outside, lines_refused, lines_passed}
use Rattle.wish_file_scan.proofs.scan_file.Goals as goal

pub returns-then-not-is_line : goal.returns-then-not-is_line
returns-then-not-is_line c =
    sym (ap file_scan (header_malformed c.args.file.now (sym c.is_line.ensures ∙ c.if-not-is_line.true)))

pub field_at-wishes-requires : goal.field_at-wishes-requires
field_at-wishes-requires c = omega (arith, line_long 3 c.args.file.now (sym c.is_line.ensures ∙ c.if-not-is_line.false))

pub field_at-limit-requires : goal.field_at-limit-requires
field_at-limit-requires c = omega (arith, line_long 3 c.args.file.now (sym c.is_line.ensures ∙ c.if-not-is_line.false))

pub returns-then-is_outside : goal.returns-then-is_outside
returns-then-is_outside c =
    sym (ap file_scan (header-outside c.args.file.now (sym c.is_line.ensures ∙ c.if-not-is_line.false) c.field_at-variables.result c.field_at-wishes.result c.field_at-limit.result c.field_at-variables.ensures c.field_at-wishes.ensures c.field_at-limit.ensures (sym c.is_outside.ensures ∙ c.if-is_outside.true)))

pub scan_lines-requires : goal.scan_lines-requires
scan_lines-requires c = line_long 3 c.args.file.now (sym c.is_line.ensures ∙ c.if-not-is_line.false)

pub returns-in_err-scan_lines : goal.returns-in_err-scan_lines
returns-in_err-scan_lines c =
    let passed = err_from_is_err_and c.from_residual.result c.from_residual.ensures.1 in
    passed.1 ∙ ap Err passed.2
    ∙ sym (ap file_scan
    (lines_refused c.args.file.now (sym c.is_line.ensures ∙ c.if-not-is_line.false) c.field_at-variables.result c.field_at-wishes.result c.field_at-limit.result c.field_at-variables.ensures c.field_at-wishes.ensures c.field_at-limit.ensures (sym c.is_outside.ensures ∙ c.if-is_outside.false) c.in_err-scan_lines.field-0.0 (sym c.scan_lines.ensures ∙ ap refused c.in_err-scan_lines.was)))

pub returns : goal.returns
returns c =
    sym (ap file_scan
    (lines_passed c.args.file.now (sym c.is_line.ensures ∙ c.if-not-is_line.false) c.field_at-variables.result c.field_at-wishes.result c.field_at-limit.result c.field_at-variables.ensures c.field_at-wishes.ensures c.field_at-limit.ensures (sym c.is_outside.ensures ∙ c.if-is_outside.false) (sym c.scan_lines.ensures ∙ ap refused c.in_ok-scan_lines.was)))
