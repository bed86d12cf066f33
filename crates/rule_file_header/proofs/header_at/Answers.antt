-- `rule_file_header::header_at` meets its contract: no preamble, no line feed, a malformed number, or both numbers.
use Rattle.std.specs.Prelude.{◌+◌}
use Rattle.std.proofs.Common.{sym, ap, ◌∙◌, arith}
use Rattle.rule_file_header.specs.Header.{header_as}
use Rattle.rule_file_header.specs.Laws.{header_open, field-most, no-n, no-c, both_there}
use Rattle.rule_file_header.proofs.header_at.Goals as goal

pub overflow_add-c_from : goal.overflow_add-c_from
overflow_add-c_from c =
    omega (arith, field-most 32 c.args.file.now (c.args.at + 6) c.find_byte-n_end.result c.find_byte-n_end.ensures, c.requires, c.well_formed.0.1)

pub returns-then-file-c_end : goal.returns-then-file-c_end
returns-then-file-c_end c =
    sym (ap (header_as c.args.at) (header_open c.args.file.now c.args.at c.find_byte-n_end.result c.find_byte-c_end.result c.find_byte-n_end.ensures c.find_byte-c_end.ensures c.if-file-c_end.true))

pub returns-in_err-variables : goal.returns-in_err-variables
returns-in_err-variables c =
    c.from_residual.ensures
    ∙ sym (no-n c.args.file.now c.args.at c.find_byte-n_end.result c.find_byte-c_end.result c.find_byte-n_end.ensures c.find_byte-c_end.ensures
    (sym c.has_preamble.ensures ∙ c.if-not-has_preamble.false) c.if-file-c_end.false (sym c.in_err-variables.ensures))

pub returns-in_err-clauses : goal.returns-in_err-clauses
returns-in_err-clauses c =
    c.from_residual-in_err-clauses.ensures
    ∙ sym (no-c c.args.file.now c.args.at c.find_byte-n_end.result c.find_byte-c_end.result c.find_byte-n_end.ensures c.find_byte-c_end.ensures
    (sym c.has_preamble.ensures ∙ c.if-not-has_preamble.false) c.if-file-c_end.false
    c.in_ok-variables.variables (sym c.in_ok-variables.ensures) (sym c.in_err-clauses.ensures))

pub returns : goal.returns
returns c =
    sym (both_there c.args.file.now c.args.at c.find_byte-n_end.result c.find_byte-c_end.result c.find_byte-n_end.ensures c.find_byte-c_end.ensures
    (sym c.has_preamble.ensures ∙ c.if-not-has_preamble.false) c.if-file-c_end.false
    c.in_ok-variables.variables c.in_ok-clauses.clauses (sym c.in_ok-variables.ensures) (sym c.in_ok-clauses.ensures))
