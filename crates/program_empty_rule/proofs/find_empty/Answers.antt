-- `program_empty_rule::find_empty` meets its contract: where the header should be, or as `empty_from` answers.
use Rattle.std.proofs.Common.{sym, ◌∙◌}
use Rattle.program_empty_rule.proofs.Laws.{header_missing, header_found}
use Rattle.program_empty_rule.proofs.find_empty.Goals as goal

pub returns-in-None : goal.returns-in-None
returns-in-None c =
    sym (header_missing c.args.file.now c.past_comments-place.result c.past_comments-place.ensures.0 c.in-None.ensures)

pub returns-in-Some : goal.returns-in-Some
returns-in-Some c =
    c.empty_from.ensures
    ∙ sym (header_found c.args.file.now c.past_comments-place.result c.past_comments-place.ensures.0 c.in-Some.header c.in-Some.ensures)
