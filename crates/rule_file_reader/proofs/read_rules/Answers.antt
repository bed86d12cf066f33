-- `rule_file_reader::read_rules` meets its contract: refused for the header, for its numbers, or as `read_tokens` answers.
use Rattle.std.proofs.Common.{sym, ◌∙◌}
use Rattle.refusal.specs.Reply.{refusal}
use Rattle.rule_file.specs.Format.{reading}
use Rattle.rule_file_reader.specs.Answers.{tokens_read, refused, answered, header_missing, range_refused, range_kept}
use Rattle.rule_file_reader.specs.Read.{reply_of}
use Rattle.rule_file_reader.proofs.read_rules.Goals as goal

pub returns-in_default-clause-output : goal.returns-in_default-clause-output
returns-in_default-clause-output c =
    (refused (reading c.args.file.now) (refusal 1 c.past_comments-place.result) c.args.rules.now
    (header_missing c.args.file.now c.past_comments-place.result c.past_comments-place.ensures.0 (sym c.in_default.is ∙ c.header_at.ensures))).1

pub returns-then-is_outside : goal.returns-then-is_outside
returns-then-is_outside c =
    let both = refused (reading c.args.file.now) (refusal 2 c.past_comments-place.result) c.args.rules.now
    (range_refused c.args.file.now c.past_comments-place.result c.past_comments-place.ensures.0 c.in-Some.header c.in-Some.ensures (sym c.is_outside.ensures ∙ c.if-is_outside.true)) in
    record { reply = both.0; output = both.1 }

pub returns : goal.returns
returns c =
    let h = c.in-Some.header in
    let both = answered (tokens_read h.variables h.clauses c.args.file.now h.next) (reading c.args.file.now) (reply_of c.read_tokens.result) c.read_tokens.new.rules c.args.rules.now
    (range_kept c.args.file.now c.past_comments-place.result c.past_comments-place.ensures.0 h c.in-Some.ensures (sym c.is_outside.ensures ∙ c.if-is_outside.false))
    (c.read_tokens.ensures.reply, c.read_tokens.ensures.output) in
    record { reply = both.0; output = both.1 }
