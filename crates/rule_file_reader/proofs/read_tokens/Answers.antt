-- `rule_file_reader::read_tokens` meets its contract: all tokens are good, and the list has room for their numbers.
use Rattle.std.specs.Prelude.{List, length}
use Rattle.std.proofs.Common.{sym, ap, ◌∙◌}
use Rattle.refusal.specs.Laws.{enough_room}
use Rattle.refusal.specs.Reply.{refused}
use Rattle.rule_list.specs.Sound.{unread}
use Rattle.rule_file.specs.Format.{bad_tokens, rules_of}
use Rattle.rule_file.specs.Tokens.{Token, tokens_from}
use Rattle.rule_file_token_check.specs.Check.{check_good}
use Rattle.rule_file_reader.specs.Answers.{tokens_read_lem}
use Rattle.rule_file_reader.proofs.read_tokens.Goals as goal

pub returns-clause-output : goal.returns-clause-output
returns-clause-output c =
    let h = c.args.header in
    let ts : List Token = tokens_from c.args.file.now h.next in
    let good = check_good (bad_tokens h.variables h.clauses (length c.args.file.now) unread ts) (length (rules_of ts)) c.check_tokens.result c.check_tokens.ensures c.in_ok-length.length c.in_ok-length.was in
    let room = enough_room c.in_ok-length.length (length c.args.rules.now) (sym c.check_room.ensures ∙ ap refused c.in_ok-check_room.was) in
    (tokens_read_lem h.variables h.clauses c.args.file.now h.next c.args.rules.now good.0 c.in_ok-length.length good.1 room c.fill_rules.new.rules c.fill_rules.ensures).1
