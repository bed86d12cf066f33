-- `rule_file_tokens::token_at` meets its contract: no token is left, or it is malformed, or a number of the list.
use Rattle.std.proofs.Common.{sym, arith}
use Rattle.rule_file.specs.Tokens.{in_token}
use Rattle.rule_file_tokens.specs.Laws.{run_end_inside, no_token, token_malformed, token_element}
use Rattle.rule_file_tokens.proofs.token_at.Goals as goal

pub returns-then-file-place : goal.returns-then-file-place
returns-then-file-place c =
    no_token c.args.file.now c.args.at c.token_start-place.result c.token_start-place.ensures c.if-file-place.true

pub slice_bounds-signed_of-end : goal.slice_bounds-signed_of-end
slice_bounds-signed_of-end c =
    run_end_inside in_token c.args.file.now c.token_start-place.result c.token_end-next.result c.token_end-next.ensures (omega (arith, c.if-file-place.false))

pub returns-in-None : goal.returns-in-None
returns-in-None c =
    token_malformed c.args.file.now c.args.at c.token_start-place.result c.token_start-place.ensures c.token_end-next.result c.token_end-next.ensures c.if-file-place.false
    (sym c.in-None.ensures)

pub returns-in-Some : goal.returns-in-Some
returns-in-Some c =
    token_element c.args.file.now c.args.at c.token_start-place.result c.token_start-place.ensures c.token_end-next.result c.token_end-next.ensures c.if-file-place.false
    c.in-Some.value (sym c.in-Some.ensures)
