use Rattle.std.specs.Prelude.{◌≡◌, true, get_or, length}
use Rattle.std.proofs.Common.{rules, sym, ap, ◌∙◌, arith}
use Rattle.rule_file.proofs.TokenLaws.{token_begins, kept_outside, tokens-blank, tokens_comment, comment_some, tokens_here}
use Rattle.rule_file.specs.Tokens.{is_gap, in_token, position_at, tokens_from}
use Rattle.rule_file_tokens.specs.NextToken.{first_place}
use Rattle.rule_file_tokens.proofs.token_start.Goals as goal

pub loop-i-smaller-then-opens_comment : goal.loop-i-smaller-then-opens_comment
loop-i-smaller-then-opens_comment c =
    omega (arith, comment_some c.args.file.now c.loop-i.i c.loop-i-test.true (sym c.opens_comment.ensures ∙ c.if-opens_comment.true), c.find_byte-i.ensures)

pub loop-i-preserved-then-opens_comment : goal.loop-i-preserved-then-opens_comment
loop-i-preserved-then-opens_comment c =
    c.loop-i.invariant
    ∙ tokens_comment c.args.file.now c.loop-i.i c.loop-i-test.true (sym c.opens_comment.ensures ∙ c.if-opens_comment.true)
    ∙ ap (tokens_from c.args.file.now) (sym c.find_byte-i.ensures)

pub returns-else-eq : goal.returns-else-eq
returns-else-eq c =
    let b = get_or c.args.file.now c.loop-i.i 0 in
    let inside : in_token b ≡ true = search rules in
    sym (ap (first_place (length c.args.file.now))
    (c.loop-i.invariant ∙ tokens_here c.args.file.now c.loop-i.i c.loop-i-test.true
    (token_begins (position_at c.args.file.now c.loop-i.i) b (kept_outside c.args.file.now c.loop-i.i) inside
    (sym c.opens_comment.ensures ∙ c.if-opens_comment.false))))

pub loop-i-preserved : goal.loop-i-preserved
loop-i-preserved c =
    let blank : is_gap (get_or c.args.file.now c.loop-i.i 0) ≡ true = search rules in
    c.loop-i.invariant ∙ tokens-blank c.args.file.now c.loop-i.i c.loop-i-test.true blank
