use Rattle.std.specs.Prelude.{◌≡◌, true, not}
use Rattle.std.proofs.Common.{sym, ap, ◌∙◌, true≢false, arith}
use Rattle.rule_file_token_stream.specs.Turn.{same_file, unread, at_end, number, moved}
use Rattle.program_empty_rule.specs.Laws.{empty_from}
use Rattle.program_empty_rule.proofs.Laws.{at_end_lem, at_malformed, later, turned}
use Rattle.program_empty_rule.proofs.empty_from.Goals as goal
use Rattle.program_empty_rule.proofs.empty_from.Goals.{else-closes-via-then-closes+else-not-filled, else-closes-via-else-closes}

pub returns-in-Err : goal.returns-in-Err
returns-in-Err c =
    sym (c.loop-malformed.invariant.so_far
    ∙ at_malformed c.loop-malformed.filled c.args.file.now c.loop-malformed.tokens.at c.in-Err.malformed.place
    (unread c.args.file.now c.loop-malformed.tokens c.loop-malformed.invariant.same_file c.in-Err.malformed c.in-Err.ensures.first))

pub returns-in-Ok-None : goal.returns-in-Ok-None
returns-in-Ok-None c =
    sym (c.loop-malformed.invariant.so_far
    ∙ at_end_lem c.loop-malformed.filled c.args.file.now c.loop-malformed.tokens.at
    (at_end c.args.file.now c.loop-malformed.tokens c.loop-malformed.invariant.same_file c.in-Ok-None.field-0 c.in-Ok-None.ensures.first c.in-Ok-None.field-0-is))

pub loop-malformed-smaller : goal.loop-malformed-smaller
loop-malformed-smaller c =
    let found = number c.args.file.now c.loop-malformed.tokens c.loop-malformed.invariant.same_file c.in-Ok-Some.field-0 c.in-Ok-Some.ensures.first c.in-Ok-Some.token c.in-Ok-Some.field-0-is in
    let next = moved c.args.file.now c.loop-malformed.tokens c.loop-malformed.invariant.same_file c.in-Ok-Some.field-0 c.in-Ok-Some.ensures.first c.in-Ok-Some.token c.in-Ok-Some.field-0-is c.next_token.new.self c.in-Ok-Some.ensures.rest.1 in
    omega (arith, later c.loop-malformed.filled c.args.file.now c.loop-malformed.tokens.at found, next)

pub loop-malformed-preserved : goal.loop-malformed-preserved
loop-malformed-preserved c =
    let found = number c.args.file.now c.loop-malformed.tokens c.loop-malformed.invariant.same_file c.in-Ok-Some.field-0 c.in-Ok-Some.ensures.first c.in-Ok-Some.token c.in-Ok-Some.field-0-is in
    let next = moved c.args.file.now c.loop-malformed.tokens c.loop-malformed.invariant.same_file c.in-Ok-Some.field-0 c.in-Ok-Some.ensures.first c.in-Ok-Some.token c.in-Ok-Some.field-0-is c.next_token.new.self c.in-Ok-Some.ensures.rest.1 in
    let full : c.closes-closes.result ≡ true → c.loop-malformed.filled ≡ true = elim c.else-closes.branch [
      | else-closes-via-then-closes+else-not-filled w ↦ λ h. w.if-not-filled.false
      | else-closes-via-else-closes w ↦ λ h. absurd (true≢false (sym h ∙ w.if-closes.false))
    ] in
    record {
      same_file = same_file c.args.file.now c.loop-malformed.tokens c.loop-malformed.invariant.same_file c.next_token.new.self c.in-Ok-Some.ensures.rest.0;
      so_far =
          c.loop-malformed.invariant.so_far
          ∙ turned c.loop-malformed.filled c.args.file.now c.loop-malformed.tokens.at found c.closes-closes.result c.closes-closes.ensures full
          ∙ ap (empty_from (not c.closes-closes.result) c.args.file.now) (sym next);
    }
