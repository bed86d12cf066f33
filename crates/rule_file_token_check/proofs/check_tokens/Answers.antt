use Rattle.std.specs.Prelude.{◌≡◌, true, false, Err}
use Rattle.std.proofs.Common.{sym, ap, ◌∙◌, arith}
use Rattle.std.proofs.lemmas.Result.{err_from_is_err_and}
use Rattle.rule_file_token_stream.specs.Turn.{same_file, unread, at_end, number, moved}
use Rattle.rule_file_token_check.proofs.Checking.{onward, ended, unreadable, later, faulty, repeated, closed, joined}
use Rattle.rule_file_token_check.proofs.check_tokens.Goals as goal

pub returns : goal.returns
returns c =
    c.finish.ensures
    ∙ ended c.loop-token.invariant.so_far
    (at_end c.args.file.now c.loop-token.tokens c.loop-token.invariant.same_file c.in_ok-token.field-0 c.in_ok-token.ensures.first c.in_default.is)

pub returns-in_err-token : goal.returns-in_err-token
returns-in_err-token c =
    let passed = err_from_is_err_and c.from_residual.result c.from_residual.ensures.1 in
    passed.1 ∙ ap Err passed.2
    ∙ unreadable c.loop-token.invariant.so_far c.in_err-token.field-0.0.place
    (unread c.args.file.now c.loop-token.tokens c.loop-token.invariant.same_file c.in_err-token.field-0.0 c.in_err-token.ensures.first)

pub returns-in-Some-fault_of : goal.returns-in-Some-fault_of
returns-in-Some-fault_of c =
    faulty c.loop-token.invariant.so_far (number c.args.file.now c.loop-token.tokens c.loop-token.invariant.same_file c.in_ok-token.field-0 c.in_ok-token.ensures.first c.in-Some.token c.in-Some.is)
    c.is_repeat-repeated.result c.is_repeat-repeated.ensures c.fault_of.result c.fault_of.ensures c.in-Some-fault_of.number c.in-Some-fault_of.is

pub loop-token-smaller-then-closes : goal.loop-token-smaller-then-closes
loop-token-smaller-then-closes c =
    let found = number c.args.file.now c.loop-token.tokens c.loop-token.invariant.same_file c.in_ok-token.field-0 c.in_ok-token.ensures.first c.in-Some.token c.in-Some.is in
    let next = moved c.args.file.now c.loop-token.tokens c.loop-token.invariant.same_file c.in_ok-token.field-0 c.in_ok-token.ensures.first c.in-Some.token c.in-Some.is c.next_token.new.self c.in_ok-token.ensures.rest.1 in
    omega (arith, later c.loop-token.invariant.so_far found, next)

pub loop-token-preserved-then-closes : goal.loop-token-preserved-then-closes
loop-token-preserved-then-closes c =
    let found = number c.args.file.now c.loop-token.tokens c.loop-token.invariant.same_file c.in_ok-token.field-0 c.in_ok-token.ensures.first c.in-Some.token c.in-Some.is in
    record {
      same_file = same_file c.args.file.now c.loop-token.tokens c.loop-token.invariant.same_file c.next_token.new.self c.in_ok-token.ensures.rest.0;
      so_far =
          onward
          (closed c.loop-token.invariant.so_far found c.is_repeat-repeated.result c.is_repeat-repeated.ensures c.fault_of.result c.fault_of.ensures c.in_default-fault_of.is (sym c.closes.ensures ∙ c.if-closes.true))
          (moved c.args.file.now c.loop-token.tokens c.loop-token.invariant.same_file c.in_ok-token.field-0 c.in_ok-token.ensures.first c.in-Some.token c.in-Some.is c.next_token.new.self c.in_ok-token.ensures.rest.1);
    }

pub loop-token-smaller-else-closes : goal.loop-token-smaller-else-closes
loop-token-smaller-else-closes c =
    let found = number c.args.file.now c.loop-token.tokens c.loop-token.invariant.same_file c.in_ok-token.field-0 c.in_ok-token.ensures.first c.in-Some.token c.in-Some.is in
    let next = moved c.args.file.now c.loop-token.tokens c.loop-token.invariant.same_file c.in_ok-token.field-0 c.in_ok-token.ensures.first c.in-Some.token c.in-Some.is c.next_token.new.self c.in_ok-token.ensures.rest.1 in
    omega (arith, later c.loop-token.invariant.so_far found, next)

pub loop-token-preserved-else-closes : goal.loop-token-preserved-else-closes
loop-token-preserved-else-closes c =
    let found = number c.args.file.now c.loop-token.tokens c.loop-token.invariant.same_file c.in_ok-token.field-0 c.in_ok-token.ensures.first c.in-Some.token c.in-Some.is in
    record {
      same_file = same_file c.args.file.now c.loop-token.tokens c.loop-token.invariant.same_file c.next_token.new.self c.in_ok-token.ensures.rest.0;
      so_far =
          onward
          (joined c.loop-token.invariant.so_far found c.is_repeat-repeated.result c.is_repeat-repeated.ensures c.fault_of.result c.fault_of.ensures c.in_default-fault_of.is (sym c.closes.ensures ∙ c.if-closes.false) c.requires.0 c.if-not-repeated.true _ c.stamp.ensures)
          (moved c.args.file.now c.loop-token.tokens c.loop-token.invariant.same_file c.in_ok-token.field-0 c.in_ok-token.ensures.first c.in-Some.token c.in-Some.is c.next_token.new.self c.in_ok-token.ensures.rest.1);
    }

pub loop-token-smaller : goal.loop-token-smaller
loop-token-smaller c =
    let found = number c.args.file.now c.loop-token.tokens c.loop-token.invariant.same_file c.in_ok-token.field-0 c.in_ok-token.ensures.first c.in-Some.token c.in-Some.is in
    let next = moved c.args.file.now c.loop-token.tokens c.loop-token.invariant.same_file c.in_ok-token.field-0 c.in_ok-token.ensures.first c.in-Some.token c.in-Some.is c.next_token.new.self c.in_ok-token.ensures.rest.1 in
    omega (arith, later c.loop-token.invariant.so_far found, next)

pub loop-token-preserved : goal.loop-token-preserved
loop-token-preserved c =
    let found = number c.args.file.now c.loop-token.tokens c.loop-token.invariant.same_file c.in_ok-token.field-0 c.in_ok-token.ensures.first c.in-Some.token c.in-Some.is in
    record {
      same_file = same_file c.args.file.now c.loop-token.tokens c.loop-token.invariant.same_file c.next_token.new.self c.in_ok-token.ensures.rest.0;
      so_far =
          onward
          (repeated c.loop-token.invariant.so_far found c.is_repeat-repeated.result c.is_repeat-repeated.ensures c.fault_of.result c.fault_of.ensures c.in_default-fault_of.is c.if-not-repeated.false)
          (moved c.args.file.now c.loop-token.tokens c.loop-token.invariant.same_file c.in_ok-token.field-0 c.in_ok-token.ensures.first c.in-Some.token c.in-Some.is c.next_token.new.self c.in_ok-token.ensures.rest.1);
    }
