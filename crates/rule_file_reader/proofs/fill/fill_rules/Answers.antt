use Rattle.std.specs.Prelude.{◌≡◌, true, false}
use Rattle.std.proofs.Common.{sym, ◌∙◌, arith}
use Rattle.rule_file_token_stream.specs.Turn.{same_file, unread, at_end, number, moved}
use Rattle.rule_file_reader.proofs.Filling.{onward, never, later, below, value_inside, has_room, dropped, closed, joined}
use Rattle.rule_file_reader.proofs.fill.fill_rules.Goals as goal

pub returns-in_default-2 : goal.returns-in_default-2
returns-in_default-2 c =
    absurd (never c.loop-token.invariant.so_far c.in_default.field-0.place
    (unread c.args.file.now c.loop-token.tokens c.loop-token.invariant.same_file c.in_default.field-0 (sym c.in_default.is ∙ c.next_token.ensures.first)))

pub bounds-rules-i : goal.bounds-rules-i
bounds-rules-i c =
    has_room c.loop-token.invariant.so_far (number c.args.file.now c.loop-token.tokens c.loop-token.invariant.same_file c.in-Ok-Some.field-0 c.in-Ok-Some.ensures.first c.in-Ok-Some.token c.in-Ok-Some.field-0-is) c.is_repeat.result c.is_repeat.ensures c.if-not-is_repeat.true

pub stamp-requires : goal.stamp-requires
stamp-requires c =
    let found = number c.args.file.now c.loop-token.tokens c.loop-token.invariant.same_file c.in-Ok-Some.field-0 c.in-Ok-Some.ensures.first c.in-Ok-Some.token c.in-Ok-Some.field-0-is in
    (value_inside c.loop-token.invariant.so_far found, omega (arith, below c.loop-token.invariant.so_far found))

pub loop-token-smaller-then-closes : goal.loop-token-smaller-then-closes
loop-token-smaller-then-closes c =
    let found = number c.args.file.now c.loop-token.tokens c.loop-token.invariant.same_file c.in-Ok-Some.field-0 c.in-Ok-Some.ensures.first c.in-Ok-Some.token c.in-Ok-Some.field-0-is in
    let next = moved c.args.file.now c.loop-token.tokens c.loop-token.invariant.same_file c.in-Ok-Some.field-0 c.in-Ok-Some.ensures.first c.in-Ok-Some.token c.in-Ok-Some.field-0-is c.next_token.new.self c.in-Ok-Some.ensures.rest.1 in
    omega (arith, later c.loop-token.invariant.so_far found, next)

pub loop-token-preserved-then-closes : goal.loop-token-preserved-then-closes
loop-token-preserved-then-closes c =
    let found = number c.args.file.now c.loop-token.tokens c.loop-token.invariant.same_file c.in-Ok-Some.field-0 c.in-Ok-Some.ensures.first c.in-Ok-Some.token c.in-Ok-Some.field-0-is in
    record {
      same_file = same_file c.args.file.now c.loop-token.tokens c.loop-token.invariant.same_file c.next_token.new.self c.in-Ok-Some.ensures.rest.0;
      so_far =
          onward
          (closed c.loop-token.invariant.so_far found c.is_repeat.result c.is_repeat.ensures (sym c.closes.ensures ∙ c.if-closes.true))
          (moved c.args.file.now c.loop-token.tokens c.loop-token.invariant.same_file c.in-Ok-Some.field-0 c.in-Ok-Some.ensures.first c.in-Ok-Some.token c.in-Ok-Some.field-0-is c.next_token.new.self c.in-Ok-Some.ensures.rest.1);
    }

pub loop-token-smaller-else-closes : goal.loop-token-smaller-else-closes
loop-token-smaller-else-closes c =
    let found = number c.args.file.now c.loop-token.tokens c.loop-token.invariant.same_file c.in-Ok-Some.field-0 c.in-Ok-Some.ensures.first c.in-Ok-Some.token c.in-Ok-Some.field-0-is in
    let next = moved c.args.file.now c.loop-token.tokens c.loop-token.invariant.same_file c.in-Ok-Some.field-0 c.in-Ok-Some.ensures.first c.in-Ok-Some.token c.in-Ok-Some.field-0-is c.next_token.new.self c.in-Ok-Some.ensures.rest.1 in
    omega (arith, later c.loop-token.invariant.so_far found, next)

pub loop-token-preserved-else-closes : goal.loop-token-preserved-else-closes
loop-token-preserved-else-closes c =
    let found = number c.args.file.now c.loop-token.tokens c.loop-token.invariant.same_file c.in-Ok-Some.field-0 c.in-Ok-Some.ensures.first c.in-Ok-Some.token c.in-Ok-Some.field-0-is in
    record {
      same_file = same_file c.args.file.now c.loop-token.tokens c.loop-token.invariant.same_file c.next_token.new.self c.in-Ok-Some.ensures.rest.0;
      so_far =
          onward
          (joined c.loop-token.invariant.so_far found c.is_repeat.result c.is_repeat.ensures (sym c.closes.ensures ∙ c.if-closes.false) c.if-not-is_repeat.true _ c.stamp.ensures)
          (moved c.args.file.now c.loop-token.tokens c.loop-token.invariant.same_file c.in-Ok-Some.field-0 c.in-Ok-Some.ensures.first c.in-Ok-Some.token c.in-Ok-Some.field-0-is c.next_token.new.self c.in-Ok-Some.ensures.rest.1);
    }

pub loop-token-smaller : goal.loop-token-smaller
loop-token-smaller c =
    let found = number c.args.file.now c.loop-token.tokens c.loop-token.invariant.same_file c.in-Ok-Some.field-0 c.in-Ok-Some.ensures.first c.in-Ok-Some.token c.in-Ok-Some.field-0-is in
    let next = moved c.args.file.now c.loop-token.tokens c.loop-token.invariant.same_file c.in-Ok-Some.field-0 c.in-Ok-Some.ensures.first c.in-Ok-Some.token c.in-Ok-Some.field-0-is c.next_token.new.self c.in-Ok-Some.ensures.rest.1 in
    omega (arith, later c.loop-token.invariant.so_far found, next)

pub loop-token-preserved : goal.loop-token-preserved
loop-token-preserved c =
    let found = number c.args.file.now c.loop-token.tokens c.loop-token.invariant.same_file c.in-Ok-Some.field-0 c.in-Ok-Some.ensures.first c.in-Ok-Some.token c.in-Ok-Some.field-0-is in
    record {
      same_file = same_file c.args.file.now c.loop-token.tokens c.loop-token.invariant.same_file c.next_token.new.self c.in-Ok-Some.ensures.rest.0;
      so_far =
          onward
          (dropped c.loop-token.invariant.so_far found c.is_repeat.result c.is_repeat.ensures c.if-not-is_repeat.false)
          (moved c.args.file.now c.loop-token.tokens c.loop-token.invariant.same_file c.in-Ok-Some.field-0 c.in-Ok-Some.ensures.first c.in-Ok-Some.token c.in-Ok-Some.field-0-is c.next_token.new.self c.in-Ok-Some.ensures.rest.1);
    }
