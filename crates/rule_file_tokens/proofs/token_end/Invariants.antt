-- `rule_file_tokens::token_end` meets its contract. The loop's invariant: from here to the token's end is as far as from the start.
use Rattle.std.specs.Prelude.{◌≡◌, ◌+◌, length, drop}
use Rattle.rule_file.specs.Tokens.{leading, in_token}
use Rattle.rule_file_tokens.proofs.token_end.Given as goal

abbrev pub invariant-loop-i : goal.invariant-loop-i
invariant-loop-i l = l.from + length (leading in_token (drop l.from l.file)) ≡ l.i + length (leading in_token (drop l.i l.file))
