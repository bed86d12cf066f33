-- `rule_file_tokens::token_start` meets its contract. The loop's invariant: the tokens from here on are those from the start on.
use mathlib.Core.Path.{◌≡◌}
use Prim.Native.Nat.{◌-◌}
use lib.ListN.{length}
use Rattle.rule_file.specs.Tokens.{tokens_from}
use Rattle.rule_file_tokens.proofs.token_start.Given as goal

abbrev pub invariant-loop-i : goal.invariant-loop-i
invariant-loop-i l = tokens_from l.file l.from ≡ tokens_from l.file l.i

abbrev pub decreases-loop-i : goal.decreases-loop-i
decreases-loop-i l = length l.file - l.i
