-- `rule_file_token_check::check_tokens` meets its contract: each turn is one of the laws of `Checking`.
use Rattle.std.specs.Prelude.{◌≡◌, ◌-◌, length}
use Rattle.rule_file_token_check.proofs.Checking.{Checking}
use Rattle.rule_file_token_check.proofs.check_tokens.Given as goal

abbrev pub invariant-loop-token : goal.invariant-loop-token
invariant-loop-token l = record {
  same_file : l.tokens.file.now ≡ l.file;
  so_far : Checking l.n l.count l.file l.from l.stamps l.clauses l.literals l.is_open l.tokens.at;
}

abbrev pub decreases-loop-token : goal.decreases-loop-token
decreases-loop-token l =
    length l.file - l.tokens.at
