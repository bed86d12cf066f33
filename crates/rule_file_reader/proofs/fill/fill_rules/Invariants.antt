-- `rule_file_reader::fill::fill_rules` meets its contract: each turn is one of the laws of `Filling`.
use Rattle.std.specs.Prelude.{◌≡◌, ◌-◌, length}
use Rattle.rule_file_reader.proofs.Filling.{Filling}
use Rattle.rule_file_reader.proofs.fill.fill_rules.Given as goal

abbrev pub invariant-loop-token : goal.invariant-loop-token
invariant-loop-token l = record {
  same_file : l.tokens.file.now ≡ l.file;
  so_far : Filling l.file l.from l.initial.rules l.stamps l.clauses l.rules l.tokens.at l.i;
}

abbrev pub decreases-loop-token : goal.decreases-loop-token
decreases-loop-token l = length l.file - l.tokens.at
