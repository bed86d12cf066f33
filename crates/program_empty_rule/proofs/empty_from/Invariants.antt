-- `program_empty_rule::empty_from` meets its contract. The loop's invariant: the place sought is the one sought from here on.
use Rattle.std.specs.Prelude.{◌≡◌, false, ◌-◌, length}
use Rattle.program_empty_rule.specs.Laws.{empty_from}
use Rattle.program_empty_rule.proofs.empty_from.Given as goal

abbrev pub invariant-loop-malformed : goal.invariant-loop-malformed
invariant-loop-malformed l = record {
  same_file : l.tokens.file.now ≡ l.file;
  so_far : empty_from false l.file l.from ≡ empty_from l.filled l.file l.tokens.at;
}

abbrev pub decreases-loop-malformed : goal.decreases-loop-malformed
decreases-loop-malformed l = length l.file - l.tokens.at
