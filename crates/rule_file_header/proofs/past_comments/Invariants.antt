-- `rule_file_header::past_comments` meets its contract. The loop's invariant: the place sought is the one sought from here on.
use Rattle.std.specs.Prelude.{◌≡◌, false, drop}
use Rattle.rule_file.specs.Format.{past_comments}
use Rattle.rule_file_header.proofs.past_comments.Given as goal

abbrev pub invariant-loop-i : goal.invariant-loop-i
invariant-loop-i l = past_comments false 0 l.file ≡ past_comments l.inside l.i (drop l.i l.file)
