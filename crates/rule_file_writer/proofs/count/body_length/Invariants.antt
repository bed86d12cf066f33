-- `rule_file_writer::count::body_length` meets its contract. The loop's invariant: what was counted, and what is left to count.
use Rattle.std.specs.Prelude.{◌≡◌, ◌+◌, ◌*◌, ◌≤◌, length, drop}
use Rattle.rule_file.specs.Written.{body}
use Rattle.rule_file_writer.proofs.count.body_length.Given as goal

abbrev pub invariant-loop-x : goal.invariant-loop-x
invariant-loop-x l = (l.total ≤ 12 * l.x-index) × (length (body l.rules) ≡ l.total + length (body (drop l.x-index l.rules)))
