-- `rule_file_line_scan::find_byte` meets its contract. The loop's invariant: from here to the byte sought is as far as from the start.
use Rattle.std.specs.Prelude.{◌≡◌, ◌+◌, length, drop}
use Rattle.rule_file.specs.Format.{before}
use Rattle.rule_file_line_scan.proofs.find_byte.Given as goal

abbrev pub invariant-loop-i : goal.invariant-loop-i
invariant-loop-i l = l.from + length (before l.stop (drop l.from l.file)) ≡ l.i + length (before l.stop (drop l.i l.file))
