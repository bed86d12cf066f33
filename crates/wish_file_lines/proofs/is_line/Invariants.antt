-- `wish_file_lines::is_line` meets its contract. The loop's invariant: there is a line exactly where the columns to come and a line feed stand.
use Rattle.std.specs.Prelude.{◌≡◌, ◌+◌, ◌-◌, ◌*◌, ◌≤◌, length, drop}
use Rattle.wish_file_lines.specs.Lines.{is_line}
use Rattle.wish_file_lines.proofs.is_line.Given as goal

abbrev pub invariant-loop-i : goal.invariant-loop-i
invariant-loop-i l = (l.from + 5 * l.i ≤ length l.file) × (is_line l.columns (drop l.from l.file) ≡ is_line (l.columns - l.i) (drop (l.from + 5 * l.i) l.file))
