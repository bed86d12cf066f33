-- `wish_file_scan::scan_lines` meets its contract. The loop's invariant: the first cause is the first from here on, after the last variable read.
use Rattle.std.specs.Prelude.{◌≡◌, ◌+◌, ◌-◌, ◌*◌, ◌≤◌, length, drop}
use Rattle.wish_file.specs.Format.{bad_lines}
use Rattle.wish_file_scan.proofs.scan_lines.Given as goal

abbrev pub invariant-loop-i : goal.invariant-loop-i
invariant-loop-i l = (16 + 11 * l.i ≤ length l.file) × (bad_lines l.n l.wishes 0 16 (drop 16 l.file) ≡ bad_lines l.n (l.wishes - l.i) l.last (16 + 11 * l.i) (drop (16 + 11 * l.i) l.file))
