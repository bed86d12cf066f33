-- `wish_file_reader::fill::mark_row` meets its contract. The loop's invariant: with the wishes of the lines to come, the row is what it is to be, and their wishes rise.
use Rattle.std.specs.Prelude.{◌≡◌, ◌+◌, ◌-◌, ◌*◌, ◌≤◌, length, drop}
use Rattle.wish_file.specs.Format.{wishes_in}
use Rattle.wish_file.specs.Wishes.{marked, Rising}
use Rattle.wish_file_reader.proofs.fill.mark_row.Given as goal

abbrev pub invariant-loop-i : goal.invariant-loop-i
invariant-loop-i l = record {
  long : length l.row ≡ length l.initial.row;
  inside : 11 * l.i ≤ length l.file;
  rising : Rising (length l.initial.row) 0 (wishes_in (l.wishes - l.i) (drop (16 + 11 * l.i) l.file));
  to_come : marked l.initial.row (wishes_in l.wishes (drop 16 l.file)) ≡ marked l.row (wishes_in (l.wishes - l.i) (drop (16 + 11 * l.i) l.file));
}
