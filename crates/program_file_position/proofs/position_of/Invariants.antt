-- `program_file_position::position_of` meets its contract. The loop's invariant: the position sought is the one that the bytes left lead to, and the line and the column count no more than the bytes gone by.
use Rattle.std.proofs.Common.{◌≡◌, ◌+◌, ◌≤◌, length}
use Rattle.program_file_position.specs.Position.{position_from, position_at}
use Rattle.program_file_position.proofs.position_of.Given as goal

abbrev pub invariant-loop-b : goal.invariant-loop-b
invariant-loop-b l =
    let left = l.b-iterator.iter.rest.now in
    record {
      line_few : l.line + length left ≤ length l.file + 1;
      column_few : l.column + length left ≤ length l.file + 1;
      same : position_at l.file l.place ≡ position_from l.line l.column l.b-iterator.n left;
    }
