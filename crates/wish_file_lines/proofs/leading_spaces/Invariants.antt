-- `wish_file_lines::leading_spaces` meets its contract. The loop's invariant: all bytes passed are spaces.
use Rattle.std.specs.Prelude.{◌≡◌, drop}
use Rattle.wish_file.specs.Layout.{past_spaces}
use Rattle.wish_file_lines.proofs.leading_spaces.Given as goal

abbrev pub invariant-loop-i : goal.invariant-loop-i
invariant-loop-i l = past_spaces l.bytes ≡ past_spaces (drop l.i l.bytes)
