-- `totalizer_leaves::put_leaves` meets its contract. The loop's invariant: the leaves of the bytes before index i were written.
use Rattle.std.proofs.Common.{take}
use Rattle.writing.specs.Wrote.{Wrote}
use Rattle.totalizer.specs.Totalizer.{leaves}
use Rattle.totalizer_leaves.proofs.put_leaves.Given as goal

abbrev pub invariant-loop-i : goal.invariant-loop-i
invariant-loop-i l = Wrote (leaves (take l.i l.row)) l.initial.out 0 l.out l.at
