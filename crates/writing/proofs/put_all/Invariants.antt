-- `writing::put_all` meets its contract. The loop's invariant: so many elements were written.
use Rattle.std.proofs.Common.{◌+◌, take}
use Rattle.writing.specs.Wrote.{Wrote}
use Rattle.writing.proofs.put_all.Given as goal

abbrev pub invariant-loop-i : goal.invariant-loop-i
invariant-loop-i g l = Wrote (take l.i l.list) l.initial.out l.at l.out (l.at + l.i)
