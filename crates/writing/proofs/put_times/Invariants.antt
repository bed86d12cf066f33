-- `writing::put_times` meets its contract. The loop's invariant: so many copies were written.
use Rattle.std.proofs.Common.{replicate}
use Rattle.writing.specs.Wrote.{Wrote}
use Rattle.writing.proofs.put_times.Given as goal

abbrev pub invariant-loop : goal.invariant-loop
invariant-loop g l = Wrote (replicate l.counter l.x) l.initial.out l.from l.out l.at
