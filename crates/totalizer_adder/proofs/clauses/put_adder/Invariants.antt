-- `totalizer_adder::clauses::put_adder` meets its contract. The loop's invariant: the clauses of the lower i were written.
use Rattle.writing.specs.Wrote.{Wrote}
use Rattle.rule_list_soundness.specs.Flat.{flat}
use Rattle.totalizer.specs.Totalizer.{below}
use Rattle.totalizer_adder.specs.Adder.{row}
use Rattle.totalizer_adder.proofs.clauses.put_adder.Given as goal

abbrev pub invariant-loop-i : goal.invariant-loop-i
invariant-loop-i l = Wrote (flat (below l.i (row l.g))) l.initial.out l.from l.out l.at
