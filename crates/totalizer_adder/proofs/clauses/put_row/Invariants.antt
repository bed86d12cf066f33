-- `totalizer_adder::clauses::put_row` meets its contract. The loop's invariant: the clauses of the lower j were written.
use Rattle.writing.specs.Wrote.{Wrote}
use Rattle.rule_list_soundness.specs.Flat.{flat}
use Rattle.totalizer.specs.Totalizer.{below}
use Rattle.totalizer_adder.specs.Adder.{pair}
use Rattle.totalizer_adder.proofs.clauses.put_row.Given as goal

abbrev pub invariant-loop-j : goal.invariant-loop-j
invariant-loop-j l = Wrote (flat (below l.j (pair l.g l.i))) l.initial.out l.from l.out l.at
