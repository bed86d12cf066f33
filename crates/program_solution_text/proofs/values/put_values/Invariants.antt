-- `program_solution_text::values::put_values` meets its contract. The loop's invariant: the values from index i on are still to be put.
use Rattle.std.proofs.Common.{drop}
use Rattle.writing.specs.Wrote.{Remaining}
use Rattle.program_solution_text.specs.Lines.{values}
use Rattle.program_solution_text.proofs.values.put_values.Given as goal

abbrev pub invariant-loop-i : goal.invariant-loop-i
invariant-loop-i l = Remaining (values 0 l.choice) l.initial.out l.from (values l.i (drop l.i l.choice)) l.out l.at
