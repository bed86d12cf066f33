use Rattle.std.proofs.Common.{◌+◌, drop}
use Rattle.writing.specs.Wrote.{remaining_next}
use Rattle.program_solution_text.specs.Laws.{values_split}
use Rattle.program_solution_text.specs.Lines.{values}
use Rattle.program_solution_text.proofs.values.put_values.Goals as goal

pub loop-i-preserved : goal.loop-i-preserved
loop-i-preserved c =
    let at = c.loop-i in
    let choice = c.args.choice.now in
    remaining_next (values (at.i + 1) (drop (at.i + 1) choice)) at.invariant (values_split choice at.i c.loop-i-test.true) c.put_value-at.ensures
