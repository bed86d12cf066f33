-- `program_solution_text::solution::put_found` meets its contract: the lines are written apart, and then put where they fit.
use Rattle.std.proofs.Common.{take, length-take, Some, arith}
use Rattle.writing.specs.Wrote.{wrote_front, wrote_length}
use Rattle.program_report.specs.Laws.{renamed}
use Rattle.program_solution_text.specs.Laws.{solution-most}
use Rattle.program_solution_text.specs.Lines.{solution}
use Rattle.program_solution_text.proofs.solution.put_found.Goals as goal

pub put_lines-n-requires : goal.put_lines-n-requires
put_lines-n-requires c = (c.requires, solution-most c.args.broken c.args.choice.now c.ranges.broken.fits c.requires)

pub slice_bounds-lines-end : goal.slice_bounds-lines-end
slice_bounds-lines-end c =
    let few = solution-most c.args.broken c.args.choice.now c.ranges.broken.fits c.requires in
    omega (arith, few, c.put_lines-n.ensures.place, wrote_length c.put_lines-n.ensures)

pub slice_bounds-put_text-end : goal.slice_bounds-put_text-end
slice_bounds-put_text-end c =
    let few = solution-most c.args.broken c.args.choice.now c.ranges.broken.fits c.requires in
    omega (arith, few, c.put_lines-n.ensures.place, wrote_length c.put_lines-n.ensures, length-take c.put_lines-n.result c.put_lines-n.new.out)

pub returns : goal.returns
returns c =
    let put = c.put_text in
    let wrote = c.put_lines-n in
    let few = solution-most c.args.broken c.args.choice.now c.ranges.broken.fits c.requires in
    let lines = solution (Some c.args.broken) c.args.choice.now in
    let front = wrote_front wrote.ensures few in
    let said = renamed (take wrote.result wrote.new.out) lines put.result c.args.out.now put.new.out front put.ensures.0 put.ensures.1 in
    (said.0, said.1, omega (arith, said.0, few))
