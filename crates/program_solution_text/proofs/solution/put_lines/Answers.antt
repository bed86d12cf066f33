-- `program_solution_text::solution::put_lines` meets its contract: five texts, one after the other.
use Rattle.writing.specs.Wrote.{wrote_more}
use Rattle.program_solution_text.proofs.solution.put_lines.Goals as goal

pub returns : goal.returns
returns c =
    wrote_more c.put_bytes-count.ensures
    (wrote_more c.put_number-answer.ensures
    (wrote_more c.put_bytes-first.ensures (wrote_more c.put_values-end.ensures c.put_bytes.ensures)))
