-- `rule_file_writer::put::put_body` meets its contract. The loop's invariant: the elements from this one on are still to be put.
use Rattle.std.specs.Prelude.{drop}
use Rattle.writing.specs.Wrote.{Remaining}
use Rattle.rule_file.specs.Written.{body}
use Rattle.rule_file_writer.proofs.put.put_body.Given as goal

abbrev pub invariant-loop-x : goal.invariant-loop-x
invariant-loop-x l = Remaining (body l.rules) l.initial.out l.from (body (drop l.x-index l.rules)) l.out l.at
