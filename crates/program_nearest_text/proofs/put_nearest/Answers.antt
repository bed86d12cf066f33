-- `program_nearest_text::put_nearest` meets its contract: nearest is refused, finds a choice, or none.
use Rattle.std.proofs.Common.{◌≤◌, ℕ, List, length, take, Some, arith, replicate}
use Rattle.std.proofs.lemmas.List.{length-replicate}
use Rattle.program_report.specs.Laws.{renamed}
use Rattle.program_solution_text.specs.Lines.{solution}
use Rattle.program_nearest_text.specs.Answers.{nearest-given}
use Rattle.program_nearest_text.specs.Printed.{nearest_text}
use Rattle.program_nearest_text.proofs.put_nearest.Goals as goal

-- the choice that is lent to nearest
blank : List ℕ
blank = replicate 256 0

room : 256 ≤ length blank
unfolding blank
room = omega (arith, length-replicate {A = ℕ} 256 0)

pub returns-in-Ok-Some : goal.returns-in-Ok-Some
unfolding blank
returns-in-Ok-Some c =
    let a = c.args in
    let broken = c.in-Ok-Some.broken in
    let said = rw c.in-Ok-Some.field-0-is at c.in-Ok-Some.ensures.reply in
    let given = nearest-given a.n a.rules.now a.row.now blank room broken c.search.new.choice said c.in-Ok-Some.ensures.output in
    let lines = solution (Some broken) (take a.n c.search.new.choice) in
    let put = renamed lines (nearest_text a.n a.rules.now a.row.now) c.put_found.result a.out.now c.put_found.new.out given.lines c.put_found.ensures.0 c.put_found.ensures.1 in
    record { length = put.0; output = put.1; bound = c.put_found.ensures.2 }
