-- `walk_propagation::propagate::propagate_all` meets its contract: all clauses are looked at, and then the queue is followed.
use Rattle.std.proofs.Common.{arith}
use Rattle.std.proofs.lemmas.Result.{err_from_is_err_and}
use Rattle.walk_occurrences.proofs.Reading.{has_part}
use Rattle.walk_propagation.specs.Loops.{every_numbers}
use Rattle.walk_propagation.specs.Propagated.{whole_dead, whole_looked}
use Rattle.walk_propagation.proofs.propagate.propagate_all.Goals as goal

pub every_clause-numbers-requires : goal.every_clause-numbers-requires
every_clause-numbers-requires c = has_part c.requires.beside 1 (omega arith) (omega arith)

pub look_at_all-requires-clause-numbers : goal.look_at_all-requires-clause-numbers
look_at_all-requires-clause-numbers c = rw c.every_clause-numbers.ensures (every_numbers c.requires.beside)

pub returns-in_err-looked : goal.returns-in_err-looked
returns-in_err-looked c =
    let p = err_from_is_err_and c.from_residual.result c.from_residual.ensures.1 in
    rw (p.1, p.2) (whole_dead c.requires c.if-d-tally.false c.every_clause-numbers.ensures c.in_err-looked.ensures)

pub returns : goal.returns
returns c =
    whole_looked c.requires c.if-d-tally.false c.every_clause-numbers.ensures c.in_ok-looked.ensures c.follow_queue.result _ _ c.follow_queue.ensures
