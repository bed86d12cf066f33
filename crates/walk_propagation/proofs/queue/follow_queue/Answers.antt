use Rattle.std.proofs.Common.{arith}
use Rattle.std.proofs.lemmas.Result.{err_from_is_err_and}
use Rattle.walk_propagation.specs.Loops.{draining_end, head_part, head_numbers, head_dead, head_next}
use Rattle.walk_propagation.proofs.queue.follow_queue.Goals as goal

pub false_part-part-requires-clause-a_len_bound : goal.false_part-part-requires-clause-a_len_bound
false_part-part-requires-clause-a_len_bound c = (
  omega (arith, c.loop-head.invariant.moved.searching.state.size, c.requires.0.looking.few),
  head_part c.requires.0.beside c.loop-head.invariant c.loop-head-test.true,
)

pub look_at_all-requires-clause-numbers : goal.look_at_all-requires-clause-numbers
look_at_all-requires-clause-numbers c =
    rw c.false_part-part.ensures (head_numbers c.requires.0.beside c.loop-head.invariant c.loop-head-test.true)

pub returns-in_err-present : goal.returns-in_err-present
returns-in_err-present c =
    let p = err_from_is_err_and c.from_residual.result c.from_residual.ensures.1 in
    rw (p.1, p.2) (head_dead c.requires.0.beside c.loop-head.invariant c.loop-head-test.true c.false_part-part.ensures c.in_err-present.ensures)

pub loop-head-preserved : goal.loop-head-preserved
loop-head-preserved c =
    head_next c.requires.0.beside c.loop-head.invariant c.loop-head-test.true c.false_part-part.ensures c.in_ok-present.ensures

pub returns : goal.returns
returns c = draining_end c.loop-head.invariant c.loop-head-test.false
