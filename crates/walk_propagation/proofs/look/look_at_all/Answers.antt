use Rattle.std.proofs.lemmas.Result.{err_from_is_err_and}
use Rattle.walk_propagation.specs.Loops.{passing_dead, passing_next}
use Rattle.walk_propagation.proofs.look.look_at_all.Goals as goal

pub returns-in_err-present : goal.returns-in_err-present
returns-in_err-present c =
    let p = err_from_is_err_and c.from_residual.result c.from_residual.ensures.1 in
    rw (p.1, p.2) (passing_dead c.loop-number.invariant c.loop-number-test.true c.in_err-present.ensures)

pub loop-number-preserved : goal.loop-number-preserved
loop-number-preserved c = passing_next c.loop-number.invariant c.loop-number-test.true c.in_ok-present.ensures
