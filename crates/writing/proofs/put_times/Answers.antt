use Rattle.writing.specs.Wrote.{wrote_copy}
use Rattle.writing.proofs.put_times.Goals as goal

pub loop-preserved : goal.loop-preserved
loop-preserved g c = wrote_copy c.loop.counter c.loop.invariant c.put-at.ensures
