use Rattle.std.proofs.Common.{rules}
use Rattle.writing.specs.Wrote.{wrote_next}
use Rattle.text.proofs.bytes.put_bytes.Goals as goal

pub loop-b-preserved : goal.loop-b-preserved
loop-b-preserved c = wrote_next c.args.bytes.now c.loop-b.b-index 0 (search rules) c.loop-b.invariant c.put_byte-at.ensures
