-- `text::bytes::put_bytes` meets its contract. The loop's invariant: so many bytes are put.
use Rattle.std.proofs.Common.{take}
use Rattle.writing.specs.Wrote.{Wrote}
use Rattle.text.proofs.bytes.put_bytes.Given as goal

abbrev pub invariant-loop-b : goal.invariant-loop-b
invariant-loop-b l = Wrote (take l.b-index l.bytes) l.initial.out l.from l.out l.at
