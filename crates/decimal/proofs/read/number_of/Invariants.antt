-- `decimal::read::number_of` meets its contract. The loop's invariant: the bytes are a number exactly where the rest may follow the value so far.
use Rattle.std.proofs.Common.{◌≡◌, ◌<◌, drop}
use Rattle.decimal.specs.Decimal.{number}
use Rattle.decimal.specs.Laws.{number_after}
use Rattle.decimal.proofs.read.number_of.Given as goal

abbrev pub invariant-loop-b : goal.invariant-loop-b
invariant-loop-b l = (number l.fn.word ≡ number_after l.value (drop l.b-index l.others)) × (l.value < 100000)
