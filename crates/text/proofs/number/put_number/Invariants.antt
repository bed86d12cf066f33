-- `text::number::put_number` meets its contract. The loop's invariant: with the digits of what is left before it, the buffer is what it is to be.
use Rattle.std.proofs.Common.{◌≡◌, ◌++◌, ◌+◌, length, take, drop}
use Rattle.std.proofs.lemmas.List.Edits.{sets}
use Rattle.decimal.specs.Decimal.{decimal}
use Rattle.text.proofs.number.put_number.Given as goal

abbrev pub invariant-loop-i : goal.invariant-loop-i
invariant-loop-i l = (l.i ≡ l.at + length (decimal l.rest)) × (take l.at l.out ++ (decimal l.rest ++ drop l.i l.out) ≡ sets l.initial.out l.at (decimal l.v))
