-- `cases::input` meets its contract. The law spares antt the list's elements, of which it would run out of space.
use Rattle.std.proofs.Common.{ℕ, sym}
use Rattle.std.proofs.lemmas.List.{length-replicate}
use Rattle.cases.proofs.input.Goals as goal

pub returns : goal.returns
returns c = sym (length-replicate {0} {A = ℕ} 1310720 0)
