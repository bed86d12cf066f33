-- The lowest broken wish, as the code gives it: the definitions have a number, 0 where there is none.
use Rattle.std.specs.Prelude.{ℕ, zero, suc, Option, None, Some}
use Rattle.literal.specs.declared.Variable.{Variable}

abbrev pub lowest_of : ℕ → Option Variable
lowest_of zero = None
lowest_of (suc v) = Some (record { 0 = suc v })
