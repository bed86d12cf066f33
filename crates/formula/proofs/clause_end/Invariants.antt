-- `formula::clause_end` meets its contract. The loop's invariant: from here to the clause's end is as far as from the start.
use Rattle.std.proofs.Common.{◌≡◌, ◌+◌, ◌≤◌, drop}
use Rattle.formula.specs.Formula.{clause_length}
use Rattle.formula.proofs.clause_end.Given as goal

abbrev pub invariant-loop-i : goal.invariant-loop-i
invariant-loop-i l = (l.from ≤ l.i) × (l.from + clause_length (drop l.from l.rules) ≡ l.i + clause_length (drop l.i l.rules))
