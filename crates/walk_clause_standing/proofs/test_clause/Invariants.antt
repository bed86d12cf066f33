-- `walk_clause_standing::test_clause` meets its contract. The loop's invariant: whatever test of numbers the code's test decides, none of the literals read passes it.
use Rattle.std.specs.Prelude.{Bool, ℤ}
use Rattle.walk_clause_standing.specs.Clause.{Decides, Passing}
use Rattle.walk_clause_standing.proofs.test_clause.Given as goal

abbrev pub invariant-loop-i : goal.invariant-loop-i
invariant-loop-i g l = (p : ℤ → Bool) → Decides (goal.F-post g l.test) p → Passing p l.rules l.from l.i
