-- `refusal_causes::entries::check_entries` meets its contract. The loop's invariant: the clauses passed have literals.
use mathlib.Core.Path.{◌≡◌}
use Prim.Native.Nat.{◌-◌}
use lib.ListN.{length, drop}
use borrow.Author.Rules.{rules}
use Rattle.formula.specs.Formula.{clauses}
use Rattle.refusal_causes.specs.Empty.{empty_clause}
use Rattle.refusal_causes.proofs.entries.check_entries.Given as goal

abbrev pub invariant-loop-from : goal.invariant-loop-from
invariant-loop-from l = empty_clause 0 (clauses l.rules) ≡ empty_clause l.from (clauses (drop l.from l.rules))

abbrev pub decreases-loop-from : goal.decreases-loop-from
decreases-loop-from l = length l.rules - l.from
