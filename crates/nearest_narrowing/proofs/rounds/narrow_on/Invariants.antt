-- `nearest_narrowing::rounds::narrow_on` meets its contract: each turn is one of the laws of `Narrowing`.
use Prim.Native.Nat.{◌-◌}
use lib.ListN.{length}
use Rattle.formula.specs.Formula.{clauses}
use Rattle.nearest_narrowing.specs.Rounds.{Narrowing}
use Rattle.nearest_narrowing.proofs.rounds.narrow_on.Given as goal

abbrev pub invariant-loop-t : goal.invariant-loop-t
invariant-loop-t l = Narrowing (length l.initial.a) (clauses l.rules) l.row l.d l.initial.present l.initial.a l.initial.trail l.head l.present l.a l.trail

-- what is unassigned
abbrev pub decreases-loop-t : goal.decreases-loop-t
decreases-loop-t l = length l.initial.a - l.present.settled
