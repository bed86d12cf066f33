-- `walk_propagation::look::look_at_all` meets its contract: each turn is one of the laws of `Passing`.
use lib.ListN.{length}
use Rattle.formula.specs.Formula.{clauses}
use Rattle.walk_propagation.specs.Loops.{Passing}
use Rattle.walk_propagation.proofs.look.look_at_all.Given as goal

abbrev pub invariant-loop-number : goal.invariant-loop-number
invariant-loop-number l = Passing (length l.initial.a) (clauses l.rules) l.row l.d l.numbers l.initial.present l.initial.a l.initial.trail l.number-index l.present l.a l.trail
