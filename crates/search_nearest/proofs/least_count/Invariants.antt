-- `search_nearest::least_count` meets its contract: at the limit d every model breaks at least d.
use Rattle.std.proofs.Common.{◌≡◌, length}
use Rattle.formula.specs.Formula.{clauses}
use Rattle.walk_witnesses.specs.Witnesses.{Witnesses}
use Rattle.search_nearest.specs.Least.{AtLeast}
use Rattle.search_nearest.proofs.least_count.Given as goal

-- the choice is as it was
abbrev pub invariant-loop-d : goal.invariant-loop-d
invariant-loop-d l =
    record {
      same : l.choice ≡ l.initial.choice;
      bound : AtLeast (length l.initial.a) (clauses l.rules) l.row l.d;
      witnesses : Witnesses l.rules l.witnesses;
    }
