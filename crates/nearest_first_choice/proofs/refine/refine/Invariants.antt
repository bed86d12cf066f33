-- `nearest_first_choice::refine::refine` meets its contract: before each turn the first i variables are as the first model has them.
use Rattle.std.proofs.Common.{length}
use Rattle.search_state.specs.Ready.{Ready}
use Rattle.nearest_first_choice.specs.Fixing.{Fixing}
use Rattle.nearest_first_choice.proofs.refine.refine.Given as goal

abbrev pub invariant-loop-i : goal.invariant-loop-i
invariant-loop-i l =
    record {
      fixing : Fixing l.rules l.row l.d l.i l.tally l.a l.trail l.choice;
      ready : Ready l.rules l.arrangement l.witnesses (length l.a) (length l.weights);
    }
