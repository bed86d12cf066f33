-- `walk_pick::best_variable` meets its contract. The loop's invariant: the leader is the best of the variables passed.
use Rattle.std.specs.Prelude.{option_map}
use lib.ListN.{length}
use Rattle.literal.specs.declared.Variable.{Variable}
use Rattle.walk_pick.specs.Branch.{score_by, candidate_by}
use Rattle.walk_pick.specs.BranchLaws.{Leads}
use Rattle.walk_pick.proofs.best.best_variable.Given as goal

abbrev pub invariant-loop-i : goal.invariant-loop-i
invariant-loop-i l = Leads (candidate_by l.assignment l.marks) (score_by l.weights) (length l.assignment) l.i (option_map (λ (u : Variable). u.0) l.leader)
