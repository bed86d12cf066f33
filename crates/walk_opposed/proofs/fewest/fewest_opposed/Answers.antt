-- `walk_opposed::fewest_opposed` meets its contract, by what the search for the shortest opposed clause ensures.
use Rattle.std.specs.Prelude.{Some}
use mathlib.Core.Path.{subst}
use lib.ListN.{drop}
use Rattle.formula.specs.Formula.{clauses}
use Rattle.walk_opposed.specs.Laws.{none_short_same}
use Rattle.walk_opposed.specs.Opposed.{KeepsShortest}
use Rattle.walk_opposed.proofs.fewest.fewest_opposed.Goals as goal

-- where an opposed clause was found to begin
first : (c : goal.In_ok-from)
    → KeepsShortest c.args.row.now c.args.assignment.now c.args.rules.now (Some c.in_ok-from.from)
first c =
    subst (KeepsShortest c.args.row.now c.args.assignment.now c.args.rules.now) c.in_ok-from.was c.find_opposed.ensures

pub shortest_opposed-shortest-requires : goal.shortest_opposed-shortest-requires
shortest_opposed-shortest-requires c = record { first_in_bounds = ((first c).0, (first c).1); none_short = none_short_same c.args.row.now c.args.assignment.now (clauses c.args.rules.now) (clauses (drop c.in_ok-from.from c.args.rules.now)) (first c).2 c.requires }
