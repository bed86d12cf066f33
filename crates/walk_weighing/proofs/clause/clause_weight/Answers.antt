-- `walk_weighing::clause_weight` meets its contract: a shift gives the power below ten literals, and it is 1 from ten on.
use Rattle.walk_weighing.specs.ClauseLaws.{power_shifted}
use Rattle.walk_weighing.proofs.clause.clause_weight.Goals as goal

pub returns-then-count-lt10 : goal.returns-then-count-lt10
returns-then-count-lt10 c = power_shifted c.args.count c.if-count-lt10.true
