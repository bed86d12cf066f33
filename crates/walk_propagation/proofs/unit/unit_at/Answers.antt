use mathlib.Core.Path.{sym}
use Rattle.walk_clause_standing.specs.Clause.{clause_at}
use Rattle.walk_propagation.specs.Unit.{asks_all}
use Rattle.walk_propagation.proofs.unit.unit_at.Goals as goal

pub loop-i-init : goal.loop-i-init
loop-i-init c =
    sym (asks_all c.args.a.now (clause_at c.args.from c.args.rules.now))
