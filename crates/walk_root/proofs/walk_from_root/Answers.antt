-- `walk_root::walk_from_root` meets its contract: the root is settled, and then tried.
use Rattle.std.proofs.Common.{length}
use Rattle.formula.specs.Formula.{clauses}
use Rattle.search_state.specs.RootLaws.{root_quiet}
use Rattle.walk_root.specs.Root.{quiet_covers, walk_settled}
use Rattle.walk_root.proofs.walk_from_root.Goals as goal

pub attempt-requires-clause-covers : goal.attempt-requires-clause-covers
attempt-requires-clause-covers c =
    let told = c.in-Ok.ensures in
    quiet_covers (clauses c.args.rules.now) told.2.searching (root_quiet (length c.args.a.now) c.args.rules.now c.requires.1.sound c.args.row.now c.args.d told)

pub returns-clause-root : goal.returns-clause-root
returns-clause-root c =
    walk_settled (length c.args.a.now) c.args.rules.now c.requires.1.sound c.args.row.now c.args.d c.in-Ok.ensures _ _ _ _ c.attempt.new.a c.attempt.result c.attempt.ensures.tried
