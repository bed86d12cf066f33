-- `nearest_root::root::search_from_root` meets its contract: the root is settled, and then the search goes on from there.
use Rattle.std.proofs.Common.{refl, arith}
use Rattle.formula.specs.Formula.{clauses}
use Rattle.search_state.specs.ReadyLaws.{ready_still, long_searching}
use Rattle.search_state.specs.RootLaws.{root_quiet}
use Rattle.nearest_root.specs.Start.{quiet_covers, root_dead, root_tried}
use Rattle.nearest_root.proofs.root.search_from_root.Goals as goal

pub attempt-requires : goal.attempt-requires
attempt-requires c =
    let ready = c.requires.trail_len.1 in
    let told = c.in-Ok.ensures in
    let s = told.2.searching in
    record {
      searching = long_searching s;
      ready = ready_still s.state.size ready.witnessed refl ready;
      from_le_settled = (
        omega arith,
        quiet_covers (clauses c.args.rules.now) c.settle_root.new.a c.settle_root.new.trail c.in-Ok.t (root_quiet _ c.args.rules.now ready.sound c.args.row.now c.args.d told),
      );
    }

pub returns-in_default-clause-root : goal.returns-in_default-clause-root
returns-in_default-clause-root c = root_dead _ c.args.rules.now c.requires.trail_len.1.sound c.args.row.now c.args.d {e = c.in_default.field-0} c.in_default.ensures

pub returns-clause-root : goal.returns-clause-root
returns-clause-root c =
    root_tried _ c.args.rules.now c.requires.trail_len.1.sound c.args.row.now c.args.d c.in-Ok.ensures c.requires.guides _ _ _ _ c.attempt.new.a c.attempt.result c.attempt.ensures.tried
