-- `nearest_first_choice::settle::settle` meets its contract: propagation that comes to no dead end.
use Rattle.std.specs.Prelude.{Ok, Err}
use Rattle.nearest_core_scan.specs.Followed.{followed}
use Rattle.search_state.specs.Newest.{newest}
use Rattle.nearest_first_choice.proofs.settle.settle.Goals as goal

-- a dead end cannot be
pub returns-in-Err : goal.returns-in-Err
returns-in-Err c =
    let h = c.requires.following in
    let w = followed h.0 c.args.d (newest c.args.tally) h.1 c.propagate_units.new.a c.propagate_units.new.trail (Err c.in-Err.dead) (rw c.newest_of-from.ensures at c.in-Err.ensures) in
    absurd (cc (w.0, c.requires.a_value))

pub returns-in-Ok : goal.returns-in-Ok
returns-in-Ok c =
    let h = c.requires.following in
    let w = followed h.0 c.args.d (newest c.args.tally) h.1 c.propagate_units.new.a c.propagate_units.new.trail (Ok c.in-Ok.t) (rw c.newest_of-from.ensures at c.in-Ok.ensures) in
    (w.0, w.2.searching)
