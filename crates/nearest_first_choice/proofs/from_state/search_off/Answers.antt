-- `nearest_first_choice::from_state::search_off` meets its contract: what the search from the state with the variable off comes to.
use Rattle.std.proofs.Common.{◌≡◌, refl, subst, arith, lit<, ℕ, length}
use Rattle.formula.specs.Formula.{clauses}
use Rattle.walk_propagation.specs.Looked.{pending}
use Rattle.walk_unit_queue.specs.Theorems.{Covers}
use Rattle.search_state.specs.ForkLaws.{Forks, branch_room, branch_searching, branch_covers}
use Rattle.search_state.specs.Newest.{newest}
use Rattle.search_state.specs.ReadyLaws.{ready_still, long_searching}
use Rattle.nearest_first_choice.proofs.from_state.search_off.Goals as goal
use Rattle.nearest_first_choice.proofs.from_state.search_off.Goals.{Start}

-- the call: a state with a variable to assign
forks : (c : Start) → Forks (length c.args.a.now) (clauses c.args.rules.now) c.args.row.now c.args.a.now c.args.trail.now c.args.tally c.args.v.0 0
forks c = let s = c.requires.searching in record { state = s.0; branch = s.1; bit = lit< tt; quiet = s.2 }

pub assign_to-off-requires : goal.assign_to-off-requires
assign_to-off-requires c =
    let p = forks (goal.at.assign_to-off-requires c).Start in
    let room = branch_room p in
    let few = c.requires.ready.few in
    record {
      v_nonzero = (p.branch.above, p.branch.up_to, omega (arith, p.branch.up_to, few));
      settled_in_bounds = (omega (arith, room, p.state.long), omega (arith, room, few), omega (arith, p.state.few, room, few));
    }

-- with the variable off
pub attempt-requires : goal.attempt-requires
attempt-requires c =
    let p = forks (goal.at.attempt-requires c).Start in
    let off = c.assign_to-off.ensures in
    let s = branch_searching p p.bit off in
    let here : newest c.assign_to-off.result ≡ c.args.tally.settled = omega (arith, off.settled) in
    record {
      searching = long_searching s;
      ready = ready_still s.state.size c.requires.ready.witnessed refl c.requires.ready;
      from_le_settled = (
        omega (arith, off.settled),
        subst (λ (k : ℕ). Covers (clauses c.args.rules.now) (pending k c.assign_to-off.result c.assign_to-off.new.a c.assign_to-off.new.trail)) here (branch_covers p p.bit off),
      );
    }
