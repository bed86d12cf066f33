-- `nearest_first_choice::fix::fix` meets its contract: propagation has fixed the variable, or it takes its value and propagation follows.
use Rattle.std.proofs.Common.{sym, subst, ◌∙◌, arith, ℕ, List, ◌+◌, length}
use Rattle.formula.specs.Formula.{clauses}
use Rattle.walk_propagation.specs.Searching.{Searching}
use Rattle.search_state.specs.ForkLaws.{Forks, branch_room, branch_searching, branch_covers}
use Rattle.search_state.specs.ReadyLaws.{ready_following}
use Rattle.nearest_first_choice.specs.Fixing.{settled}
use Rattle.nearest_first_choice.specs.Refining.{Refining, refining_alive}
use Rattle.nearest_first_choice.proofs.fix.fix.Goals as goal
use Rattle.nearest_first_choice.proofs.fix.fix.Goals.{After-first_value-bit, After-assign_to-with}

-- with the value that the variable takes, which had none
forks : (c : After-first_value-bit) → Forks (length c.args.a.now) (clauses c.args.rules.now) c.args.row.now c.args.a.now c.args.trail.now c.args.tally (c.args.i + 1) c.first_value-bit.result
forks c =
    record {
      state = c.requires.fixing.0.fixed.searching;
      branch = record { unset = sym c.value_of.ensures ∙ c.if-value_of-ne2.false; above = omega arith; up_to = omega (arith, c.requires.fixing.1) };
      bit = c.first_value-bit.ensures.refined.0;
      quiet = c.requires.fixing.0.quiet;
    }

pub assign_to-with-requires : goal.assign_to-with-requires
assign_to-with-requires c =
    let p = forks (goal.at.assign_to-with-requires c).After-first_value-bit in
    let room = branch_room p in
    let few = c.requires.ready.few in
    record {
      v_nonzero = (p.branch.above, p.branch.up_to, omega (arith, p.branch.up_to, few));
      settled_in_bounds = (omega (arith, room, p.state.long), omega (arith, room, few), omega (arith, p.state.few, room, few));
    }

-- the variables up to it are fixed then
refining : (c : After-assign_to-with) → Refining (length c.args.a.now) (clauses c.args.rules.now) c.args.row.now c.args.d (c.args.i + 1) c.assign_to-with.new.a c.first_value-bit.new.choice
refining c =
    subst (λ (l : List ℕ). Refining (length c.args.a.now) (clauses c.args.rules.now) c.args.row.now c.args.d (c.args.i + 1) l c.first_value-bit.new.choice) (sym c.assign_to-with.ensures.values) c.first_value-bit.ensures.refined.1

pub settle-requires : goal.settle-requires
settle-requires c =
    let p = forks (goal.at.settle-requires c).After-first_value-bit in
    let with = c.assign_to-with.ensures in
    record {
      following = (ready_following c.requires.ready (branch_searching p p.bit with), branch_covers p p.bit with);
      a_value = refining_alive (refining (goal.at.settle-requires c).After-assign_to-with);
    }

pub returns-clause-fixed : goal.returns-clause-fixed
returns-clause-fixed c =
    let p = forks (goal.at.returns-clause-fixed c).After-first_value-bit in
    let size = (branch_searching p p.bit c.assign_to-with.ensures).state.size in
    settled (length c.args.a.now) c.requires.ready.sound (refining (goal.at.returns-clause-fixed c).After-assign_to-with) c.settle.ensures.0
    (subst (λ (k : ℕ). Searching k c.args.row.now c.settle.new.a c.settle.new.trail c.settle.result.settled c.settle.result.broken) size c.settle.ensures.1)
