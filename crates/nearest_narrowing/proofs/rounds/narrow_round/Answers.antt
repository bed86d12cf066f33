-- `nearest_narrowing::rounds::narrow_round` meets its contract: each way out is one of the laws of `Rounds`.
use Rattle.std.specs.Prelude.{Ok}
use Rattle.std.proofs.Common.{subst, ℕ, ◌≡◌, arith, length}
use Rattle.std.proofs.lemmas.Result.{err_from_is_err_and}
use Rattle.std.proofs.Math.Seq.{length-take-le}
use Rattle.formula.specs.Formula.{clauses}
use Rattle.walk_propagation.specs.Looked.{Moved}
use Rattle.walk_propagation.specs.Looking.{following_moved}
use Rattle.walk_propagation.specs.Propagated.{PropagatedBy}
use Rattle.nearest_narrowing.specs.Keeping.{KeptTo}
use Rattle.nearest_narrowing.specs.Rounds as rounds
use Rattle.nearest_narrowing.proofs.rounds.narrow_round.Goals as goal
use Rattle.nearest_narrowing.proofs.rounds.narrow_round.Goals.{In_ok-t, After-find_cores-bound, After-keep_wishes-kept}

pub returns-in_err-t : goal.returns-in_err-t
returns-in_err-t c =
    let s = c.requires.0.looking in
    let p = err_from_is_err_and c.from_residual.result c.from_residual.ensures.1 in
    rw (p.1, p.2) (rounds.round_dead s.searching (clauses c.args.rules.now) s.fit c.args.d (rounds.propagated_dead c.requires.0 c.args.d c.args.from c.requires.2 c.in_err-t.ensures))

-- after propagation
told : (c : In_ok-t) → PropagatedBy (length c.args.a.now) (clauses c.args.rules.now) c.args.row.now c.args.d c.args.tally c.args.a.now c.args.trail.now c.propagate_units.new.a c.propagate_units.new.trail (Ok c.in_ok-t.t)
told c = rounds.propagated_settled c.requires.0 c.args.d c.args.from c.requires.2 c.in_ok-t.ensures

pub find_cores-bound-requires : goal.find_cores-bound-requires
find_cores-bound-requires c =
    let s = c.requires.0.looking in
    let w = told (goal.at.find_cores-bound-requires c).In_ok-t in
    let h = following_moved c.requires.0 w.2 in
    let few = h.looking.few in
    record { following = (h, rounds.round_none_due s.searching (clauses c.args.rules.now) s.fit c.args.d w); taken_len = (length-take-le _ _ (omega (arith, few)), omega (arith, few)) }

-- after the search for cores: the state is the same
found : (c : After-find_cores-bound)
    → rounds.CoresFound (clauses c.args.rules.now) c.args.row.now c.in_ok-t.t c.propagate_units.new.a c.propagate_units.new.trail c.find_cores-bound.result c.find_cores-bound.new.taken c.find_cores-bound.new.a c.find_cores-bound.new.trail
found c =
    let said = c.find_cores-bound.ensures in
    record { least = said.bound; marks = said.taken; state = said.state; order = said.trail; long = c.find_cores-bound.auto.trail }

moved : (c : After-find_cores-bound) → Moved (length c.args.a.now) c.args.row.now c.args.tally c.args.a.now c.args.trail.now c.in_ok-t.t c.find_cores-bound.new.a c.find_cores-bound.new.trail
moved c =
    let s = c.requires.0.looking in
    rounds.round_moved s.searching (clauses c.args.rules.now) s.fit c.args.d (rounds.propagated_settled c.requires.0 c.args.d c.args.from c.requires.2 c.in_ok-t.ensures) (found c)

-- every model breaks too much
pub returns-then-d-bound : goal.returns-then-d-bound
returns-then-d-bound c =
    let s = c.requires.0.looking in
    rounds.round_over s.searching (clauses c.args.rules.now) s.fit c.args.d (told (goal.at.returns-then-d-bound c).In_ok-t) (found (goal.at.returns-then-d-bound c).After-find_cores-bound) c.if-d-bound.true

pub keep_wishes-kept-requires : goal.keep_wishes-kept-requires
keep_wishes-kept-requires c =
    let s = c.requires.0.looking in
    let cores = (goal.at.keep_wishes-kept-requires c).After-find_cores-bound in
    let h = following_moved c.requires.0 (moved cores) in
    record {
      searching = (h.looking.searching, h.looking.few, c.if-d-bound.false);
      by_index = rounds.round_left s.searching (clauses c.args.rules.now) s.fit c.args.d (told (goal.at.keep_wishes-kept-requires c).In_ok-t) (found cores);
    }

-- after wishes were kept, of as many variables as were lent
kept : (c : After-keep_wishes-kept) → length c.find_cores-bound.new.a ≡ length c.args.a.now
    → KeptTo (length c.args.a.now) c.args.row.now c.in_ok-t.t c.find_cores-bound.new.a c.find_cores-bound.new.trail c.keep_wishes-kept.result c.keep_wishes-kept.new.a c.keep_wishes-kept.new.trail
kept c size =
    subst (λ (k : ℕ). KeptTo k c.args.row.now c.in_ok-t.t c.find_cores-bound.new.a c.find_cores-bound.new.trail c.keep_wishes-kept.result c.keep_wishes-kept.new.a c.keep_wishes-kept.new.trail) size c.keep_wishes-kept.ensures.kept

-- no wish had to be kept
pub returns-then-kept-t : goal.returns-then-kept-t
returns-then-kept-t c =
    let s = c.requires.0.looking in
    let cores = (goal.at.returns-then-kept-t c).After-find_cores-bound in
    rounds.round_narrowed s.searching (clauses c.args.rules.now) s.fit c.args.d (told (goal.at.returns-then-kept-t c).In_ok-t) (found cores) c.if-d-bound.false
    c.keep_wishes-kept.ensures.values (kept (goal.at.returns-then-kept-t c).After-keep_wishes-kept (moved cores).searching.state.size) c.if-kept-t.true

-- wishes were kept
pub returns : goal.returns
returns c =
    let s = c.requires.0.looking in
    let cores = (goal.at.returns c).After-find_cores-bound in
    rounds.round_kept s.searching (clauses c.args.rules.now) s.fit c.args.d (told (goal.at.returns c).In_ok-t) (found cores) c.if-d-bound.false
    c.keep_wishes-kept.ensures.values (kept (goal.at.returns c).After-keep_wishes-kept (moved cores).searching.state.size) c.if-kept-t.false
