-- Trying a state is narrowing, completion by the guide, and what is left to a fork (`Attempt`); a fork tries the state with the first value, and where that finds nothing the state with the other (`ForkLaws` of crate search_state, and `Fork`).
use Rattle.std.proofs.Common.{◌≡◌, refl, sym, ap, subst, ◌∙◌, List, ℕ, ◌<◌, ◌≤◌, arith, length}
use Rattle.std.specs.Prelude.{ℤ, Option, None, Some, Ok}
use Rattle.formula.specs.Formula.{clauses}
use Rattle.walk.specs.Promises.{Branches}
use Rattle.walk.specs.State.{unassigned}
use Rattle.walk.specs.Walk.{Outcome, fork as fork_of}
use Rattle.walk_tally.specs.declared.Tally.{Tally}
use Rattle.walk_propagation.specs.Looked.{ComesTo}
use Rattle.walk_propagation.specs.Searching.{Searching, undoable, searching_kept}
use Rattle.search_meaning.specs.Fits.{sound_fits}
use Rattle.walk_unit_queue.specs.Due.{NoneDue}
use Rattle.search_state.specs.declared.result.Tried.{Tried}
use Rattle.search_state.specs.ForkLaws as fork-laws
use Rattle.search_state.specs.Ready.{Ready}
use Rattle.search_state.specs.ReadyLaws.{ready_still, ready_following, long_searching, long_branches}
use Rattle.search_state.specs.Tried.{TriedBy, MayUnwind, is_found, not_found}
use Rattle.nearest_cores.specs.Narrow.{narrow as narrow_of}
use Rattle.nearest_cores.specs.Search.{search_from}
use Rattle.nearest_core_search.specs.Attempt as laws
use Rattle.nearest_core_search.specs.Fork.{covers_from, from-newest}
use Rattle.nearest_core_search.proofs.search.+attempt_fork.Goals as goal

-- The call of `attempt`: its state with its tally t, tried from a place of its trail on, and what is lent beside it.
module _ {rules : List ℤ} {arrangement witnesses row a trail : List ℕ} {weights : ℕ} (from : ℕ) (t : Tally)
    (given : Searching (length a) row a trail t.settled t.broken) (ready : Ready rules arrangement witnesses (length a) weights) (inside : from ≤ t.settled) where
  tries : laws.Tries (length a) (clauses rules) row from t a trail
  tries = record { given = given; fit = sound_fits (length a) rules ready.sound; inside = inside }

  -- narrowing comes to no dead end
  alive : (d : ℕ) (a' trail' : List ℕ) (t' : Tally) → ComesTo (length a) row (narrow_of (clauses rules) row d a) t a trail a' trail' (Ok t') → laws.Alive (length a) (clauses rules) row d from t a trail t' a' trail'
  alive d a' trail' t' told = record { tries = tries; told = told }

-- where a fork found nothing, the trail is as it was as far as it is undone
may_unwind : {n : ℕ} {row a trail : List ℕ} {t : Tally} (o : Outcome) (trail' a' : List ℕ) (r : Tried) → Searching n row a trail t.settled t.broken
    → length trail' ≡ length trail → length a' ≡ length a → TriedBy o t.settled a trail trail' a' r → MayUnwind r.found t.settled trail' (length a')
may_unwind {n} {t = t} o trail' a' r h long size w = go r.found refl
  where
    go : (z : Option ℕ) → r.found ≡ z → MayUnwind r.found t.settled trail' (length a')
    go (Some k) z = rw z tt
    go None z = rw (z, size ∙ h.state.size) (undoable (searching_kept h trail' long (w.2 z).1))

-- the call of `fork`: of the state with the tally t, where the variable v takes the value b first
forks : {row a trail : List ℕ} (f : List (List ℤ)) (t : Tally) (v b : ℕ) → Searching (length a) row a trail t.settled t.broken → Branches a (length a) v × (b < 2) × NoneDue f a → fork-laws.Forks (length a) f row a trail t v b
forks f t v b given q = record { state = given; branch = q.0; bit = q.1; quiet = q.2 }

pub attempt-narrow-requires : goal.attempt-narrow-requires
attempt-narrow-requires t c = (ready_following c.requires.ready c.requires.searching, c.requires.from_le_settled.0, c.requires.from_le_settled.1)

pub attempt-unwind-requires : goal.attempt-unwind-requires
attempt-unwind-requires t c = let s = c.in-Err.ensures.1.searching in rw s.state.size (undoable s)

-- narrowing comes to a dead end
pub attempt-returns-in-Err-clause-tried : goal.attempt-returns-in-Err-clause-tried
attempt-returns-in-Err-clause-tried t c =
    let h = c.requires in
    rw c.unwind.ensures.same
    (laws.by_narrowing (tries c.args.from c.args.tally h.searching h.ready h.from_le_settled.0) c.args.guide.now c.args.d c.in-Err.ensures c.unwind.new.a c.unwind.ensures.state)

-- step 2: the completion by the guide is the answer
pub attempt-returns-then-completes-clause-tried : goal.attempt-returns-then-completes-clause-tried
attempt-returns-then-completes-clause-tried t c =
    let h = c.requires in
    let p = alive c.args.from c.args.tally h.searching h.ready h.from_le_settled.0 c.args.d c.narrow.new.a c.narrow.new.trail c.in-Ok.t c.in-Ok.ensures in
    laws.by_completion p c.args.guide.now c.fill_completion.new.assignment c.fill_completion.ensures (sym c.completes.ensures ∙ c.if-completes.true)

pub attempt-pick_branch-requires-clause-broken_value : goal.attempt-pick_branch-requires-clause-broken_value
attempt-pick_branch-requires-clause-broken_value t c =
    let s = c.in-Ok.ensures.1.searching in (s.breaks, rw s.state.size c.requires.ready.sound)

pub attempt-pick_branch-requires-clause-none_short : goal.attempt-pick_branch-requires-clause-none_short
attempt-pick_branch-requires-clause-none_short t c =
    let h = c.requires in
    laws.narrowed_none_short (alive c.args.from c.args.tally h.searching h.ready h.from_le_settled.0 c.args.d c.narrow.new.a c.narrow.new.trail c.in-Ok.t c.in-Ok.ensures)

pub attempt-unwind-requires-in-None : goal.attempt-unwind-requires-in-None
attempt-unwind-requires-in-None t c = let s = c.in-Ok.ensures.1.searching in rw s.state.size (undoable s)

-- steps 3 and 4: a dead end
pub attempt-returns-in-None-clause-tried : goal.attempt-returns-in-None-clause-tried
attempt-returns-in-None-clause-tried t c =
    let h = c.requires in
    let p = alive c.args.from c.args.tally h.searching h.ready h.from_le_settled.0 c.args.d c.narrow.new.a c.narrow.new.trail c.in-Ok.t c.in-Ok.ensures in
    rw c.unwind-in-None.ensures.same
    (laws.by_exhaustion p c.args.guide.now (sym c.completes.ensures ∙ c.if-completes.false) (sym c.in-None.ensures.pick) c.unwind-in-None.new.a c.unwind-in-None.ensures.state)

pub attempt-fork-tried-requires : goal.attempt-fork-tried-requires
attempt-fork-tried-requires t c =
    let h = c.requires in
    let p = alive c.args.from c.args.tally h.searching h.ready h.from_le_settled.0 c.args.d c.narrow.new.a c.narrow.new.trail c.in-Ok.t c.in-Ok.ensures in
    let s = laws.narrowed p in
    let b = laws.branches p c.args.guide.now (sym c.completes.ensures ∙ c.if-completes.false) c.in-Some.decision (sym c.in-Some.ensures.pick) in (
      omega (arith, laws.narrowed-fewer p),
      (long_searching s, (ready_still s.state.size c.in-Some.ensures.witness c.pick_branch.auto.weights h.ready, (long_branches s b.0, b.1, laws.narrowed_none_due p))),
    )

pub attempt-unwind-requires-in-Some : goal.attempt-unwind-requires-in-Some
attempt-unwind-requires-in-Some t c =
    let x = c.in-Some.decision in
    may_unwind (fork_of (search_from (clauses c.args.rules.now) c.args.row.now c.args.guide.now c.args.d) c.narrow.new.a x.variable.0 x.value) c.fork-tried.new.trail c.fork-tried.new.a c.fork-tried.result
    c.in-Ok.ensures.1.searching c.fork-tried.auto.trail c.fork-tried.auto.a c.fork-tried.ensures.tried

-- step 5: what the fork says
pub attempt-returns-in-Some-clause-tried : goal.attempt-returns-in-Some-clause-tried
attempt-returns-in-Some-clause-tried t c =
    let h = c.requires in
    let p = alive c.args.from c.args.tally h.searching h.ready h.from_le_settled.0 c.args.d c.narrow.new.a c.narrow.new.trail c.in-Ok.t c.in-Ok.ensures in
    rw c.unwind-in-Some.ensures.same
    (laws.by_fork p c.args.guide.now (sym c.completes.ensures ∙ c.if-completes.false) c.in-Some.decision (sym c.in-Some.ensures.pick) c.fork-tried.new.trail c.fork-tried.new.a c.unwind-in-Some.new.a
    c.fork-tried.result c.fork-tried.ensures.tried c.fork-tried.auto.trail c.unwind-in-Some.ensures.state)

pub fork-assign_to-first-requires : goal.fork-assign_to-first-requires
fork-assign_to-first-requires t c =
    let h = c.requires in
    let k = h.branches.0 in
    let room = fork-laws.branch_room (forks (clauses c.args.rules.now) c.args.tally c.args.decision.variable.0 c.args.decision.value h.searching h.branches) in
    record {
      v_nonzero = (k.above, k.up_to, omega (arith, k.up_to, h.ready.few));
      settled_in_bounds = (omega (arith, room, h.searching.long), omega (arith, room, h.ready.few), omega (arith, room, h.searching.few, h.ready.few));
    }

pub fork-attempt-tried-requires : goal.fork-attempt-tried-requires
fork-attempt-tried-requires t c =
    let h = c.requires in
    let p = forks (clauses c.args.rules.now) c.args.tally c.args.decision.variable.0 c.args.decision.value h.searching h.branches in
    let first = c.assign_to-first.ensures in
    let s = fork-laws.branch_searching p p.bit first in (
      omega (arith, fork-laws.branch_fewer p p.bit first),
      (long_searching s, (ready_still s.state.size h.ready.witnessed refl h.ready, (omega (arith, first.settled), covers_from first (fork-laws.branch_covers p p.bit first)))),
    )

-- the first value has the answer
pub fork-returns-then-is_some-clause-tried : goal.fork-returns-then-is_some-clause-tried
fork-returns-then-is_some-clause-tried t c =
    let h = c.requires in
    let p = forks (clauses c.args.rules.now) c.args.tally c.args.decision.variable.0 c.args.decision.value h.searching h.branches in
    let try : List ℕ → Outcome = search_from (clauses c.args.rules.now) c.args.row.now c.args.guide.now c.args.d in
    let there = is_found c.attempt-tried.result.found (sym c.is_some.ensures ∙ c.if-is_some.true) in
    rw c.with_forks.ensures
    (fork-laws.first_found p p.bit c.assign_to-first.ensures try c.attempt-tried.new.trail c.attempt-tried.new.a refl c.attempt-tried.result there.0 there.1
    (from-newest c.assign_to-first.ensures (try c.assign_to-first.new.a) c.attempt-tried.new.trail c.attempt-tried.new.a c.attempt-tried.result c.attempt-tried.ensures.tried))

-- Nothing was found, and the state before the fork is there again.
pub fork-assign_to-second-requires : goal.fork-assign_to-second-requires
fork-assign_to-second-requires t c =
    let h = c.requires in
    let p = forks (clauses c.args.rules.now) c.args.tally c.args.decision.variable.0 c.args.decision.value h.searching h.branches in
    let try : List ℕ → Outcome = search_from (clauses c.args.rules.now) c.args.row.now c.args.guide.now c.args.d in
    let none = not_found c.attempt-tried.result.found (sym c.is_some.ensures ∙ c.if-is_some.false) in
    let said = from-newest c.assign_to-first.ensures (try c.assign_to-first.new.a) c.attempt-tried.new.trail c.attempt-tried.new.a c.attempt-tried.result c.attempt-tried.ensures.tried in
    let u = fork-laws.first_undone p c.assign_to-first.ensures try c.attempt-tried.new.trail c.attempt-tried.new.a c.attempt-tried.result none said (c.attempt-tried.auto.trail ∙ c.assign_to-first.auto.trail) in
    let k = u.again.branch in
    let room = fork-laws.branch_room p in
    record {
      v_nonzero = (k.above, omega (arith, k.up_to, u.again.state.state.size), omega (arith, k.up_to, h.ready.few));
      settled_in_bounds = (omega (arith, room, u.again.state.long), omega (arith, room, h.ready.few), omega (arith, room, h.searching.few, h.ready.few));
    }

pub fork-attempt-requires : goal.fork-attempt-requires
fork-attempt-requires t c =
    let h = c.requires in
    let p = forks (clauses c.args.rules.now) c.args.tally c.args.decision.variable.0 c.args.decision.value h.searching h.branches in
    let try : List ℕ → Outcome = search_from (clauses c.args.rules.now) c.args.row.now c.args.guide.now c.args.d in
    let none = not_found c.attempt-tried.result.found (sym c.is_some.ensures ∙ c.if-is_some.false) in
    let said = from-newest c.assign_to-first.ensures (try c.assign_to-first.new.a) c.attempt-tried.new.trail c.attempt-tried.new.a c.attempt-tried.result c.attempt-tried.ensures.tried in
    let u = fork-laws.first_undone p c.assign_to-first.ensures try c.attempt-tried.new.trail c.attempt-tried.new.a c.attempt-tried.result none said (c.attempt-tried.auto.trail ∙ c.assign_to-first.auto.trail) in
    let second = c.assign_to-second.ensures in
    let other = fork-laws.other u second in
    let s = fork-laws.branch_searching u.again other second in (
      omega (arith, fork-laws.branch_fewer u.again other second, ap unassigned u.back),
      (long_searching s, (ready_still s.state.size c.attempt-tried.ensures.witness c.attempt-tried.auto.weights h.ready, (omega (arith, second.settled), covers_from second (fork-laws.branch_covers u.again other second)))),
    )

-- the other value has the answer, or neither has
pub fork-returns-clause-tried : goal.fork-returns-clause-tried
fork-returns-clause-tried t c =
    let h = c.requires in
    let p = forks (clauses c.args.rules.now) c.args.tally c.args.decision.variable.0 c.args.decision.value h.searching h.branches in
    let try : List ℕ → Outcome = search_from (clauses c.args.rules.now) c.args.row.now c.args.guide.now c.args.d in
    let none = not_found c.attempt-tried.result.found (sym c.is_some.ensures ∙ c.if-is_some.false) in
    let said = from-newest c.assign_to-first.ensures (try c.assign_to-first.new.a) c.attempt-tried.new.trail c.attempt-tried.new.a c.attempt-tried.result c.attempt-tried.ensures.tried in
    let u = fork-laws.first_undone p c.assign_to-first.ensures try c.attempt-tried.new.trail c.attempt-tried.new.a c.attempt-tried.result none said (c.attempt-tried.auto.trail ∙ c.assign_to-first.auto.trail) in
    let last_a : List ℕ = c.attempt.new.a in
    let last_trail : List ℕ = c.attempt.new.trail in
    subst (TriedBy (fork_of try c.args.a.now c.args.decision.variable.0 c.args.decision.value) c.args.tally.settled c.args.a.now c.args.trail.now last_trail last_a) (sym c.with_forks-2.ensures)
    (fork-laws.second_said u c.assign_to-second.ensures last_trail last_a c.attempt.result
    (from-newest c.assign_to-second.ensures (try c.assign_to-second.new.a) last_trail last_a c.attempt.result c.attempt.ensures.tried))
