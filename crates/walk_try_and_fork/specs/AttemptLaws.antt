-- Trying a state: propagation, completion, and what is left to a fork (document 01, steps 1 to 4).
use Rattle.std.specs.Prelude.{◌≡◌, true, false, List, ℕ, ◌≤◌, ◌<◌, ℤ, length, None, Some, Ok, Err}
use Rattle.std.proofs.Common.{sym, ap, ◌∙◌, arith}
use Rattle.std.proofs.Math.Seq.{slice}
use Rattle.std.proofs.lemmas.Option.{none-some}
use Rattle.formula.specs.Formula.{models}
use Rattle.walk_opposed.specs.Opposed.{NoneShort}
use Rattle.walk.proofs.BranchingLaws.{opposed_open}
use Rattle.walk.proofs.Completion.{complete-cost}
use Rattle.walk.specs.Promises.{Branches}
use Rattle.walk.specs.Propagation.{propagate}
use Rattle.walk.proofs.PropagationLaws.{propagate-fewer}
use Rattle.walk.specs.State.{fits, unassigned, unassigned_in}
use Rattle.walk.specs.Walk.{Outcome, dead_end, complete, completed, decide, fork, walk_from, is_dead_end}
use Rattle.walk.proofs.WalkLaws.{walk_step, decide_dead, decide-complete}
use Rattle.walk_pick.specs.declared.Decision.{Decision}
use Rattle.walk_pick.specs.Pick.{pick_of, pick_none, pick_fork}
use Rattle.walk_tally.specs.declared.Tally.{Tally}
use Rattle.walk_propagation.specs.declared.propagated.DeadEnd.{DeadEnd}
use Rattle.walk_propagation.specs.Looked.{Moved}
use Rattle.walk_propagation.specs.Propagated.{PropagatedBy}
use Rattle.walk_propagation.specs.Searching.{Searching}
use Rattle.walk_propagation.specs.Trail.{undone}
use Rattle.walk_unit_queue.proofs.Theorems.{settled_none_due}
use Rattle.search_state.specs.declared.result.Tried.{Tried}
use Rattle.search_state.specs.Result.{clip}
use Rattle.walk_unit_queue.specs.Due.{NoneDue}
use Rattle.search_state.specs.Newest.{newest, before}
use Rattle.search_state.specs.Tried.{TriedBy, unwound}
use Rattle.search_state.specs.Undoing.{dead_undone, fork-undone}

-- the walk from a state is the decision of the propagated one
module _ {n : ℕ} {row : List ℕ} {t : Tally} {a trail : List ℕ} (given : Searching n row a trail t.settled t.broken) (f : List (List ℤ)) (fit : fits n f ≡ true) (d : ℕ) where
  step : walk_from f row d a ≡ decide f row d (walk_from f row d) (propagate f a)
  step = walk_step n f fit row d a given.state

  -- a dead end in a later state, which is undone
  ended : {t' : Tally} {a' trail' : List ℕ} → Moved n row t a trail t' a' trail' → walk_from f row d a ≡ dead_end → (a'' : List ℕ) → a'' ≡ undone (slice (newest t) t'.settled trail') a'
      → TriedBy (walk_from f row d a) (newest t) (before t a trail) trail trail' a'' (record { found = None; forks = 0 })
  ended m e a'' q = dead_undone m (newest t) (omega arith) (walk_from f row d a) e a'' q

  -- step 1: a dead end
  pub by_propagation : {e : DeadEnd} {a' trail' : List ℕ} → PropagatedBy n f row d t a trail a' trail' (Err e) → (a'' : List ℕ) → a'' ≡ undone (slice (newest t) e.tally.settled trail') a'
      → TriedBy (walk_from f row d a) (newest t) (before t a trail) trail trail' a'' (record { found = None; forks = 0 })
  by_propagation told a'' q = ended told.1 (step ∙ decide_dead f row d (walk_from f row d) (propagate f a) told.0) a'' q

-- from the state a with its tally t to the propagated state a' with its tally t', which is no dead end
pub record Alive (n : ℕ) (f : List (List ℤ)) (row : List ℕ) (d : ℕ) (t : Tally) (a trail : List ℕ) (t' : Tally) (a' trail' : List ℕ) : Type 0 where
  pub given : Searching n row a trail t.settled t.broken
  pub fit : fits n f ≡ true
  pub told : PropagatedBy n f row d t a trail a' trail' (Ok t')

module _ {n : ℕ} {f : List (List ℤ)} {row : List ℕ} {d : ℕ} {t : Tally} {a trail : List ℕ} {t' : Tally} {a' trail' : List ℕ} (p : Alive n f row d t a trail t' a' trail') where
  abbrev try : List ℕ → Outcome
  try = walk_from f row d

  decided : try a ≡ decide f row d try a'
  decided = step p.given f p.fit d ∙ ap (decide f row d try) (sym p.told.0)

  pub propagated : Searching n row a' trail' t'.settled t'.broken
  propagated = p.told.2.searching

  pub propagated_fewer : unassigned a' ≤ unassigned a
  propagated_fewer = omega (arith, ap unassigned p.told.0, propagate-fewer n f p.fit p.given.state)

  pub propagated_none_due : NoneDue f a'
  propagated_none_due = rw p.told.0 (settled_none_due n f p.fit row d p.given.state (ap (is_dead_end f row d) (sym p.told.0) ∙ p.told.1))

  -- so an opposed clause, which is open, has at least two unassigned literals
  pub propagated_none_short : NoneShort row a' f
  propagated_none_short c m e =
      let long : unassigned_in a' c < 2 → ⊥ = λ l. propagated_none_due c m (record { unmet = opposed_open row a' c e; short = l }) in
      omega (arith, long)

  -- step 2: the completion is the answer
  pub by_completion : (a'' : List ℕ) → a'' ≡ complete row a' → models (complete row a') f ≡ true → TriedBy (try a) (newest t) (before t a trail) trail trail' a'' (record { found = Some t'.broken; forks = 0 })
  by_completion a'' q m =
      let o : try a ≡ completed row a' = decided ∙ decide-complete f row d try a' p.told.1 m in
      (ap (λ (o : Outcome). o.answer) o ∙ rw (q, propagated.breaks, complete-cost row a'), sym (ap (λ (o : Outcome). clip o.forks) o), λ z. absurd (none-some t'.broken (sym z)))

  module _ (incomplete : models (complete row a') f ≡ false) where
    -- steps 3 and 4: a dead end
    pub by_exhaustion : pick_of f row d a' ≡ None → (a'' : List ℕ) → a'' ≡ undone (slice (newest t) t'.settled trail') a' → TriedBy (try a) (newest t) (before t a trail) trail trail' a'' (record { found = None; forks = 0 })
    by_exhaustion e a'' q = ended p.given f p.fit d p.told.2 (decided ∙ pick_none f row d try a' p.told.1 incomplete e) a'' q

    -- or a variable to branch on, with the value that it takes first
    module _ (x : Decision) (e : pick_of f row d a' ≡ Some x) where
      branched : (decide f row d try a' ≡ fork try a' x.variable.0 x.value) × Branches a' n x.variable.0 × (x.value < 2)
      branched = pick_fork f row d try a' p.told.1 incomplete propagated.state x e

      pub branches : Branches a' n x.variable.0 × (x.value < 2)
      branches = (branched.1, branched.2)

      -- step 5: what the fork says, undone where it found nothing
      pub by_fork : (trail'' a'' a''' : List ℕ) (r : Tried) → TriedBy (fork try a' x.variable.0 x.value) t'.settled a' trail' trail'' a'' r → length trail'' ≡ length trail'
          → a''' ≡ unwound r.found (slice (newest t) t'.settled trail'') a'' → TriedBy (try a) (newest t) (before t a trail) trail trail'' a''' r
      by_fork trail'' a'' a''' r w l q = fork-undone p.told.2 (newest t) (omega arith) (try a) (fork try a' x.variable.0 x.value) (decided ∙ branched.0) trail'' a'' a''' r w q
