-- Trying a state in the search by cores: narrowing, completion by the guide, and what is left to a fork.
use Rattle.std.specs.Prelude.{◌≡◌, Bool, true, false, cond, List, ℕ, ◌≤◌, ◌<◌, ℤ, length, None, Some, Ok, Err}
use Rattle.std.proofs.Common.{sym, ap, subst, ◌∙◌, arith}
use Rattle.std.proofs.Math.Seq.{slice}
use Rattle.std.proofs.lemmas.Option.{none-some}
use Rattle.formula.specs.Formula.{models}
use Rattle.walk_opposed.specs.Opposed.{NoneShort}
use Rattle.walk.proofs.BranchingLaws.{opposed_open}
use Rattle.walk.specs.Promises.{Branches}
use Rattle.walk.specs.State.{fits, unassigned, unassigned_in}
use Rattle.walk.specs.Walk.{Outcome, dead_end, is_dead_end, complete, fork}
use Rattle.walk_pick.specs.declared.Decision.{Decision}
use Rattle.walk_pick.specs.Pick.{pick_of, after_completion, picked_none, picked-fork}
use Rattle.walk_tally.specs.declared.Tally.{Tally}
use Rattle.walk_propagation.specs.declared.propagated.DeadEnd.{DeadEnd}
use Rattle.walk_propagation.specs.Looked.{Moved, ComesTo}
use Rattle.walk_propagation.specs.Searching.{Searching}
use Rattle.walk_propagation.specs.Trail.{undone}
use Rattle.walk_unit_queue.specs.Due.{NoneDue}
use Rattle.walk_unit_queue.proofs.Theorems.{settled_none_due}
use Rattle.search_state.specs.declared.result.Tried.{Tried}
use Rattle.search_state.specs.Result.{clip}
use Rattle.search_state.specs.Tried.{TriedBy, unwound}
use Rattle.search_state.specs.Undoing.{dead_undone, fork-undone}
use Rattle.nearest_cores.specs.Narrow.{narrow}
use Rattle.nearest_cores.specs.Search.{completed_by, onward, search_from}
use Rattle.nearest_cores.specs.NarrowRight.{Narrowed, NarrowedTo}
use Rattle.nearest_cores.proofs.NarrowRight.{narrow_right}
use Rattle.nearest_cores.proofs.SearchRight.{search_step}

-- the state before the variables from a place of the trail on were assigned
abbrev pub before : ℕ → Tally → List ℕ → List ℕ → List ℕ
before from t a trail = undone (slice from t.settled trail) a

-- a state a of the search with its tally t, tried from a place of its trail on
pub record Tries (n : ℕ) (f : List (List ℤ)) (row : List ℕ) (from : ℕ) (t : Tally) (a trail : List ℕ) : Type 0 where
  pub given : Searching n row a trail t.settled t.broken
  pub fit : fits n f ≡ true
  pub inside : from ≤ t.settled

module _ {n : ℕ} {f : List (List ℤ)} {row : List ℕ} {from : ℕ} {t : Tally} {a trail : List ℕ} (p : Tries n f row from t a trail) (guide : List ℕ) (d : ℕ) where
  -- the search from it goes on from the narrowed state
  step : search_from f row guide d a ≡ onward f row guide d (search_from f row guide d) (narrow f row d a)
  step = search_step n f p.fit row guide d a p.given.state

  -- a dead end in a later state, which is undone
  ended : {t' : Tally} {a' trail' : List ℕ} → Moved n row t a trail t' a' trail' → search_from f row guide d a ≡ dead_end → (a'' : List ℕ) → a'' ≡ before from t' a' trail'
      → TriedBy (search_from f row guide d a) from (before from t a trail) trail trail' a'' (record { found = None; forks = 0 })
  ended m e a'' q = dead_undone m from p.inside (search_from f row guide d a) e a'' q

  -- narrowing comes to a dead end
  pub by_narrowing : {e : DeadEnd} {a' trail' : List ℕ} → ComesTo n row (narrow f row d a) t a trail a' trail' (Err e) → (a'' : List ℕ) → a'' ≡ before from e.tally a' trail'
      → TriedBy (search_from f row guide d a) from (before from t a trail) trail trail' a'' (record { found = None; forks = 0 })
  by_narrowing told a'' q = ended told.1 (step ∙ ap (onward f row guide d (search_from f row guide d)) told.0) a'' q

-- from the state a with its tally t to the narrowed state a' with its tally t'
pub record Alive (n : ℕ) (f : List (List ℤ)) (row : List ℕ) (d from : ℕ) (t : Tally) (a trail : List ℕ) (t' : Tally) (a' trail' : List ℕ) : Type 0 where
  pub tries : Tries n f row from t a trail
  pub told : ComesTo n row (narrow f row d a) t a trail a' trail' (Ok t')

module _ {n : ℕ} {f : List (List ℤ)} {row : List ℕ} {d from : ℕ} {t : Tally} {a trail : List ℕ} {t' : Tally} {a' trail' : List ℕ} (p : Alive n f row d from t a trail t' a' trail') where
  right : NarrowedTo n f row d a a'
  right = subst (Narrowed n f row d a) p.told.0 (narrow_right n f p.tries.fit row d a p.tries.given.state)

  pub narrowed : Searching n row a' trail' t'.settled t'.broken
  narrowed = p.told.1.searching

  pub narrowed-fewer : unassigned a' ≤ unassigned a
  narrowed-fewer = right.fewer

  -- no clause asks for anything in it: it was propagated, and is no dead end
  pub narrowed_none_due : NoneDue f a'
  narrowed_none_due =
      let e = right.propagated in
      subst (NoneDue f) (sym e.2) (settled_none_due n f p.tries.fit row d e.1 (ap (is_dead_end f row d) (sym e.2) ∙ right.alive))

  -- so an opposed clause, which is open, has at least two unassigned literals
  pub narrowed_none_short : NoneShort row a' f
  narrowed_none_short c m e =
      let long : unassigned_in a' c < 2 → ⊥ = λ l. narrowed_none_due c m (record { unmet = opposed_open row a' c e; short = l }) in
      omega (arith, long)

  module _ (guide : List ℕ) where
    abbrev try : List ℕ → Outcome
    try = search_from f row guide d

    decided : try a ≡ onward f row guide d try (Some a')
    decided = step p.tries guide d ∙ ap (onward f row guide d try) p.told.0

    -- step 2: the completion by the guide is the answer
    pub by_completion : (a'' : List ℕ) → a'' ≡ complete guide a' → models (complete guide a') f ≡ true → TriedBy (try a) from (before from t a trail) trail trail' a'' (record { found = Some t'.broken; forks = 0 })
    by_completion a'' q m =
        let o : try a ≡ completed_by row guide a'
        = decided ∙ ap (λ (b : Bool). cond b (completed_by row guide a') (after_completion f row d try a')) m in
        (ap (λ (o : Outcome). o.answer) o ∙ rw (q, narrowed.breaks), sym (ap (λ (o : Outcome). clip o.forks) o), λ z. absurd (none-some t'.broken (sym z)))

    module _ (incomplete : models (complete guide a') f ≡ false) where
      after : try a ≡ after_completion f row d try a'
      after = decided ∙ ap (λ (b : Bool). cond b (completed_by row guide a') (after_completion f row d try a')) incomplete

      -- steps 3 and 4: a dead end
      pub by_exhaustion : pick_of f row d a' ≡ None → (a'' : List ℕ) → a'' ≡ before from t' a' trail' → TriedBy (try a) from (before from t a trail) trail trail' a'' (record { found = None; forks = 0 })
      by_exhaustion e a'' q = ended p.tries guide d p.told.1 (after ∙ picked_none f row d try a' e) a'' q

      -- or a variable to branch on, with the value that it takes first
      module _ (x : Decision) (e : pick_of f row d a' ≡ Some x) where
        branched : (after_completion f row d try a' ≡ fork try a' x.variable.0 x.value) × Branches a' n x.variable.0 × (x.value < 2)
        branched = picked-fork f row d try a' narrowed.state x e

        pub branches : Branches a' n x.variable.0 × (x.value < 2)
        branches = (branched.1, branched.2)

        -- step 5: what the fork says, undone where it found nothing
        pub by_fork : (trail'' a'' a''' : List ℕ) (r : Tried) → TriedBy (fork try a' x.variable.0 x.value) t'.settled a' trail' trail'' a'' r → length trail'' ≡ length trail'
            → a''' ≡ unwound r.found (slice from t'.settled trail'') a'' → TriedBy (try a) from (before from t a trail) trail trail'' a''' r
        by_fork trail'' a'' a''' r w l q = fork-undone p.told.1 from p.tries.inside (try a) (fork try a' x.variable.0 x.value) (after ∙ branched.0) trail'' a'' a''' r w q
