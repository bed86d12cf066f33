-- What a try leaves that found nothing, of any search that forks: the variables from a place of the trail on are unassigned again.
use Rattle.std.specs.Prelude.{◌≡◌, List, ℕ, ◌≤◌, take, drop, Option, None, Some, refl}
use Rattle.std.proofs.Common.{sym, ap, ap₂, ◌∙◌, arith, take-take}
use Rattle.std.proofs.Math.Seq.{slice}
use Rattle.std.proofs.lemmas.Option.{none-some}
use Rattle.walk.specs.Walk.{Outcome, dead_end}
use Rattle.walk_tally.specs.declared.Tally.{Tally}
use Rattle.walk_propagation.specs.Looked.{Moved}
use Rattle.walk_propagation.specs.Searching.{settled_most}
use Rattle.walk_propagation.specs.Trail.{undone, grown_undone}
use Rattle.search_state.specs.declared.result.Tried.{Tried}
use Rattle.search_state.specs.Result.{clip}
use Rattle.search_state.specs.Tried.{TriedBy, answer_in, unwound}

-- the search from the state a comes to o, by way of the later state a'
module _ {n : ℕ} {row : List ℕ} {t t' : Tally} {a trail a' trail' : List ℕ} (m : Moved n row t a trail t' a' trail') (from : ℕ) (inside : from ≤ t.settled) (o : Outcome) where
  kept : take from trail' ≡ take from trail
  kept = sym (take-take from t.settled trail' inside) ∙ ap (take from) m.grown.kept ∙ take-take from t.settled trail inside

  back : undone (slice from t'.settled trail') a' ≡ undone (slice from t.settled trail) a
  back = grown_undone (omega (arith, settled_most m.searching, m.searching.long)) m.grown from inside

  -- that is a dead end
  pub dead_undone : o ≡ dead_end → (a'' : List ℕ) → a'' ≡ undone (slice from t'.settled trail') a' → TriedBy o from (undone (slice from t.settled trail) a) trail trail' a'' (record { found = None; forks = 0 })
  dead_undone e a'' q = (ap (λ (u : Outcome). u.answer) e, sym (ap (λ (u : Outcome). clip u.forks) e), λ z. (q ∙ back, kept))

  -- or it forks there, which comes to u
  pub fork-undone : (u : Outcome) → o ≡ u → (trail'' a'' a''' : List ℕ) (r : Tried) → TriedBy u t'.settled a' trail' trail'' a'' r → a''' ≡ unwound r.found (slice from t'.settled trail'') a''
      → TriedBy o from (undone (slice from t.settled trail) a) trail trail'' a''' r
  fork-undone u e trail'' a'' a''' r w q = go r.found refl
    where
      o_is : (o.answer ≡ u.answer) × (r.forks ≡ clip o.forks)
      o_is = (ap (λ (x : Outcome). x.answer) e, w.1 ∙ sym (ap (λ (x : Outcome). clip x.forks) e))

      go : (z : Option ℕ) → r.found ≡ z → TriedBy o from (undone (slice from t.settled trail) a) trail trail'' a''' r
      go (Some k) z = (o_is.0 ∙ w.0 ∙ ap (λ (x : List ℕ). answer_in x r.found) (sym (q ∙ ap (λ (x : Option ℕ). unwound x (slice from t'.settled trail'') a'') z)), o_is.1, λ y. absurd (none-some k (sym y ∙ z)))
      go None z =
          let undo : (a'' ≡ a') × (take t'.settled trail'' ≡ take t'.settled trail') = w.2 z in
          let within : from ≤ t'.settled = omega (arith, m.grown.more) in
          let same : slice from t'.settled trail'' ≡ slice from t'.settled trail' = ap (drop from) undo.1 in
          let none : (x : List ℕ) → answer_in x r.found ≡ None = λ x. ap (answer_in x) z in (
            o_is.0 ∙ w.0 ∙ none a'' ∙ sym (none a'''),
            o_is.1,
            λ y. (
              q ∙ ap (λ (x : Option ℕ). unwound x (slice from t'.settled trail'') a'') z ∙ ap₂ undone same undo.0 ∙ back,
              sym (take-take from t'.settled trail'' within) ∙ ap (take from) undo.1 ∙ take-take from t'.settled trail' within ∙ kept,
            ),
          )
