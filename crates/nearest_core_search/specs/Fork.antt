-- A fork tries its two states from its own place of the trail on. There the branching variable stands, which is the newest one: so the laws of a fork in crate search_state serve.
use Rattle.std.specs.Prelude.{◌≡◌, List, ℕ, ℤ}
use Rattle.std.proofs.Common.{sym, subst, arith}
use Rattle.walk.specs.Walk.{Outcome}
use Rattle.walk_tally.specs.declared.Tally.{Tally}
use Rattle.walk_propagation.specs.Assigned.{AssignedTo}
use Rattle.walk_propagation.specs.Looked.{pending}
use Rattle.walk_unit_queue.specs.Theorems.{Covers}
use Rattle.search_state.specs.declared.result.Tried.{Tried}
use Rattle.search_state.specs.Newest as by-newest
use Rattle.search_state.specs.Tried.{TriedBy}
use Rattle.nearest_core_search.specs.Attempt.{before}

module _ {row : List ℕ} {v b : ℕ} {t : Tally} {a trail : List ℕ} {t₁ : Tally} {a₁ trail₁ : List ℕ} (told : AssignedTo row v b t a trail t₁ a₁ trail₁) where
  place : t.settled ≡ by-newest.newest t₁
  place = omega (arith, told.settled)

  -- only clauses of the variables from that place on can ask for anything
  pub covers_from : {f : List (List ℤ)} → Covers f (pending (by-newest.newest t₁) t₁ a₁ trail₁) → Covers f (pending t.settled t₁ a₁ trail₁)
  covers_from {f} = subst (λ (i : ℕ). Covers f (pending i t₁ a₁ trail₁)) (sym place)

  -- what trying says from that place on, it says from the newest variable on
  pub from-newest : (o : Outcome) (trail' a' : List ℕ) (r : Tried) → TriedBy o t.settled (before t.settled t₁ a₁ trail₁) trail₁ trail' a' r
      → TriedBy o (by-newest.newest t₁) (by-newest.before t₁ a₁ trail₁) trail₁ trail' a' r
  from-newest o trail' a' r = subst (λ (i : ℕ). TriedBy o i (before i t₁ a₁ trail₁) trail₁ trail' a' r) place
