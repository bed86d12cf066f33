-- A fork: its two states in turn (document 01, step 5).
use Rattle.std.specs.Prelude.{◌≡◌, List, [], ◌∷◌, ◌++◌, ℕ, suc, ◌+◌, ◌-◌, ◌<◌, min, ℤ, length, take, None, Some}
use Rattle.std.proofs.Common.{sym, ap, ap₂, subst, ◌∙◌, arith, lit<}
use Rattle.std.proofs.Math.Seq.{slice, slice_empty}
use Rattle.std.proofs.lemmas.Option.{none-some}
use Rattle.walk.specs.Promises.{Branches}
use Rattle.walk.specs.State.{unassigned, assign}
use Rattle.walk.specs.Walk.{Outcome, fork}
use Rattle.walk_tally.specs.declared.Tally.{Tally}
use Rattle.walk_propagation.specs.Assigned.{AssignedTo, assigned_searching, assigned_grown, assigned_fewer}
use Rattle.walk_propagation.specs.Looked.{pending}
use Rattle.walk_propagation.specs.Searching.{Searching, not_all, searching_kept}
use Rattle.walk_propagation.specs.Trail.{undone, slice-stored, Grown}
use Rattle.walk_unit_queue.specs.Theorems.{Covers}
use Rattle.walk_unit_queue.proofs.Theorems.{fork_covers}
use Rattle.search_state.specs.declared.result.Tried.{Tried}
use Rattle.search_state.specs.Result.{clip, with_forks}
use Rattle.search_state.specs.Newest.{newest, before}
use Rattle.walk_unit_queue.specs.Due.{NoneDue}
use Rattle.search_state.specs.Tried.{TriedBy, answer_in}

-- one more fork, counted as far as 64 bits go
clip_one : (g k : ℕ) → g ≡ clip k → clip (suc (k + 0)) ≡ min (0 + g + 1) 18446744073709551615
clip_one g k e = omega arith

clip_two : (g₁ g₂ k₁ k₂ : ℕ) → g₁ ≡ clip k₁ → g₂ ≡ clip k₂ → clip (suc (k₁ + k₂)) ≡ min (g₁ + g₂ + 1) 18446744073709551615
clip_two g₁ g₂ k₁ k₂ e₁ e₂ = omega arith

-- a fork of the state a with its tally t: the branching variable v takes the value c first
pub record Forks (n : ℕ) (f : List (List ℤ)) (row a trail : List ℕ) (t : Tally) (v c : ℕ) : Type 0 where
  pub state : Searching n row a trail t.settled t.broken
  pub branch : Branches a n v
  pub bit : c < 2
  pub quiet : NoneDue f a

module _ {n : ℕ} {f : List (List ℤ)} {row a trail : List ℕ} {t : Tally} {v c : ℕ} (p : Forks n f row a trail t v c) where
  -- there is room for one variable more
  pub branch_room : t.settled < n
  branch_room = not_all n row a trail t.settled t.broken p.state v 0 p.branch.above p.branch.up_to p.branch.unset (lit< tt)

  -- the state a₁ with a value b
  module _ {b : ℕ} (bit : b < 2) {t₁ : Tally} {a₁ trail₁ : List ℕ} (told : AssignedTo row v b t a trail t₁ a₁ trail₁) where
    pub branch_searching : Searching n row a₁ trail₁ t₁.settled t₁.broken
    branch_searching = assigned_searching told p.state p.branch.above p.branch.up_to p.branch.unset bit

    pub branch_fewer : suc (unassigned a₁) ≡ unassigned a
    branch_fewer = assigned_fewer told p.state p.branch.above p.branch.up_to p.branch.unset bit

    grown : Grown t.settled a trail t₁.settled a₁ trail₁
    grown = assigned_grown told p.state p.branch.above p.branch.up_to p.branch.unset bit

    newest_here : newest t₁ ≡ t.settled
    newest_here = omega (arith, told.settled)

    -- it was the state a before
    branch_back : before t₁ a₁ trail₁ ≡ a
    branch_back = ap (λ (i : ℕ). undone (slice i t₁.settled trail₁) a₁) newest_here ∙ grown.back

    -- only clauses of the branching variable can ask for anything
    pub branch_covers : Covers f (pending (newest t₁) t₁ a₁ trail₁)
    branch_covers =
        let queue : slice (newest t₁) t₁.settled trail₁ ≡ v ∷ []
        = ap₂ (λ (i k : ℕ). slice i k trail₁) newest_here told.settled ∙ ap (slice t.settled (t.settled + 1)) told.order
        ∙ slice-stored trail t.settled t.settled v (omega arith) (omega (arith, branch_room, p.state.long)) ∙ ap (λ (l : List ℕ). l ++ (v ∷ [])) (slice_empty t.settled trail) in
        rw (queue, told.values) (fork_covers f p.state.state p.quiet v b p.branch.above p.branch.up_to p.branch.unset bit)

    module _ (try : List ℕ → Outcome) (trail' a' : List ℕ) where
      -- what trying it says is said of the definition's state
      pub in_branch : (r : Tried) → TriedBy (try a₁) (newest t₁) (before t₁ a₁ trail₁) trail₁ trail' a' r → TriedBy (try (assign a v b)) (newest t₁) (before t₁ a₁ trail₁) trail₁ trail' a' r
      in_branch r = subst (λ (l : List ℕ). TriedBy (try l) (newest t₁) (before t₁ a₁ trail₁) trail₁ trail' a' r) told.values

      -- where it has none, the state is a again
      pub branch_undone : (r : Tried) → r.found ≡ None → TriedBy (try a₁) (newest t₁) (before t₁ a₁ trail₁) trail₁ trail' a' r → (a' ≡ a) × (take t.settled trail' ≡ take t.settled trail)
      branch_undone r z w =
          let kept : take t.settled trail' ≡ take t.settled trail₁ = subst (λ (k : ℕ). take k trail' ≡ take k trail₁) newest_here (w.2 z).1 in
          ((w.2 z).0 ∙ branch_back, kept ∙ grown.kept)

      -- the first value has the answer
      pub first_found : b ≡ c → (r : Tried) (broken : ℕ) → r.found ≡ Some broken → TriedBy (try a₁) (newest t₁) (before t₁ a₁ trail₁) trail₁ trail' a' r → TriedBy (fork try a v c) t.settled a trail trail' a' (with_forks 0 r)
      first_found z r broken q said =
          let w = subst (λ (k : ℕ). TriedBy (try (assign a v k)) (newest t₁) (before t₁ a₁ trail₁) trail₁ trail' a' r) z (in_branch r said) in
          let found : (try (assign a v c)).answer ≡ Some (record { choice = a'; broken = broken }) = w.0 ∙ ap (answer_in a') q in
          rw found (sym (ap (answer_in a') q), sym (clip_one r.forks (try (assign a v c)).forks w.1), λ y. absurd (none-some broken (sym y ∙ q)))

-- the first value has no answer, after g₁ forks, and the state a₃ with trail₃ is a again
pub record Undone (try : List ℕ → Outcome) (n : ℕ) (f : List (List ℤ)) (row a trail : List ℕ) (t : Tally) (v c : ℕ) (trail₃ a₃ : List ℕ) (g₁ : ℕ) : Type 0 where
  pub none_there : (try (assign a v c)).answer ≡ None
  pub clipped : g₁ ≡ clip (try (assign a v c)).forks
  pub back : a₃ ≡ a
  pub kept : take t.settled trail₃ ≡ take t.settled trail
  pub again : Forks n f row a₃ trail₃ t v c

module _ {n : ℕ} {f : List (List ℤ)} {row a trail : List ℕ} {t : Tally} {v c : ℕ} (p : Forks n f row a trail t v c) {t₁ : Tally} {a₁ trail₁ : List ℕ} (told : AssignedTo row v c t a trail t₁ a₁ trail₁) where
  pub first_undone : (try : List ℕ → Outcome) (trail' a' : List ℕ) (r : Tried) → r.found ≡ None → TriedBy (try a₁) (newest t₁) (before t₁ a₁ trail₁) trail₁ trail' a' r → length trail' ≡ length trail
      → Undone try n f row a trail t v c trail' a' r.forks
  first_undone try trail' a' r z said long =
      let w = in_branch p p.bit told try trail' a' r said in
      let u = branch_undone p p.bit told try trail' a' r z said in
      record {
        none_there = w.0 ∙ ap (answer_in a') z;
        clipped = w.1;
        back = u.0;
        kept = u.1;
        again = rw u.0 (record { state = searching_kept p.state trail' long u.1; branch = p.branch; bit = p.bit; quiet = p.quiet });
      }

-- what the other value says
module _ {try : List ℕ → Outcome} {n : ℕ} {f : List (List ℤ)} {row a trail : List ℕ} {t : Tally} {v c : ℕ} {trail₃ a₃ : List ℕ} {g₁ : ℕ} (u : Undone try n f row a trail t v c trail₃ a₃ g₁)
    {t₄ : Tally} {a₄ trail₄ : List ℕ} (told : AssignedTo row v (1 - c) t a₃ trail₃ t₄ a₄ trail₄) where
  pub other : 1 - c < 2
  other = omega arith

  forks_two : (g₂ : ℕ) → g₂ ≡ clip (try (assign a v (1 - c))).forks → min (g₁ + g₂ + 1) 18446744073709551615 ≡ clip (suc ((try (assign a v c)).forks + (try (assign a v (1 - c))).forks))
  forks_two g₂ e = sym (clip_two g₁ g₂ (try (assign a v c)).forks (try (assign a v (1 - c))).forks u.clipped e)

  in_second : (trail' a' : List ℕ) (r : Tried) → TriedBy (try a₄) (newest t₄) (before t₄ a₄ trail₄) trail₄ trail' a' r → TriedBy (try (assign a v (1 - c))) (newest t₄) (before t₄ a₄ trail₄) trail₄ trail' a' r
  in_second trail' a' r w =
      subst (λ (l : List ℕ). TriedBy (try (assign l v (1 - c))) (newest t₄) (before t₄ a₄ trail₄) trail₄ trail' a' r) u.back (in_branch u.again other told try trail' a' r w)

  pub second_said : (trail' a' : List ℕ) (r : Tried) → TriedBy (try a₄) (newest t₄) (before t₄ a₄ trail₄) trail₄ trail' a' r → TriedBy (fork try a v c) t.settled a trail trail' a' (with_forks g₁ r)
  second_said trail' a' r said =
      let w = in_second trail' a' r said in
      rw u.none_there (w.0, forks_two r.forks w.1, λ z. let b = branch_undone u.again other told try trail' a' r z said in (b.0 ∙ u.back, b.1 ∙ u.kept))
