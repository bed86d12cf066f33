-- Where a state forks: steps 3 and 4 of the walk, as one answer.
use Rattle.std.specs.Prelude.{◌≡◌, refl, Bool, true, false, cond, ◌&&◌, List, ℕ, ◌<◌, ℤ, Option, None, Some}
use Rattle.std.proofs.Common.{sym, ap, ap₂, subst, ◌∙◌, true≢false, arith, eq-eqb, ne_eqb}
use Rattle.std.proofs.lemmas.Option.{none-some, same_Some}
use Rattle.formula.specs.Formula.{any, models}
use Rattle.distance.specs.Distance.{disagreement}
use Rattle.walk_opposed.specs.Laws.{any_opposed}
use Rattle.walk_opposed.specs.Opposed.{some_opposed}
use Rattle.walk.specs.Branching.{is_opposed, fewest, branching_variable}
use Rattle.walk.proofs.BranchingLaws.{branching_sound}
use Rattle.walk.specs.Promises.{Branches}
use Rattle.walk.specs.State.{State}
use Rattle.walk.specs.Walk.{Outcome, dead_end, is_dead_end, complete, is_exhausted, first_value, fork, fork_on, decide}
use Rattle.walk.proofs.WalkLaws.{first_bit}
use Rattle.walk_pick.specs.declared.Decision.{Decision}

abbrev pub decision : ℕ → ℕ → Decision
decision v value = record { variable = record { 0 = v }; value = value }

-- the branching variable (step 4) and the value that is tried first (step 5)
abbrev pub branch_on : List ℕ → Option ℕ → Option ℕ → Option Decision
branch_on row size None = None
branch_on row size (Some v) = Some (decision v (first_value row size v))

-- "it is a dead end" (step 3), or else that
abbrev pub picked : Bool → List ℕ → Option ℕ → Option ℕ → Option Decision
picked true row size v = None
picked false row size v = branch_on row size v

-- what steps 3 to 5 say of a state
abbrev pub pick_of : List (List ℤ) → List ℕ → ℕ → List ℕ → Option Decision
pick_of f row d a = picked (is_exhausted f row d a) row (fewest row a f) (branching_variable row a f)

-- and where as many wishes are broken as may be
abbrev pub pick_spent : List (List ℤ) → List ℕ → List ℕ → Option Decision
pick_spent f row a = picked (any (is_opposed row a) f) row (fewest row a f) (branching_variable row a f)

-- what it says of steps 3 to 5, where the search goes on as `try` says
module _ (f : List (List ℤ)) (row : List ℕ) (d : ℕ) (try : List ℕ → Outcome) (a : List ℕ) where
  abbrev pub after_completion : Outcome
  after_completion = cond (is_exhausted f row d a) dead_end (fork_on try row a (fewest row a f) (branching_variable row a f))

  by_tests : (t : Bool) → is_exhausted f row d a ≡ t → (o : Option ℕ) → branching_variable row a f ≡ o → after_completion ≡ cond t dead_end (fork_on try row a (fewest row a f) o)
  by_tests t p o q = ap₂ (λ (u : Bool) (x : Option ℕ). cond u dead_end (fork_on try row a (fewest row a f) x)) p q

  pub picked_none : pick_of f row d a ≡ None → after_completion ≡ dead_end
  picked_none e = go (is_exhausted f row d a) refl (branching_variable row a f) refl e
    where
      go : (t : Bool) → is_exhausted f row d a ≡ t → (o : Option ℕ) → branching_variable row a f ≡ o → picked t row (fewest row a f) o ≡ None → after_completion ≡ dead_end
      go true p o q r = by_tests true p o q
      go false p None q r = by_tests false p None q
      go false p (Some v) q r = cc

  pub picked-fork : {n : ℕ} → State n a → (x : Decision) → pick_of f row d a ≡ Some x → (after_completion ≡ fork try a x.variable.0 x.value) × Branches a n x.variable.0 × (x.value < 2)
  picked-fork {n} h x e = go (is_exhausted f row d a) refl (branching_variable row a f) refl e
    where
      go : (t : Bool) → is_exhausted f row d a ≡ t → (o : Option ℕ) → branching_variable row a f ≡ o → picked t row (fewest row a f) o ≡ Some x
          → (after_completion ≡ fork try a x.variable.0 x.value) × Branches a n x.variable.0 × (x.value < 2)
      go true p o q r = absurd (none-some x r)
      go false p None q r = absurd (none-some x r)
      go false p (Some u) q r =
          let same = same_Some (decision u (first_value row (fewest row a f) u)) x r in
          let on : u ≡ x.variable.0 = ap (λ (y : Decision). y.variable.0) same in
          let first : first_value row (fewest row a f) u ≡ x.value = ap (λ (y : Decision). y.value) same in (
            by_tests false p (Some u) q ∙ ap₂ (fork try a) on first,
            subst (Branches a n) on (branching_sound h row f q),
            subst (λ (k : ℕ). k < 2) first (first_bit row (fewest row a f) u),
          )

-- and of the walk
module _ (f : List (List ℤ)) (row : List ℕ) (d : ℕ) (try : List ℕ → Outcome) (a : List ℕ) (alive : is_dead_end f row d a ≡ false) (open' : models (complete row a) f ≡ false) where
  decided : decide f row d try a ≡ after_completion f row d try a
  decided = rw (alive, open')

  pub pick_none : pick_of f row d a ≡ None → decide f row d try a ≡ dead_end
  pick_none e = decided ∙ picked_none f row d try a e

  pub pick_fork : {n : ℕ} → State n a → (x : Decision) → pick_of f row d a ≡ Some x
      → (decide f row d try a ≡ fork try a x.variable.0 x.value) × Branches a n x.variable.0 × (x.value < 2)
  pick_fork h x e = let r = picked-fork f row d try a h x e in (decided ∙ r.0, r.1, r.2)

-- the answer, by whether the limit is spent
module _ (f : List (List ℤ)) (row : List ℕ) (d : ℕ) (a : List ℕ) (broken : ℕ) (breaks : broken ≡ disagreement row a) where
  pub pick_spent_lem : broken ≡ d → pick_spent f row a ≡ pick_of f row d a
  pick_spent_lem e = sym (ap (λ (b : Bool). picked (b && any (is_opposed row a) f) row (fewest row a f) (branching_variable row a f)) (eq-eqb (disagreement row a) d (sym breaks ∙ e)))

  pub pick_below : (broken ≡ d → ⊥) → branch_on row (fewest row a f) (branching_variable row a f) ≡ pick_of f row d a
  pick_below e = sym (ap (λ (b : Bool). picked (b && any (is_opposed row a) f) row (fewest row a f) (branching_variable row a f)) (ne_eqb (disagreement row a) d (λ q. e (breaks ∙ q))))

-- where it is: some clause is opposed, or none is
module _ (f : List (List ℤ)) (row a : List ℕ) where
  pub spent_dead : any (is_opposed row a) f ≡ true → None ≡ pick_spent f row a
  spent_dead e = sym (ap (λ (b : Bool). picked b row (fewest row a f) (branching_variable row a f)) e)

  pub none_fewest : any (is_opposed row a) f ≡ false → None ≡ fewest row a f
  none_fewest e = go (fewest row a f) (sym (any_opposed row a f) ∙ e)
    where
      go : (o : Option ℕ) → some_opposed o ≡ false → None ≡ o
      go None q = refl
      go (Some k) q = absurd (true≢false q)

  pub spent_branch : any (is_opposed row a) f ≡ false → branch_on row None (branching_variable row a f) ≡ pick_spent f row a
  spent_branch e =
      ap (λ (o : Option ℕ). branch_on row o (branching_variable row a f)) (none_fewest e)
      ∙ sym (ap (λ (b : Bool). picked b row (fewest row a f) (branching_variable row a f)) e)
