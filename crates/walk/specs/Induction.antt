-- One induction over the walk: what holds in each way that it can go holds of every walk.
use Rattle.std.specs.Prelude.{◌≡◌, true, false, List, ℕ, ◌-◌, ℤ, None, Some}
use Rattle.formula.specs.Formula.{models}
use Rattle.walk.specs.State.{State, assign}
use Rattle.walk.specs.Propagation.{unit_literal, propagate}
use Rattle.walk.specs.Branching.{fewest, branching_variable}
use Rattle.walk.specs.Walk.{Outcome, dead_end, is_dead_end, complete, completed, is_exhausted, first_value, either_of}
use Rattle.walk.specs.Promises.{Undecided, Branches}

-- a state to which unit propagation adds nothing
pub record Settled (n : ℕ) (f : List (List ℤ)) (a : List ℕ) : Type 0 where
  pub state : State n a
  pub quiet : unit_literal a f ≡ None

-- the ways that the walk can go, for a statement P of the state that it starts from and what it comes to
pub record Ways (n : ℕ) (f : List (List ℤ)) (row : List ℕ) (d : ℕ) (P : List ℕ → Outcome → Type 0) : Type 0 where
  pub settles : (a : List ℕ) (r : Outcome) → State n a → P (propagate f a) r → P a r
  pub dies : (a : List ℕ) → Settled n f a → is_dead_end f row d a ≡ true → P a dead_end
  pub completes : (a : List ℕ) → Settled n f a → is_dead_end f row d a ≡ false → models (complete row a) f ≡ true → P a (completed row a)
  pub exhausts : (a : List ℕ) → Settled n f a → is_dead_end f row d a ≡ false → models (complete row a) f ≡ false → is_exhausted f row d a ≡ true → P a dead_end
  pub forks : (a : List ℕ) (v : ℕ) (r s : Outcome) → Settled n f a → Undecided f row d a → branching_variable row a f ≡ Some v → Branches a n v
      → P (assign a v (first_value row (fewest row a f) v)) r → P (assign a v (1 - first_value row (fewest row a f) v)) s → P a (either_of r s)
