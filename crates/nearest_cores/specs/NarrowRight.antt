-- Narrowing: one round of it, and what it comes to.
use Rattle.std.specs.Prelude.{◌≡◌, false, List, ℕ, ◌≤◌, ◌<◌, ℤ, Option, None, Some}
use Rattle.distance.specs.Distance.{disagreement}
use Rattle.choices.specs.Choices.{Model}
use Rattle.walk.specs.State.{State, unassigned}
use Rattle.walk.specs.Propagation.{propagate}
use Rattle.walk.specs.Walk.{is_dead_end}
use Rattle.walk.specs.Extension.{Extends}

-- what narrowing the state a comes to at b: a state that extends a, that every model within d which extends a extends too, that is no dead end, and that is what unit propagation makes of some state
pub record NarrowedTo (n : ℕ) (f : List (List ℤ)) (row : List ℕ) (d : ℕ) (a b : List ℕ) : Type 0 where
  pub state : State n b
  pub fewer : unassigned b ≤ unassigned a
  pub extends : Extends b a
  pub keeps : (c : List ℕ) → Model n f c → Extends c a → disagreement row c ≤ d → Extends c b
  pub alive : is_dead_end f row d b ≡ false
  pub propagated : (e : List ℕ) × State n e × (b ≡ propagate f e)

-- what is right of a narrowing: where it finds a dead end, no model within d extends the state
abbrev pub Narrowed : ℕ → List (List ℤ) → List ℕ → ℕ → List ℕ → Option (List ℕ) → Type 0
Narrowed n f row d a None = (c : List ℕ) → Model n f c → Extends c a → d < disagreement row c
Narrowed n f row d a (Some b) = NarrowedTo n f row d a b
