-- A state on its way, as settling by the arrangement reaches it: by steps of unit propagation, and with every clause that asks for something among those still to be looked at.
use Rattle.std.specs.Prelude.{◌≡◌, ◌⊎◌, true, false, ℕ, ◌+◌, ◌-◌, ◌≤◌, ◌<◌, ℤ, length, get_or, Option, None, Some}
use mathlib.Core.List.{List, [], Memᴰ}
use Rattle.literal.specs.Literal.{variable, value, holds}
use Rattle.formula.specs.Formula.{contains}
use Rattle.distance.specs.Distance.{disagreement}
use Rattle.walk.specs.State.{State, unassigned}
use Rattle.walk.specs.Walk.{is_dead_end}
use Rattle.walk_unit_queue.specs.Steps.{Steps}
use Rattle.walk_unit_queue.specs.Due.{Due}
use Rattle.walk_unit_queue.specs.Queue.{Pending}

-- the clause c holds the false literal of a variable of the queue
pub record Held (p : Pending) (c : List ℤ) : Type 0 where
  pub by : ℕ
  pub queued : Memᴰ by p.queue
  pub holds_it : contains by (1 - value p.values by) c ≡ true

-- from the state a, where the clauses with the numbers `rest` are still to be looked at and m variables can still come from the queue
pub record Reached (n : ℕ) (f : List (List ℤ)) (row : List ℕ) (d : ℕ) (a : List ℕ) (m : ℕ) (p : Pending) (rest : List ℕ) : Type 0 where
  pub steps : (xs : List ℤ) × Steps f a xs p.values
  pub state : State n p.values
  pub within : disagreement row p.values ≤ d
  pub left : length p.queue + unassigned p.values ≡ m
  pub assigned : (v : ℕ) → Memᴰ v p.queue → value p.values v < 2
  pub covered : (j : ℕ) → j < length f → Due p.values (get_or f j []) → Memᴰ (1 + j) rest ⊎ Held p (get_or f j [])

-- a dead end was reached
pub record DeadReached (f : List (List ℤ)) (row : List ℕ) (d : ℕ) (a : List ℕ) : Type 0 where
  pub state : List ℕ
  pub steps : (xs : List ℤ) × Steps f a xs state
  pub dead : is_dead_end f row d state ≡ true

abbrev pub Looked : ℕ → List (List ℤ) → List ℕ → ℕ → List ℕ → ℕ → List ℕ → Option Pending → Type 0
Looked n f row d a m rest None = DeadReached f row d a
Looked n f row d a m rest (Some p) = Reached n f row d a m p rest
