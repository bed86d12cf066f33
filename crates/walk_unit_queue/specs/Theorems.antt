-- Settling by the arrangement ends as settling by the list does (document 02, L10): "a dead end in both, or the same settled state".
use Rattle.std.specs.Prelude.{◌≡◌, true, false, ℕ, ◌-◌, ◌<◌, ℤ, length, get_or, Option, None, Some}
use mathlib.Core.List.{List, [], Memᴰ}
use Rattle.literal.specs.Literal.{value}
use Rattle.walk.specs.Walk.{is_dead_end}
use Rattle.walk_unit_queue.specs.Due.{Due}
use Rattle.walk_unit_queue.specs.Queue.{Pending}
use Rattle.walk_unit_queue.specs.Reached.{Held}

-- What settling came to, beside the state b in which settling by the list ends: none where that is a dead end, and else that state.
abbrev pub EndsAlike : List (List ℤ) → List ℕ → ℕ → List ℕ → Option (List ℕ) → Type 0
EndsAlike f row d b None = is_dead_end f row d b ≡ true
EndsAlike f row d b (Some a) = (a ≡ b) × (is_dead_end f row d b ≡ false)

-- every clause that asks for something holds the false literal of a variable of the queue, and those are assigned
pub record Covers (f : List (List ℤ)) (p : Pending) : Type 0 where
  pub assigned : (v : ℕ) → Memᴰ v p.queue → value p.values v < 2
  pub covered : (j : ℕ) → j < length f → Due p.values (get_or f j []) → Held p (get_or f j [])
