-- What the theorems promise of the walk.
use Rattle.std.specs.Prelude.{◌≡◌, false, List, ℕ, ◌≤◌, ◌<◌, ℤ}
use Rattle.literal.specs.Literal.{value}
use Rattle.formula.specs.Formula.{models}
use Rattle.distance.specs.Distance.{disagreement}
use Rattle.choices.specs.Choices.{Model}
use Rattle.walk.specs.Walk.{Answer, is_dead_end, complete, is_exhausted}

-- an answer of the walk: a model, with its own count, within the limit
pub record ModelWithin (n : ℕ) (f : List (List ℤ)) (row : List ℕ) (d : ℕ) (x : Answer) : Type 0 where
  pub model : Model n f x.choice
  pub own_count : disagreement row x.choice ≡ x.broken
  pub limited : x.broken ≤ d

-- steps 1 to 3 decide nothing
pub record Undecided (f : List (List ℤ)) (row : List ℕ) (d : ℕ) (a : List ℕ) : Type 0 where
  pub alive : is_dead_end f row d a ≡ false
  pub incomplete : models (complete row a) f ≡ false
  pub unexhausted : is_exhausted f row d a ≡ false

-- a variable to branch on: unassigned, and one of 1 to n
pub record Branches (a : List ℕ) (n v : ℕ) : Type 0 where
  pub unset : value a v ≡ 2
  pub above : 0 < v
  pub up_to : v ≤ n
