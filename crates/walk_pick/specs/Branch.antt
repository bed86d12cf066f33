-- The branching variable from the weights and the marks.
use Rattle.std.specs.Prelude.{Bool, ◌&&◌, List, ℕ, ◌+◌, ◌*◌, ◌^◌, ◌≤◌, ◌<◌, length, get_or, Option, None, Some}
use Rattle.literal.specs.Literal.{value}
use Rattle.walk.specs.State.{is_unset}
use Rattle.walk.specs.Branching.{score_of}
use Rattle.walk_weighing.specs.Weights.{is_marked}

-- a variable's score, and whether it is a candidate
abbrev pub score_by : List ℕ → ℕ → ℕ
score_by weights v = score_of (get_or weights (2 * v + 1) 0) (get_or weights (2 * v) 0)

abbrev pub candidate_by : List ℕ → List ℕ → ℕ → Bool
candidate_by a marks v = is_unset (value a v) && is_marked marks v

-- the variables 1 to n have their weights and marks, and their scores fit
pub record Scorable (n : ℕ) (weights marks : List ℕ) : Type 0 where
  pub slots : 2 * n + 1 < length weights
  pub places : n < length marks
  pub small : (i : ℕ) → get_or weights i 0 ≤ 2 ^ 60

-- the best so far is one of the variables 1 to n
abbrev pub UpTo : ℕ → Option ℕ → Type 0
UpTo n None = Unit {0}
UpTo n (Some v) = v ≤ n
