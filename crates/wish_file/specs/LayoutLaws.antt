-- Writing and reading a line undo one another.
use Rattle.std.specs.Prelude.{◌≡◌, List, [], ◌∷◌, ℕ, ◌-◌, ◌≤◌, ◌<◌, length, take, Some}
use Rattle.wish_file.specs.Layout.{line, line_size}

-- numbers that fit their columns
abbrev pub Fit : List ℕ → Type 0
Fit [] = Unit {0}
Fit (v ∷ vs) = (v < 100000) × Fit vs

-- some bytes begin with the line of some numbers, of k columns
pub record Begins (k : ℕ) (s vs : List ℕ) : Type 0 where
  pub count : length vs ≡ k
  pub long : line_size k ≤ length s
  pub same : line vs ≡ take (line_size k) s
