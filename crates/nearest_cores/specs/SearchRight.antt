-- The search by disjoint cores: one step of it, and that it is right.
use Rattle.std.specs.Prelude.{◌≡◌, true, List, ℕ, ◌-◌, ◌≤◌, ◌<◌}
use Rattle.literal.specs.Literal.{value}
use Rattle.wish.specs.Wish.{is_wish, wished_value}

-- a guide: it asks of every wished variable its wish
pub record Guides (n : ℕ) (row guide : List ℕ) : Type 0 where
  pub asks : (v : ℕ) → 0 < v → v ≤ n → is_wish (value row v) ≡ true → wished_value (value guide v) ≡ wished_value (value row v)
