-- A row and its wishes say the same.
use Rattle.std.specs.Prelude.{◌≡◌, true, List, [], ◌∷◌, ℕ, ◌-◌}
use Rattle.wish.specs.Wish.{is_row_byte}

-- every number of a list may stand in a row
abbrev pub Bytes : List ℕ → Type 0
Bytes [] = Unit {0}
Bytes (w ∷ row) = (is_row_byte w ≡ true) × Bytes row
