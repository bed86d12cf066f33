-- The wishes of a row, one by one, and the row of some wishes.
use Rattle.std.specs.Prelude.{cond, List, [], ◌∷◌, ℕ, suc, ◌-◌, ◌≤◌, ◌<◌, set, replicate}
use Rattle.wish.specs.Wish.{free_byte, is_wish, wish_for, wished_value}

-- a wish asks a variable "to be on or off": its mark is 1 for on, 0 for off
pub record Wish : Type 0 where
  pub variable : ℕ
  pub mark : ℕ

-- the wish of variable v that a byte of the row is, and the byte of a wish
abbrev pub wish_as : ℕ → ℕ → Wish
wish_as v w = record { variable = v; mark = wished_value w }

abbrev pub byte_of : Wish → ℕ
byte_of w = wish_for w.mark

-- the wishes of a row whose first byte is that of variable v, by rising variable
abbrev pub wish_list : ℕ → List ℕ → List Wish
wish_list v [] = []
wish_list v (w ∷ row) = cond (is_wish w) (wish_as v w ∷ wish_list (suc v) row) (wish_list (suc v) row)

-- a row with each wish's byte put at its variable
abbrev pub marked : List ℕ → List Wish → List ℕ
marked row [] = row
marked row (w ∷ ws) = marked (set row (w.variable - 1) (byte_of w)) ws

-- the row of n bytes that some wishes give: the other variables are free
abbrev pub row_of : ℕ → List Wish → List ℕ
row_of n ws = marked (replicate n free_byte) ws

-- wishes whose variables rise above last and are at most n, with marks 0 and 1
abbrev pub Rising : ℕ → ℕ → List Wish → Type 0
Rising n last [] = Unit {0}
Rising n last (w ∷ ws) = (last < w.variable) × (w.variable ≤ n) × (w.mark < 2) × Rising n w.variable ws
