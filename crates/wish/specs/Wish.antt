-- What a byte of the wish row means. Document 01: "A wish row has n bytes: 0 off, 1 on, 2 free." Only this crate looks at such a byte; all others ask it, in definitions, proofs and code.
use Rattle.std.specs.Prelude.{Bool, cond, List, [], ◌∷◌, ℕ, suc, ◌+◌, ◌-◌, eqb, ltb, leb, ℤ}
use Rattle.literal.specs.Literal.{variable, wanted, literal, value}

-- whether a number is a byte of a row at all; any other is a "bad byte" ("Refusals", 13)
abbrev pub is_row_byte : ℕ → Bool
is_row_byte w = leb w 2

-- "2 free"
abbrev pub free_byte : ℕ
free_byte = 2

-- "A wish asks a setting to be on or off; other settings are free."
abbrev pub is_wish : ℕ → Bool
is_wish w = ltb w 2

-- "0 off, 1 on": the byte of a wish that asks a value
abbrev pub wish_for : ℕ → ℕ
wish_for b = b

-- the value that a wish asks; off where the variable is free
abbrev pub wished_value : ℕ → ℕ
wished_value w = cond (is_wish w) w 0

-- "the other value", which goes against the wish; off where the variable is free
abbrev pub unwished_value : ℕ → ℕ
unwished_value w = cond (is_wish w) (1 - w) 0

-- How much a wish counts (not to be taken for the weight of a clause in the search): 1, and 0 where the variable is free
abbrev pub weight : ℕ → ℕ
weight w = cond (is_wish w) 1 0

-- the greatest weight of a wish
abbrev pub max_weight : ℕ
max_weight = 1

-- "Its broken wishes are the wished settings with the other value": what a value breaks of the wish at its variable
abbrev pub cost : ℕ → ℕ → ℕ
cost w b = cond (eqb b (unwished_value w)) (weight w) 0

-- "goes against a wish" (steps 3 and 4): a value breaks a wish if it costs something there
abbrev pub breaks : ℕ → ℕ → Bool
breaks w b = ltb 0 (cost w b)

-- a literal goes against a wish if making it hold breaks the wish of its variable
abbrev pub is_against : List ℕ → ℤ → Bool
is_against row x = breaks (value row (variable x)) (wanted x)

-- "the entry that breaks its wish" ("Rewriting into plain rules"): v where variable v is wished off, -v where it is wished on
abbrev pub breaking : ℕ → ℕ → ℤ
breaking v w = literal v (eqb (unwished_value w) 1)

-- the literal that keeps a wish: v where variable v is wished on, -v where it is wished off
abbrev pub keeping : ℕ → ℕ → ℤ
keeping v w = literal v (eqb (wished_value w) 1)

-- what a byte adds to "the number wished on" (document 02, L2): the weight of a wish for on
abbrev pub on_weight : ℕ → ℕ
on_weight w = cond (eqb (wished_value w) 1) (weight w) 0

-- the number of wishes of a row ("The wish file": "number of wishes m")
abbrev pub wish_count : List ℕ → ℕ
wish_count [] = 0
wish_count (w ∷ row) = cond (is_wish w) (suc (wish_count row)) (wish_count row)

-- what the wishes of a row weigh in all: so much can be broken (the 65th wish of "Refusals", 13, is over its limit)
abbrev pub total_weight : List ℕ → ℕ
total_weight [] = 0
total_weight (w ∷ row) = weight w + total_weight row

-- "the number wished on" (document 02, L2): what the wishes for on weigh
abbrev pub wished_on : List ℕ → ℕ
wished_on [] = 0
wished_on (w ∷ row) = on_weight w + wished_on row
