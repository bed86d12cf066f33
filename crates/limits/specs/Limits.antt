-- The limits of document 01.
use Rattle.std.specs.Prelude.{ℕ}

-- "N is 1 to 640, C 0 to 9,000, entries at most 31,000" ("The rule file")
abbrev pub max_variables : ℕ
max_variables = 640

abbrev pub max_clauses : ℕ
max_clauses = 9000

abbrev pub max_literals : ℕ
max_literals = 31000

-- "number of wishes m (at most n and at most 64), limit d (0 to 64, possibly above m)" ("The wish file")
abbrev pub max_wishes : ℕ
max_wishes = 64

abbrev pub max_limit : ℕ
max_limit = 64

-- "a call that takes a wish row, even one all free, with n above 256, over 4,096 rules or 16,384 entries" ("Refusals", 12)
abbrev pub max_wish_variables : ℕ
max_wish_variables = 256

abbrev pub max_wish_clauses : ℕ
max_wish_clauses = 4096

abbrev pub max_wish_literals : ℕ
max_wish_literals = 16384
