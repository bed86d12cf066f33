-- The tokens of a file line by line, in plainer words than those of the definition: a line whose first byte is `c` has none, any other has its "runs of bytes that are not blank" (document 01, "The rule file").
use Rattle.std.specs.Prelude.{Bool, true, false, cond, not, List, [], ◌∷◌, ℕ, suc, eqb}
use Rattle.rule_file.specs.Class.{letter_c, class_of}
use Rattle.rule_file.specs.Tokens.{leading, is_gap, in_token, Token, starting, tokens}

-- the runs of bytes that are not blank, the first byte at a place; the flag says whether one is going on there
abbrev pub runs : Bool → ℕ → List ℕ → List Token
runs going at [] = []
runs going at (b ∷ s) =
    cond (is_gap b) (runs false (suc at) s) (starting (not going) (record { place = at; bytes = b ∷ leading in_token s }) (runs true (suc at) s))

-- the tokens of one line
abbrev pub line_tokens : ℕ → List ℕ → List Token
line_tokens at [] = []
line_tokens at (b ∷ s) = cond (eqb (class_of b) letter_c) [] (runs false at (b ∷ s))
