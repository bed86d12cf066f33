-- "Every sound list, written and read, is that list again" (document 01, "The rule file").
use Rattle.std.specs.Prelude.{List, [], ◌∷◌, ℕ, suc, ◌+◌, ℤ, length}
use Rattle.text.specs.Text.{numeral}
use Rattle.rule_file.specs.Tokens.{Token}

-- the tokens of a written list
abbrev pub tokens_of : ℕ → List ℤ → List Token
tokens_of at [] = []
tokens_of at (x ∷ l) = record { place = at; bytes = numeral x } ∷ tokens_of (suc (at + length (numeral x))) l
