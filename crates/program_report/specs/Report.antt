-- What the programs print (document 01, "Examples").
use Rattle.std.specs.Prelude.{List, [], ◌∷◌, ◌++◌, ℕ, length}
use Rattle.refusal.specs.declared.Refusal.{Refusal}
use Rattle.refusal.specs.Reply.{too_short, filled}
use Rattle.decimal.specs.Decimal.{decimal}

-- "On a refusal it prints the number, a space, the place and a line feed"
abbrev pub refusal_line : Refusal → List ℕ
refusal_line r = decimal r.number ++ 32 ∷ (decimal r.place ++ 10 ∷ [])

-- what lent bytes hold after a text was put into them: the text and what stood past it, or, where it does not fit, what they held before
abbrev pub fitted : List ℕ → List ℕ → List ℕ
fitted text out = filled (too_short (length text) (length out)) text out
