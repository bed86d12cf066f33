-- The place in the file and refusal 16 (document 02, L2), whose place is an index in the list: in a file that was read they name the same closing zero, and where there is no such refusal no place is found.
use Rattle.std.specs.Prelude.{◌≡◌, true, List, ◌∷◌, ◌++◌, map, ℕ, ◌+◌, length, Option, None, Some}
use Rattle.formula.specs.Formula.{closes}
use Rattle.rule_list.specs.Sound.{Scan}
use Rattle.rule_file.specs.Format.{element, stored}
use Rattle.rule_file.specs.Tokens.{Token}

-- The token at a place closes a clause, and is stored at index j: those before it, after what s says was read and i numbers, are stored before that.
pub record Closing (s : Scan) (i : ℕ) (ts : List Token) (j place : ℕ) : Type 0 where
  pub before : List Token
  pub bytes : List ℕ
  pub behind : List Token
  pub split : ts ≡ before ++ record { place = place; bytes = bytes } ∷ behind
  pub closing : closes (element (record { place = place; bytes = bytes })) ≡ true
  pub index : i + length (stored s (map element before)) ≡ j

-- what a place says of a file of so many bytes, by the index that is refused, if one is
abbrev pub Placed : Scan → ℕ → ℕ → List Token → ℕ → Option ℕ → Type 0
Placed s i size ts place None = place ≡ size
Placed s i size ts place (Some j) = Closing s i ts j place
