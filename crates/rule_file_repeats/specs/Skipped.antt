-- A repeat changes nothing that is read (document 02, L3): put in among the tokens of any file, it alters neither the list nor which token is refused, and for what. So it is no entry, also where 31,000 are stored already.
use Rattle.std.specs.Prelude.{◌≡◌, true, List, [], ◌∷◌, ℤ, Some}
use Rattle.rule_list.specs.Sound.{Scan, unread, after}
use Rattle.rule_file.specs.Format.{signed, element, repeats, past}
use Rattle.rule_file.specs.Tokens.{Token}

-- what was read after some tokens
abbrev pub past_all : Scan → List Token → Scan
past_all s [] = s
past_all s (t ∷ ts) = past_all (past s (element t)) ts

-- a token whose number repeats a literal of the clause that is open behind some tokens
pub record Repeat (ts : List Token) (t : Token) : Type 0 where
  pub number : ℤ
  pub given : signed t.bytes ≡ Some number
  pub repeated : repeats (past_all unread ts) number ≡ true
