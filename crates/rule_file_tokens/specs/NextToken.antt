-- The next token of a rule file from an offset on (document 01, "The rule file"): "Reading goes on token by token over the lent bytes from a kept offset."
use Rattle.std.specs.Prelude.{List, [], ◌∷◌, ℕ, ◌+◌, ℤ, length, Option, None, Some, Result, Ok, Err}
use Rattle.rule_file.specs.Format.{signed}
use Rattle.rule_file.specs.Tokens.{Token}
use Rattle.rule_file_tokens.specs.declared.Element.{Element}
use Rattle.rule_file_tokens.specs.declared.Malformed.{Malformed}

-- a malformed token at a place, and a number of the list at a place, with the place past it
abbrev pub malformed : ℕ → Result (Option Element) Malformed
malformed place = Err (record { place = place })

abbrev pub element_at : ℕ → ℤ → ℕ → Result (Option Element) Malformed
element_at place x next = Ok (Some (record { place = place; value = x; next = next }))

-- the answer for a token at a place, by the definition `signed`: its number, and the place past it
abbrev pub next_as : ℕ → ℕ → Option ℤ → Result (Option Element) Malformed
next_as place next None = malformed place
next_as place next (Some x) = element_at place x next

-- the answer where some tokens are to come
abbrev pub next_of : List Token → Result (Option Element) Malformed
next_of [] = Ok None
next_of (t ∷ ts) = next_as t.place (t.place + length t.bytes) (signed t.bytes)

-- where the first of them begins, in a file of so many bytes; the file's end without one
abbrev pub first_place : ℕ → List Token → ℕ
first_place size [] = size
first_place size (t ∷ ts) = t.place
