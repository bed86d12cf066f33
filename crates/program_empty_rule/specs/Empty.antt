-- Where a rule file has its first rule without entries (document 02, L2: "16, a rule without entries, place the first such rule's closing zero"), by its bytes: refusal 16 itself has the closing zero's index in the list.
use Rattle.std.specs.Prelude.{Bool, true, false, cond, List, [], ◌∷◌, ℕ, ◌+◌, ℤ, length, drop, Option, None, Some}
use Rattle.literal.specs.Literal.{closes}
use Rattle.rule_file.specs.Format.{past_comments, Header, header, signed}
use Rattle.rule_file.specs.Tokens.{Token, tokens_from}

-- from one token on, which stands at a place and is a number or malformed: `filled` says whether the open clause has a literal, and `rest` gives the place for the tokens behind it, by whether the clause that is open there has one
abbrev pub empty_at : Bool → ℕ → Option ℤ → (Bool → ℕ) → ℕ
empty_at filled place None rest = place
empty_at filled place (Some x) rest = cond (closes x) (cond filled (rest false) place) (rest true)

-- The place of the 0 that closes the first clause without literals, among tokens of a file of so many bytes. It is asked of files that were read and have one; where none comes first, it is the file's length, or the place of a malformed token.
abbrev pub empty_among : Bool → ℕ → List Token → ℕ
empty_among filled size [] = size
empty_among filled size (t ∷ ts) = empty_at filled t.place (signed t.bytes) (λ f. empty_among f size ts)

-- in a file whose first line that is no comment stands at a place; without a header there, that place
abbrev pub empty_behind : List ℕ → ℕ → Option Header → ℕ
empty_behind file at None = at
empty_behind file at (Some h) = empty_among false (length file) (tokens_from file (at + h.size))

-- of a whole file
abbrev pub empty_rule : List ℕ → ℕ
empty_rule file =
    let at : ℕ = past_comments false 0 file in
    empty_behind file at (header (drop at file))
