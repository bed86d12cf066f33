-- The tokens of a rule file (document 01, "The rule file"): "After it come tokens (runs of bytes that are not blank; blank is 9, 10, 13 or 32)." Comment lines among them are skipped (document 02, L1, "Remarks between the rules"): "A line beginning with `c` is now skipped anywhere after the header too." Tokens are found byte by byte, by where each byte stands.
use Rattle.std.specs.Prelude.{Bool, true, false, cond, not, ◌&&◌, List, [], ◌∷◌, ℕ, zero, suc, eqb, get_or, drop}
use Rattle.rule_file.specs.Class.{blank, letter_c, class_of}

-- the bytes that pass a test, up to the first that does not
abbrev pub leading : (ℕ → Bool) → List ℕ → List ℕ
leading p [] = []
leading p (b ∷ s) = cond (p b) (b ∷ leading p s) []

-- a blank between tokens, and a byte of one
abbrev pub is_gap : ℕ → Bool
is_gap b = eqb (class_of b) blank

abbrev pub in_token : ℕ → Bool
in_token b = not (is_gap b)

-- a token's bytes, and the place of the first
pub record Token : Type 0 where
  pub place : ℕ
  pub bytes : List ℕ

-- where a byte stands: first in its line, behind a blank of its line, behind a byte of a token, or in a comment line behind its `c`
pub data Position : Type 0 where
  line_start : Position
  between : Position
  within : Position
  comment : Position

abbrev pub is_within : Position → Bool
is_within line_start = false
is_within between = false
is_within within = true
is_within comment = false

-- "A line beginning with `c`": only a line's first byte makes its line a comment. "A `c` inside a line still makes a malformed token."
abbrev pub opens_comment : Position → ℕ → Bool
opens_comment line_start b = eqb (class_of b) letter_c
opens_comment between b = false
opens_comment within b = false
opens_comment comment b = false

-- where the byte behind b stands, b being a blank or a byte of a token
abbrev pub past_byte : ℕ → Position
past_byte b = cond (eqb b 10) line_start (cond (is_gap b) between within)

-- Where the byte behind b stands, b standing at p. A comment line runs "to a line feed or the end of the file" (document 01), and only a line feed begins a line.
abbrev pub step : Position → ℕ → Position
step line_start b = cond (opens_comment line_start b) comment (past_byte b)
step between b = past_byte b
step within b = past_byte b
step comment b = cond (eqb b 10) line_start comment

-- a token begins at a byte that goes on with no other token, and is one's itself
abbrev pub begins : Position → ℕ → Bool
begins p b = not (is_within p) && is_within (step p b)

-- a token in front of others, where one begins
abbrev pub starting : Bool → Token → List Token → List Token
starting true t ts = t ∷ ts
starting false t ts = ts

-- the tokens of some bytes, in order; the first byte stands at p, and at a place
abbrev pub tokens : Position → ℕ → List ℕ → List Token
tokens p at [] = []
tokens p at (b ∷ s) = starting (begins p b) (record { place = at; bytes = b ∷ leading in_token s }) (tokens (step p b) (suc at) s)

-- where the byte at a kept offset stands, which is past the header or a whole token: first in its line behind a line feed (and at the file's beginning). Behind a token the byte is blank, or the file ends, so that `between` is as good as `within` there. No kept offset is in a comment.
abbrev pub position_at : List ℕ → ℕ → Position
position_at file zero = line_start
position_at file (suc k) = cond (eqb (get_or file k 0) 10) line_start between

-- "from a kept offset": the tokens of a file from there on
abbrev pub tokens_from : List ℕ → ℕ → List Token
tokens_from file at = tokens (position_at file at) at (drop at file)
