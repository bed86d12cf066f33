-- The equations by which proofs find the tokens of a file.
use Rattle.std.specs.Prelude.{◌≡◌, Bool, true, false, List, [], ◌∷◌, ℕ, ◌+◌, ◌≤◌, ◌<◌, length, drop}
use Rattle.rule_file.specs.Tokens.{leading, in_token, Token, Position, line_start, between, within, comment, tokens_from}

-- where a token may begin
abbrev pub may_begin : Position → Bool
may_begin line_start = true
may_begin between = true
may_begin within = false
may_begin comment = false

-- What is known of the first of the tokens from an offset on, and of those behind it.
pub record First (s : List ℕ) (i : ℕ) (t : Token) (ts : List Token) : Type 0 where
  pub later : i ≤ t.place
  pub run : t.bytes ≡ leading in_token (drop t.place s)
  pub some : 0 < length t.bytes
  pub inside : t.place + length t.bytes ≤ length s
  pub rest : ts ≡ tokens_from s (t.place + length t.bytes)

abbrev pub Shaped : List ℕ → ℕ → List Token → Type 0
Shaped s i [] = Unit {0}
Shaped s i (t ∷ ts) = First s i t ts
