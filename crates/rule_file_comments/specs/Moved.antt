-- Tokens that stand elsewhere read alike: only the place of a refusal moves with them.
use Rattle.std.specs.Prelude.{List, map, ℕ}
use Rattle.rule_file.specs.Tokens.{Token}
use Rattle.rule_file_comments.specs.Lines.{moved}

-- tokens and causes whose places so moved
abbrev pub moved_token : ℕ → ℕ → Token → Token
moved_token from by t = record { place = moved from by t.place; bytes = t.bytes }

abbrev pub moved_tokens : ℕ → ℕ → List Token → List Token
moved_tokens from by ts = map (moved_token from by) ts
