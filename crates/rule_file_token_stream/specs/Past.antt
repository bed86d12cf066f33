-- Where a stream of tokens stands behind its first one.
use Rattle.std.specs.Prelude.{ℕ, Option, None, Some, Result, Ok, Err}
use Rattle.rule_file_tokens.specs.declared.Element.{Element}
use Rattle.rule_file_tokens.specs.declared.Malformed.{Malformed}

-- "from a kept offset": past a number of the list, and where it stood if none comes
abbrev pub past : Result (Option Element) Malformed → ℕ → ℕ
past (Ok (Some element)) at = element.next
past (Ok None) at = at
past (Err malformed) at = at
