-- The equations by which proofs look for the first clause without literals, token by token.
use Rattle.std.specs.Prelude.{Bool, List, ℕ, length}
use Rattle.rule_file.specs.Tokens.{tokens_from}
use Rattle.program_empty_rule.specs.Empty.{empty_among}

-- from an offset of a file on
abbrev pub empty_from : Bool → List ℕ → ℕ → ℕ
empty_from filled file at = empty_among filled (length file) (tokens_from file at)
