-- What the second pass goes by: the first one found the tokens good.
use Rattle.std.specs.Prelude.{◌≡◌, List, ℕ, ◌≤◌, None}
use Rattle.limits.specs.Limits.{max_variables, max_clauses}
use Rattle.rule_list.specs.Sound.{unread}
use Rattle.rule_file.specs.Format.{bad_tokens}
use Rattle.rule_file.specs.Tokens.{Token}

-- for a file of n variables, c clauses and so many bytes
pub record FoundGood (ts : List Token) : Type 0 where
  pub n : ℕ
  pub c : ℕ
  pub size : ℕ
  pub variables : n ≤ max_variables
  pub clauses : c ≤ max_clauses
  pub good : bad_tokens n c size unread ts ≡ None
