-- What is known of a file that reading accepts, and of one in the writer's form: "a file in the writer's form, read and written, is that file" (document 01, "The rule file").
use Rattle.std.specs.Prelude.{◌≡◌, true, false, List, ℕ, ◌+◌, ◌≤◌, ◌<◌, ℤ, length, drop, None, Some}
use Rattle.literal.specs.Literal.{variable}
use Rattle.formula.specs.Formula.{clauses}
use Rattle.limits.specs.Limits.{max_variables, max_clauses}
use Rattle.rule_list.specs.Sound.{SoundList, Scan, unread, stands}
use Rattle.rule_file.specs.Format.{past_comments, header, outside, repeats, bad_tokens, rules_of}
use Rattle.rule_file.specs.Tokens.{Token, tokens_from}

-- A token that is not refused is a number over the n variables, in a file with clauses to come; unless it is a repeat, it may come next.
pub record Next (n c : ℕ) (s : Scan) (x : ℤ) : Type 0 where
  pub below : s.clauses < c
  pub inside : variable x ≤ n
  pub new : repeats s x ≡ false → stands n s x ≡ true

-- what is known of a file that reading accepts
pub record Accepted (n c : ℕ) (l : List ℤ) : Type 0 where
  pub least : 1 ≤ n
  pub most : n ≤ max_variables
  pub few : c ≤ max_clauses
  pub sound : SoundList n l
  pub count : c ≡ length (clauses l)

-- the tokens past a header of so many bytes
abbrev pub past_header : List ℕ → ℕ → List Token
past_header file size =
    let next : ℕ = past_comments false 0 file + size in
    tokens_from file next

-- its header and its tokens
pub record Parts (file : List ℕ) (n c : ℕ) (l : List ℤ) : Type 0 where
  pub size : ℕ
  pub head : header (drop (past_comments false 0 file) file) ≡ Some (record { variables = n; clauses = c; size = size })
  pub range : outside n c ≡ false
  pub good : bad_tokens n c (length file) unread (past_header file size) ≡ None
  pub gave : l ≡ rules_of (past_header file size)
