-- The comment lines before the header, in a file that begins with whole lines.
use Rattle.std.specs.Prelude.{◌≡◌, Bool, true, false, not, List, ◌++◌, ℕ, ◌+◌, ◌<◌, length, drop}
use Rattle.rule_file.specs.Format.{past_comments}
use Rattle.rule_file_comments.specs.Lines.{ends_line}

-- Whole lines at the front of a file, the first byte at a place: each of them is a comment, or one is not, and then whole lines begin with it.
abbrev pub Passes : Bool → ℕ → List ℕ → Type 0
Passes inside at front = (x : List ℕ) → past_comments inside at (front ++ x) ≡ past_comments false (at + length front) x

pub record Stops (inside : Bool) (at : ℕ) (front : List ℕ) : Type 0 where
  pub offset : ℕ
  pub before : offset < length front
  pub place : (x : List ℕ) → past_comments inside at (front ++ x) ≡ at + offset
  pub ends : ends_line false (drop offset front) ≡ true
