-- The reader's call on a file that it accepts: a comment line put in at any line's beginning leaves its reply as it was, and what it leaves in the lent list.
use Rattle.std.specs.Prelude.{◌≡◌, List, ℕ, ℤ}
use Rattle.rule_file_reader.specs.Read.{read_reply, read_output}

-- the call is the same on two files, whatever it is lent for the list
pub record SameCall (file file' : List ℕ) : Type 0 where
  pub reply : (room : ℕ) → read_reply file room ≡ read_reply file' room
  pub output : (out : List ℤ) → read_output file out ≡ read_output file' out
