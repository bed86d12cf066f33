-- The rule file's two calls, one after the other (document 01, "The rule file"): "Every sound list, written and read, is that list again".
use Rattle.std.specs.Prelude.{◌≡◌, List, ◌++◌, ℕ, ◌≤◌, ℤ, length, take, drop, None}
use Rattle.std.proofs.Common.{ap, ◌∙◌, le-ltb}
use Rattle.std.proofs.Math.Seq.{take-append_seam}
use Rattle.formula.specs.Formula.{clauses}
use Rattle.refusal.specs.Reply.{answering}
use Rattle.refusal_causes.specs.Admitted.{unrefused}
use Rattle.refusal_causes.specs.Lent.{plain_problem, refusal_of}
use Rattle.rule_file.specs.Format.{gives, reading}
use Rattle.rule_file.proofs.RoundTrip.{read_written}
use Rattle.rule_file.specs.Written.{written}
use Rattle.rule_file_writer.specs.Write.{lent_to_write, write_output}
use Rattle.rule_file_reader.specs.Read.{read_reply, read_output}

module _ (n : ℕ) (l : List ℤ) (file : List ℕ) (taken : refusal_of (lent_to_write n l (length file)) ≡ None) where
  -- the part of the lent bytes that the writer filled
  abbrev pub part : List ℕ
  part = take (length (written n l)) (write_output n l file)

  is_file : part ≡ written n l
  is_file = rw (taken) (take-append_seam (written n l) (drop (length (written n l)) file))

  -- what the writer wrote reads as what it was given
  pub read_back : reading part ≡ gives n (length (clauses l)) l
  read_back =
      let (ok, room) = unrefused (plain_problem n l) (length (written n l)) (length file) taken in
      ap reading is_file ∙ read_written n l ok.positive ok.most ok.sound_rules

  -- so the reader answers with these numbers, and leaves that list, where it was lent the room
  module _ (out : List ℤ) (room : length l ≤ length out) where
    pub reply_back : read_reply part (length out) ≡ answering 1 n (length (clauses l)) (length l)
    reply_back = rw (read_back, le-ltb (length out) (length l) room)

    pub output_back : read_output part out ≡ l ++ drop (length l) out
    output_back = rw (read_back, le-ltb (length out) (length l) room)
