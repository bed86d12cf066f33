-- The wish file's two calls, one after the other (document 01, "The wish file").
use Rattle.std.specs.Prelude.{◌≡◌, List, ◌++◌, ℕ, ◌≤◌, length, take, drop, None}
use Rattle.std.proofs.Common.{sym, ap, ◌∙◌, le-ltb}
use Rattle.std.proofs.Math.Seq.{take-append_seam}
use Rattle.wish.specs.Wish.{wish_count}
use Rattle.refusal.specs.Reply.{answering}
use Rattle.refusal_causes.specs.Lent.{refusal_of, wishes_alone}
use Rattle.refusal_causes.specs.Admitted.{Admitted, unrefused}
use Rattle.wish_file.specs.Format.{written, gives, reading}
use Rattle.wish_file.proofs.RoundTrip.{read_written}
use Rattle.wish_file_writer.specs.Write.{lent_to_write, write_output}
use Rattle.wish_file_reader.specs.Read.{read_reply, read_output}

module _ (n : ℕ) (row : List ℕ) (d : ℕ) (file : List ℕ) (taken : refusal_of (lent_to_write n row d (length file)) ≡ None) where
  -- the part of the lent bytes that the writer filled
  abbrev pub part : List ℕ
  part = take (length (written n row d)) (write_output n row d file)

  is_file : part ≡ written n row d
  is_file = rw (taken) (take-append_seam (written n row d) (drop (length (written n row d)) file))

  fits : Admitted (wishes_alone n row d)
  fits = (unrefused (wishes_alone n row d) (length (written n row d)) (length file) taken).0

  size : length row ≡ n
  size = fits.long_row

  -- what the writer wrote reads as what it was given
  pub read_back : reading part ≡ gives n (wish_count row) d row
  read_back = ap reading is_file ∙ read_written n row d fits.positive fits.small.variables size fits.sound_row fits.limited

  -- so the reader answers with these numbers, and leaves that row, where it was lent the room
  module _ (out : List ℕ) (room : n ≤ length out) where
    pub reply_back : read_reply part (length out) ≡ answering 1 n (wish_count row) d
    reply_back = rw (read_back, le-ltb (length out) n room)

    pub output_back : read_output part out ≡ row ++ drop n out
    output_back = rw (read_back, le-ltb (length out) n room, sym size)
