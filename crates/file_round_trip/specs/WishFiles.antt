-- The wish file's two calls, the reader first (document 01, "The wish file"). Every accepted file is in the writer's form, so each, read and written, is that file.
use Rattle.std.specs.Prelude.{◌≡◌, refl, List, ◌++◌, ℕ, ◌≤◌, length, take, drop, Option, None, Some}
use Rattle.std.proofs.Common.{sym, ap, ◌∙◌, arith, take_at}
use Rattle.refusal.specs.declared.Refusal.{Refusal}
use Rattle.refusal.specs.Reply.{answering, unless, too_short, filled}
use Rattle.refusal.specs.Laws.{room_enough}
use Rattle.refusal_causes.specs.Lent.{wishes_alone, refusal_of}
use Rattle.refusal_causes.specs.Admitted.{alone_admitted, admitted_room}
use Rattle.wish_file.specs.Format.{Reading, refuses, gives, written, reading}
use Rattle.wish_file.specs.RoundTrip.{Accepted}
use Rattle.wish_file.proofs.RoundTrip.{accepted}
use Rattle.wish_file_writer.specs.Write.{lent_to_write, write_reply, write_output}
use Rattle.wish_file_reader.specs.Read.{read_reply, read_output}

-- what a call that answered has filled is its result
filled_front : (o : Option Refusal) (row out : List ℕ) (v x y z n m d : ℕ) → length row ≡ n → unless o (answering 1 n m d) ≡ answering v x y z
    → (x ≡ n) × (z ≡ d) × (take x (filled o row out) ≡ row)
filled_front None row out v x y z n m d size e =
    let same : x ≡ n = cc in
    (same, (cc), take_at row (drop (length row) out) x (size ∙ sym same))
filled_front (Some r) row out v x y z n m d size e = let z : ◌≡◌ {A = ℕ} 0 1 = cc in absurd (omega arith)

module _ (file out : List ℕ) where
  -- the writer answers with the file's length, and leaves the file
  abbrev pub WritesFile : ℕ → List ℕ → ℕ → Type 0
  WritesFile n row d = (write_reply n row d (length out) ≡ answering 1 (length file) 0 0) × (write_output n row d out ≡ file ++ drop (length file) out)

  -- so it does with what an accepted file reads as
  module _ (room : length file ≤ length out) (n m d : ℕ) (row : List ℕ) (a : Accepted file n m d row) where
    unrefused : refusal_of (lent_to_write n row d (length out)) ≡ None
    unrefused =
        let space : length (written n row d) ≤ length out = omega (arith, ap length a.same) in
        admitted_room (wishes_alone n row d) (length (written n row d)) (length out) (alone_admitted n row d a.least a.most a.limit a.sound a.size)
        ∙ room_enough (length (written n row d)) (length out) space

    writes : WritesFile n row d
    writes = rw (unrefused) (
      ap (λ (s : List ℕ). answering 1 (length s) 0 0) (sym a.same),
      ap (λ (s : List ℕ). s ++ drop (length s) out) (sym a.same),
    )

-- a file that the reader takes
module _ (file row : List ℕ) (v n m d : ℕ) (taken : read_reply file (length row) ≡ answering v n m d) where
  -- the part of the lent row that the reader filled
  abbrev pub part : List ℕ
  part = take n (read_output file row)

  -- the writer, given that and lent room for the file, makes the file
  pub written_again : (out : List ℕ) → length file ≤ length out → WritesFile file out n part d
  written_again out room = go (reading file) refl
    where
      go : (g : Reading) → reading file ≡ g → WritesFile file out n part d
      go (refuses r) e = let z : ◌≡◌ {A = ℕ} 0 1 = cc (rw (e) at taken) in absurd (omega arith)
      go (gives n' m' d' row') e =
          let a = accepted file n' m' d' row' e in
          let same = filled_front (too_short n' (length row)) row' row v n m d n' m' d' a.size (rw (e) at taken) in
          rw (e, same.2, same.0, same.1) (writes file out room n' m' d' row' a)
