-- The rule file's two calls, the reader first (document 01, "The rule file"): "a file in the writer's form, read and written, is that file".
use Rattle.std.specs.Prelude.{◌≡◌, refl, List, ◌++◌, ℕ, ◌≤◌, ℤ, length, take, drop, Option, None, Some}
use Rattle.std.proofs.Common.{sym, ap, ◌∙◌, arith}
use Rattle.std.proofs.Math.Seq.{take-append_seam}
use Rattle.refusal.specs.declared.Refusal.{Refusal}
use Rattle.refusal.specs.Reply.{answering, unless, too_short, filled}
use Rattle.refusal.specs.Laws.{room_enough}
use Rattle.refusal_causes.specs.Lent.{plain_problem, refusal_of}
use Rattle.refusal_causes.specs.Admitted.{plain_admitted, admitted_room}
use Rattle.rule_list.specs.Sound.{unread}
use Rattle.rule_file.proofs.Accepted.{accepted, written_read}
use Rattle.rule_file.specs.Format.{stored, Reading, refuses, gives, reading}
use Rattle.rule_file.specs.Written.{written}
use Rattle.rule_file_writer.specs.Write.{lent_to_write, write_reply, write_output}
use Rattle.rule_file_reader.specs.Read.{read_reply, read_output}
use Rattle.file_round_trip.specs.Rules as rules

-- what a call that answered has filled is its result
filled_front : (o : Option Refusal) (list out : List ℤ) (v x y z n c : ℕ) → unless o (answering 1 n c (length list)) ≡ answering v x y z
    → (x ≡ n) × (take z (filled o list out) ≡ list)
filled_front None list out v x y z n c e =
    let size : length list ≡ z = cc in
    ((cc), rw (← size) (take-append_seam list (drop (length list) out)))
filled_front (Some r) list out v x y z n c e = let z : ◌≡◌ {A = ℕ} 0 1 = cc in absurd (omega arith)

-- the writer takes what a file reads as, where it was lent the room
unrefused : (file out : List ℕ) (n c : ℕ) (l : List ℤ) → reading file ≡ gives n c l → length (written n l) ≤ length out → refusal_of (lent_to_write n l (length out)) ≡ None
unrefused file out n c l read room =
    let a = accepted file n c l read in
    admitted_room (plain_problem n l) (length (written n l)) (length out) (plain_admitted n l a.least a.most a.sound)
    ∙ room_enough (length (written n l)) (length out) room

module _ (file out : List ℕ) where
  -- the writer answers with the file's length, and leaves the file
  abbrev pub WritesFile : ℕ → List ℤ → Type 0
  WritesFile n l = (write_reply n l (length out) ≡ answering 1 (length file) 0 0) × (write_output n l out ≡ file ++ drop (length file) out)

  -- so it does with what a file in its form reads as
  module _ (room : length file ≤ length out) (n c : ℕ) (l : List ℤ) (read : reading file ≡ gives n c l) (form : written n l ≡ file) where
    writes : WritesFile n l
    writes = rw (unrefused file out n c l read (omega (arith, ap length form))) (
      ap (λ (s : List ℕ). answering 1 (length s) 0 0) form,
      ap (λ (s : List ℕ). s ++ drop (length s) out) form,
    )

-- a file in the writer's form, whatever it was written from, if no rule repeats an entry, that the reader takes
module _ (n₀ : ℕ) (l₀ : List ℤ) (file : List ℕ) (form : file ≡ written n₀ l₀) (once : stored unread l₀ ≡ l₀) (list : List ℤ) (v n c size : ℕ) (taken : read_reply file (length list) ≡ answering v n c size) where
  -- the part of the lent list that the reader filled
  abbrev pub part : List ℤ
  part = take size (read_output file list)

  -- the writer, given that and lent room for the file, makes the file
  pub written_again : (out : List ℕ) → length file ≤ length out → WritesFile file out n part
  written_again out room = go (reading file) refl
    where
      go : (g : Reading) → reading file ≡ g → WritesFile file out n part
      go (refuses r) e = let z : ◌≡◌ {A = ℕ} 0 1 = cc (rw (e) at taken) in absurd (omega arith)
      go (gives m k l) e =
          let same = filled_front (too_short (length l) (length list)) l list v n c size m k (rw (e) at taken) in
          rw (e, same.0, same.1) (writes file out room m k l e (written_read n₀ l₀ file form once m k l e))

-- The rules of any file that reading accepts come back, though not always its bytes (document 02, L1): "files with remarks no longer come back byte for byte; their rules do". So do those of a file with repeats (L3). What the writer makes of them reads as the file does.
pub rules_return : (file out : List ℕ) (n c : ℕ) (l : List ℤ) → reading file ≡ gives n c l → length (written n l) ≤ length out
    → reading (take (length (written n l)) (write_output n l out)) ≡ reading file
rules_return file out n c l read room =
    let a = accepted file n c l read in
    rules.read_back n l out (unrefused file out n c l read room) ∙ ap (λ (k : ℕ). gives n k l) (sym a.count) ∙ sym read
