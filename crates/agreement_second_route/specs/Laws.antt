-- The second route, call by call: what a call that answered has filled, and where the route goes from there.
use Rattle.std.specs.Prelude.{◌≡◌, refl, List, ℕ, ◌≤◌, ℤ, length, take, drop, Option, None, Some}
use Rattle.std.proofs.Common.{arith, length-append}
use Rattle.refusal.specs.declared.Refusal.{Refusal}
use Rattle.refusal.specs.Reply.{Reply, refusing, answering, unless, too_short, filled}
use Rattle.refusal_causes.specs.Lent.{refusal_of}
use Rattle.rule_file.specs.Format.{Reading, refuses, gives, reading}
use Rattle.rule_file.specs.Written.{written}
use Rattle.totalizer.specs.Totalizer.{rewritten}
use Rattle.totalizer_encoding.specs.Rewrite.{lent_to_rewrite, rewrite_reply, rewrite_output}
use Rattle.rule_file_writer.specs.Write.{lent_to_write, write_reply, write_output}
use Rattle.rule_file_reader.specs.Read.{replying, leaving, read_reply, read_output}
use Rattle.search_meaning.specs.Searches.{plain_reply, plain_choice}
use Rattle.agreement_second_route.specs.Left.{choice_from_reader, list_from_writer, choice_from_writer, second_leaves}
use Rattle.agreement_second_route.specs.Routes.{Buffers, in_buffers, from_reader, from_writer, second_route}

-- A call that answered has filled as much of its buffer as its answer says.
no_refusal : (o : Option Refusal) (answer : Reply) (v x y z : ℕ) → answering v x y z ≡ unless o answer → (o ≡ None) × (answering v x y z ≡ answer)
no_refusal None answer v x y z e = (refl, e)
no_refusal (Some r) answer v x y z e = let z : ◌≡◌ {A = ℕ} 0 1 = cc in absurd (omega arith)

module _ {ℓ} {A : Type ℓ} (result out : List A) where
  whole : (o : Option Refusal) → o ≡ None → length result ≤ length (filled o result out)
  whole o e = rw e (omega (arith, length-append result (drop (length result) out)))

pub rewritten_inside : (n : ℕ) (rules : List ℤ) (row : List ℕ) (d : ℕ) (out : List ℤ) (variables size : ℕ)
    → answering 1 variables size 0 ≡ rewrite_reply n rules row d (length out) → size ≤ length (rewrite_output n rules row d out)
rewritten_inside n rules row d out variables size e =
    let o = refusal_of (lent_to_rewrite n rules row d (length out)) in
    let (p, q) = no_refusal o _ 1 variables size 0 e in
    let same : size ≡ length (rewritten n rules row d) = cc in
    omega (arith, whole (rewritten n rules row d) out o p)

pub written_inside : (n : ℕ) (rules : List ℤ) (out : List ℕ) (size : ℕ)
    → answering 1 size 0 0 ≡ write_reply n rules (length out) → size ≤ length (write_output n rules out)
written_inside n rules out size e =
    let o = refusal_of (lent_to_write n rules (length out)) in
    let (p, q) = no_refusal o _ 1 size 0 0 e in
    let same : size ≡ length (written n rules) = cc in
    omega (arith, whole (written n rules) out o p)

pub read_inside : (file : List ℕ) (out : List ℤ) (n c size : ℕ) → answering 1 n c size ≡ read_reply file (length out) → size ≤ length (read_output file out)
read_inside file out n c size e = go (reading file) e
  where
    go : (g : Reading) → answering 1 n c size ≡ replying g (length out) → size ≤ length (leaving g out)
    go (refuses r) e = let z : ◌≡◌ {A = ℕ} 0 1 = cc in absurd (omega arith)
    go (gives m k list) e =
        let o = too_short (length list) (length out) in
        let (p, q) = no_refusal o _ 1 n c size e in
        let same : size ≡ length list = cc in
        omega (arith, whole list out o p)

-- From each call on: it is refused, and that is the end; or it answers, and the next call has the part that it filled.
module _ (b : Buffers) (file : List ℕ) where
  pub reader_refused : (r : Refusal) → refusing r ≡ read_reply file (length b.list)
      → (refusing r ≡ from_reader b file) × (b.choice ≡ choice_from_reader b file)
  reader_refused r e = rw (← e) (refl, refl)

  pub reader_answered : (n c size : ℕ) → answering 1 n c size ≡ read_reply file (length b.list)
      → (list : List ℤ) → list ≡ read_output file b.list
      → (reply : Reply) (choice : List ℕ) → reply ≡ plain_reply n (take size list) (length b.choice) → choice ≡ plain_choice n (take size list) b.choice
      → (reply ≡ from_reader b file) × (choice ≡ choice_from_reader b file)
  reader_answered n c size e list f reply choice g h = rw (← e, ← f) (g, h)

module _ (b : Buffers) (n : ℕ) (rules : List ℤ) where
  pub writer_refused : (r : Refusal) → refusing r ≡ write_reply n rules (length b.file)
      → (refusing r ≡ from_writer b n rules) × (b.list ≡ list_from_writer b n rules) × (b.choice ≡ choice_from_writer b n rules)
  writer_refused r e = rw (← e) (refl, refl, refl)

  pub writer_answered : (size : ℕ) → answering 1 size 0 0 ≡ write_reply n rules (length b.file)
      → (file : List ℕ) → file ≡ write_output n rules b.file
      → (reply : Reply) (list : List ℤ) (choice : List ℕ)
      → reply ≡ from_reader b (take size file) → list ≡ read_output (take size file) b.list → choice ≡ choice_from_reader b (take size file)
      → (reply ≡ from_writer b n rules) × (list ≡ list_from_writer b n rules) × (choice ≡ choice_from_writer b n rules)
  writer_answered size e file f reply list choice g h i = rw (← e, ← f) (g, h, i)

-- buffers that are the same one by one
all_same : {b : Buffers} {rewritten list : List ℤ} {file choice : List ℕ} → rewritten ≡ b.rewritten → file ≡ b.file → list ≡ b.list → choice ≡ b.choice
    → in_buffers rewritten file list choice ≡ b
all_same e f g h = rw (e, f, g, h)

module _ (n : ℕ) (rules : List ℤ) (row : List ℕ) (d : ℕ) (b : Buffers) where
  -- the reply of the whole route, and what it leaves
  abbrev Route : Reply → List ℤ → List ℕ → List ℤ → List ℕ → Type 0
  Route reply out file list choice = (reply ≡ second_route n rules row d b) × (in_buffers out file list choice ≡ second_leaves n rules row d b)

  pub rewriting_refused_lem : (r : Refusal) → refusing r ≡ rewrite_reply n rules row d (length b.rewritten)
      → (out : List ℤ) → out ≡ rewrite_output n rules row d b.rewritten → Route (refusing r) out b.file b.list b.choice
  rewriting_refused_lem r e out f = rw (← e, ← f) (refl, refl)

  pub rewriting_answered : (m size : ℕ) → answering 1 m size 0 ≡ rewrite_reply n rules row d (length b.rewritten)
      → (out : List ℤ) → out ≡ rewrite_output n rules row d b.rewritten
      → (reply : Reply) (file : List ℕ) (list : List ℤ) (choice : List ℕ)
      → reply ≡ from_writer b m (take size out) → file ≡ write_output m (take size out) b.file → list ≡ list_from_writer b m (take size out) → choice ≡ choice_from_writer b m (take size out)
      → Route reply out file list choice
  rewriting_answered m size e out f reply file list choice g h i j = rw (← e, ← f) (g, all_same refl h i j)
