-- What the second route leaves in the buffers that it was lent: each is as its own call leaves it, or as it was lent where the route ended before that call (document 01, "Refusals": a refusal leaves the lent output as it was).
use Rattle.std.specs.Prelude.{List, ℕ, ℤ, length, take}
use Rattle.refusal.specs.Reply.{Reply, refusing, answering}
use Rattle.search_meaning.specs.Searches.{plain_choice}
use Rattle.totalizer_encoding.specs.Rewrite.{rewrite_reply, rewrite_output}
use Rattle.rule_file_writer.specs.Write.{write_reply, write_output}
use Rattle.rule_file_reader.specs.Read.{read_reply, read_output}
use Rattle.agreement_second_route.specs.Routes.{Buffers}

-- a buffer as the next call leaves it, on the numbers of an answer; after a refusal there is no next call
abbrev pub left_by {ℓ} : {A : Type ℓ} → A → Reply → (ℕ → ℕ → ℕ → ℕ → A) → A
left_by lent (refusing r) next = lent
left_by lent (answering v x y z) next = next v x y z

-- from the reader on
abbrev pub choice_from_reader : Buffers → List ℕ → List ℕ
choice_from_reader b file =
    left_by b.choice
    (read_reply file (length b.list))
    (λ (v n c size : ℕ). plain_choice n (take size (read_output file b.list)) b.choice)

-- from the writer on
module _ (b : Buffers) (n : ℕ) (rules : List ℤ) where
  abbrev from_written {ℓ} : {A : Type ℓ} → A → (List ℕ → A) → A
  from_written lent next =
      left_by lent (write_reply n rules (length b.file)) (λ (v size y z : ℕ). next (take size (write_output n rules b.file)))

  abbrev pub list_from_writer : List ℤ
  list_from_writer = from_written b.list (λ (file : List ℕ). read_output file b.list)

  abbrev pub choice_from_writer : List ℕ
  choice_from_writer = from_written b.choice (choice_from_reader b)

-- from the first call on
module _ (n : ℕ) (rules : List ℤ) (row : List ℕ) (d : ℕ) (b : Buffers) where
  abbrev from_rewritten {ℓ} : {A : Type ℓ} → A → (ℕ → List ℤ → A) → A
  from_rewritten lent next =
      left_by lent
      (rewrite_reply n rules row d (length b.rewritten))
      (λ (v variables size z : ℕ). next variables (take size (rewrite_output n rules row d b.rewritten)))

  -- all four buffers after the second route
  abbrev pub second_leaves : Buffers
  second_leaves =
      record {
        rewritten = rewrite_output n rules row d b.rewritten;
        file = from_rewritten b.file (λ (m : ℕ) (list : List ℤ). write_output m list b.file);
        list = from_rewritten b.list (list_from_writer b);
        choice = from_rewritten b.choice (choice_from_writer b);
      }
