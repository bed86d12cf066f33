-- The two routes of document 01 ("Rewriting into plain rules"), each from the definitions of the calls that it makes. The function `second_route` takes the second; the first is the wish search itself.
use Rattle.std.specs.Prelude.{◌≡◌, List, ℕ, ℤ, length, take}
use Rattle.refusal.specs.Reply.{Reply, refusing, answering}
use Rattle.search_meaning.specs.Searches.{search_reply, plain_reply, nearest_reply}
use Rattle.totalizer_encoding.specs.Rewrite.{rewrite_reply, rewrite_output}
use Rattle.rule_file_writer.specs.Write.{write_reply, write_output}
use Rattle.rule_file_reader.specs.Read.{read_reply, read_output}

-- the next call, on the numbers of an answer; a refusal is the whole route's reply
abbrev pub on_answer : Reply → (ℕ → ℕ → ℕ → ℕ → Reply) → Reply
on_answer (refusing r) next = refusing r
on_answer (answering v x y z) next = next v x y z

-- "The first route gives n, the list, the row and d to the wish search." The last argument is the choice that is lent.
abbrev pub first_route : ℕ → List ℤ → List ℕ → ℕ → List ℕ → Reply
first_route n rules row d choice = search_reply n rules row d (length choice)

-- what is lent along the second route, of any length and with any contents: for the rewritten list, the written file, the list that is read, and the choice
pub record Buffers : Type 0 where
  pub rewritten : List ℤ
  pub file : List ℕ
  pub list : List ℤ
  pub choice : List ℕ

abbrev pub in_buffers : List ℤ → List ℕ → List ℤ → List ℕ → Buffers
in_buffers rewritten file list choice = record { rewritten = rewritten; file = file; list = list; choice = choice }

-- The second route, from its last call to its first. "Each call takes exactly what the one before it returned or left in the part it filled": the numbers of its answer, and as much from the front of the lent buffer as the answer says.

-- "then the number of settings and the list that were read to plain search"
abbrev pub from_search : Buffers → ℕ → List ℤ → Reply
from_search b n list = plain_reply n list (length b.choice)

-- "then the written file to the reader"
abbrev pub from_reader : Buffers → List ℕ → Reply
from_reader b file =
    on_answer
    (read_reply file (length b.list))
    (λ (v n c size : ℕ). from_search b n (take size (read_output file b.list)))

-- "then the rewritten list and its number of settings to the writer"
abbrev pub from_writer : Buffers → ℕ → List ℤ → Reply
from_writer b n list =
    on_answer
    (write_reply n list (length b.file))
    (λ (v size y z : ℕ). from_reader b (take size (write_output n list b.file)))

-- "The second gives the same four to rewriting"
abbrev pub second_route : ℕ → List ℤ → List ℕ → ℕ → Buffers → Reply
second_route n rules row d b =
    on_answer
    (rewrite_reply n rules row d (length b.rewritten))
    (λ (v variables size z : ℕ). from_writer b variables (take size (rewrite_output n rules row d b.rewritten)))

-- "Nearest takes the same n, list and row." The last argument is the choice that is lent.
abbrev pub nearest_route : ℕ → List ℤ → List ℕ → List ℕ → Reply
nearest_route n rules row choice = nearest_reply n rules row (length choice)

-- a reply that is no refusal
abbrev pub Answered : Reply → Type 0
Answered (refusing r) = ⊥
Answered (answering v x y z) = Unit {0}

-- an answer, or a refusal with 15
abbrev pub Passes : Reply → Type 0
Passes (refusing r) = r.number ≡ 15
Passes (answering v x y z) = Unit {0}
