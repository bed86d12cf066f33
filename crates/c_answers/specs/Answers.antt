-- The reply of a call as the struct that C takes.
use Rattle.std.specs.Prelude.{[], ◌∷◌, Result, Ok, Err}
use Rattle.refusal.specs.declared.Refusal.{Refusal}
use Rattle.refusal.specs.Reply.{Reply, refusing, answering}
use Rattle.c_answers.specs.declared.Answer.{Answer}

-- On a refusal document 01's number and place, and otherwise 0; on an answer its verdict and its three values, with no refusal and no place. A refusal of 0 always tells an answer: no call is refused with the number 0 (`Told`, in crate c_answer_meaning).
abbrev pub answer_of : Reply → Answer
answer_of (refusing r) = record { refusal = r.number; place = r.place; verdict = 0; value = 0 ∷ 0 ∷ 0 ∷ [] }
answer_of (answering verdict a b c) = record { refusal = 0; place = 0; verdict = verdict; value = a ∷ b ∷ c ∷ [] }

-- the reply of a call that is refused, or gives what has such a reply
abbrev pub reply_by : {A : Type 0} → (A → Reply) → Result A Refusal → Reply
reply_by reply (Err r) = refusing r
reply_by reply (Ok given) = reply given
