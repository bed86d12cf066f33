-- The reply of a search loses nothing of its answer.
use Rattle.std.specs.Prelude.{◌≡◌, refl, ℕ, zero, suc, Option, None, Some, Result, Ok, Err}
use Rattle.refusal.specs.declared.Refusal.{Refusal}
use Rattle.refusal.specs.Reply.{Reply, refusing, answering}
use Rattle.search_meaning.specs.Answers.{reply_of}

-- The numbers of an answer give the answer back: no two answers of a search have the same reply.
abbrev pub from_reply : Reply → Result (Option ℕ) Refusal
from_reply (refusing r) = Err r
from_reply (answering zero k y z) = Ok None
from_reply (answering (suc v) k y z) = Ok (Some k)

pub reply_exact : (a : Result (Option ℕ) Refusal) → from_reply (reply_of a) ≡ a
reply_exact (Err r) = refl
reply_exact (Ok (Some broken)) = refl
reply_exact (Ok None) = refl
