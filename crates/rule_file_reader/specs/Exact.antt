-- The reply of the call loses nothing of its answer.
use Rattle.std.specs.Prelude.{◌≡◌, refl, Result, Ok, Err}
use Rattle.refusal.specs.declared.Refusal.{Refusal}
use Rattle.refusal.specs.Reply.{Reply, refusing, answering}
use Rattle.rule_file_reader.specs.Read.{reply_of}
use Rattle.rule_file_reader.specs.declared.RuleCounts.{RuleCounts}

-- The numbers of an answer give the answer back: no two answers of the call have the same reply.
abbrev pub from_reply : Reply → Result RuleCounts Refusal
from_reply (refusing r) = Err r
from_reply (answering v n c size) = Ok (record { variables = n; clauses = c; length = size })

pub reply_exact : (a : Result RuleCounts Refusal) → from_reply (reply_of a) ≡ a
reply_exact (Err r) = refl
reply_exact (Ok counts) = refl
