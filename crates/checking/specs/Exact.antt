-- The reply of the call loses nothing of its answer.
use Rattle.std.specs.Prelude.{◌≡◌, refl, zero, suc, Result, Ok, Err}
use Rattle.refusal.specs.declared.Refusal.{Refusal}
use Rattle.refusal.specs.Reply.{Reply, refusing, answering}
use Rattle.checking.specs.Check.{reply_of}
use Rattle.checking.specs.declared.Checked.{Checked}
use Rattle.checking.specs.declared.Checked.TheVariants.{Met, Unmet}

-- The numbers of an answer give the answer back: no two answers of the call have the same reply.
abbrev pub from_reply : Reply → Result Checked Refusal
from_reply (refusing r) = Err r
from_reply (answering zero k i j) = Ok (Unmet k)
from_reply (answering (suc v) k i j) = Ok (Met k)

pub reply_exact : (a : Result Checked Refusal) → from_reply (reply_of a) ≡ a
reply_exact (Err r) = refl
reply_exact (Ok (Met k)) = refl
reply_exact (Ok (Unmet k)) = refl
