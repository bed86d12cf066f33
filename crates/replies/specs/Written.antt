-- The numbers of each answer of a call that writes a text.
use Rattle.std.specs.Prelude.{ℕ, Result, Ok, Err}
use Rattle.refusal.specs.declared.Refusal.{Refusal}
use Rattle.refusal.specs.Reply.{Reply, refusing, answering}

-- refused, or the text's length
abbrev pub Written : Type 0
Written = Result ℕ Refusal

abbrev pub reply_of : Written → Reply
reply_of (Err r) = refusing r
reply_of (Ok size) = answering 1 size 0 0
