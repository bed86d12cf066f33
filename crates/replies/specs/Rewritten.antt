-- The numbers of each answer of a call that rewrites.
use Rattle.std.specs.Prelude.{ℕ, Result, Ok, Err}
use Rattle.refusal.specs.declared.Refusal.{Refusal}
use Rattle.refusal.specs.Reply.{Reply, refusing, answering}
use Rattle.replies.specs.declared.Sizes.{Sizes}

-- refused, or the sizes of the rewritten list
abbrev pub Rewritten : Type 0
Rewritten = Result Sizes Refusal

abbrev pub reply_of : Rewritten → Reply
reply_of (Err r) = refusing r
reply_of (Ok sizes) = answering 1 sizes.variables sizes.length 0

-- an answer with its two sizes
abbrev pub done : ℕ → ℕ → Rewritten
done variables size = Ok (record { variables = variables; length = size })
