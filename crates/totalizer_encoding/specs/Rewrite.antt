-- The call that rewrites into plain rules (document 01, "Rewriting into plain rules").
use Rattle.std.specs.Prelude.{List, ℕ, ℤ, length}
use Rattle.refusal.specs.Reply.{Reply, answering, unless, filled}
use Rattle.replies.specs.declared.Sizes.{Sizes}
use Rattle.refusal_causes.specs.Lent.{Lent, with_room, wished_problem, refusal_of}
use Rattle.totalizer.specs.Totalizer.{rewritten_variables, rewritten}

-- what is lent to the call: n, the limit d, the rules, the row, and room for so many elements
abbrev pub lent_to_rewrite : ℕ → List ℤ → List ℕ → ℕ → ℕ → Lent
lent_to_rewrite n rules row d room = with_room (length (rewritten n rules row d)) room (wished_problem n rules row d)

-- the number of variables of the rewritten list, and its length
abbrev pub rewritten_sizes : ℕ → List ℤ → List ℕ → ℕ → Sizes
rewritten_sizes n rules row d = record { variables = rewritten_variables n row; length = length (rewritten n rules row d) }

-- the reply of the call: the number of variables, and the length of the rewritten list
abbrev pub rewrite_reply : ℕ → List ℤ → List ℕ → ℕ → ℕ → Reply
rewrite_reply n rules row d room =
    unless
    (refusal_of (lent_to_rewrite n rules row d room))
    (answering 1 (rewritten_variables n row) (length (rewritten n rules row d)) 0)

-- what the lent list holds after the call
abbrev pub rewrite_output : ℕ → List ℤ → List ℕ → ℕ → List ℤ → List ℤ
rewrite_output n rules row d out =
    filled (refusal_of (lent_to_rewrite n rules row d (length out))) (rewritten n rules row d) out
