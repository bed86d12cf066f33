-- The call that exports to OPB (document 02, L2).
use Rattle.std.specs.Prelude.{List, ℕ, ℤ, length}
use Rattle.refusal.specs.Reply.{Reply, answering, unless, filled}
use Rattle.refusal_causes.specs.Lent.{Lent, with_room, exported_problem, refusal_of}
use Rattle.opb_format.specs.Opb.{opb_of}

-- what is lent to the call: n, the rules, each with an entry, the wish row, the limit d, and room for so many bytes
abbrev pub lent_to_write : ℕ → List ℤ → List ℕ → ℕ → ℕ → Lent
lent_to_write n rules row d room = with_room (length (opb_of n rules row d)) room (exported_problem n rules row d)

-- the reply of the call: the file's length
abbrev pub write_reply : ℕ → List ℤ → List ℕ → ℕ → ℕ → Reply
write_reply n rules row d room =
    unless (refusal_of (lent_to_write n rules row d room)) (answering 1 (length (opb_of n rules row d)) 0 0)

-- what the lent bytes hold after it: the file
abbrev pub write_output : ℕ → List ℤ → List ℕ → ℕ → List ℕ → List ℕ
write_output n rules row d file =
    filled (refusal_of (lent_to_write n rules row d (length file))) (opb_of n rules row d) file
