-- The call that writes a wish file (document 01, "The wish file").
use Rattle.std.specs.Prelude.{List, ℕ, length}
use Rattle.refusal.specs.Reply.{Reply, answering, unless, filled}
use Rattle.refusal_causes.specs.Lent.{Lent, with_room, wishes_alone, refusal_of}
use Rattle.wish_file.specs.Format.{written}

-- what is lent to the call: n, the wish row, the limit d, and room for so many bytes
abbrev pub lent_to_write : ℕ → List ℕ → ℕ → ℕ → Lent
lent_to_write n row d room = with_room (length (written n row d)) room (wishes_alone n row d)

-- the reply of the call: the file's length
abbrev pub write_reply : ℕ → List ℕ → ℕ → ℕ → Reply
write_reply n row d room = unless (refusal_of (lent_to_write n row d room)) (answering 1 (length (written n row d)) 0 0)

-- what the lent bytes hold after it: the file
abbrev pub write_output : ℕ → List ℕ → ℕ → List ℕ → List ℕ
write_output n row d file = filled (refusal_of (lent_to_write n row d (length file))) (written n row d) file
