-- The call that reads a wish file (document 01, "The wish file").
use Rattle.std.specs.Prelude.{List, ℕ, length, Result, Ok, Err}
use Rattle.refusal.specs.Reply.{Reply, refusing, answering, unless, too_short, filled}
use Rattle.wish_file.specs.Format.{Reading, refuses, gives, reading}
use Rattle.refusal.specs.declared.Refusal.{Refusal}
use Rattle.wish_file.specs.declared.WishHeader.{WishHeader}

-- The reply to what a file reads as: n, the number of wishes and the limit. After every cause of the file comes 15 ("Last 15"): the row needs n bytes.
abbrev pub replying : Reading → ℕ → Reply
replying (refuses r) room = refusing r
replying (gives n m d row) room = unless (too_short n room) (answering 1 n m d)

-- and what the lent row holds then
abbrev pub leaving : Reading → List ℕ → List ℕ
leaving (refuses r) out = out
leaving (gives n m d row) out = filled (too_short n (length out)) row out

-- the reply of the call
abbrev pub read_reply : List ℕ → ℕ → Reply
read_reply file room = replying (reading file) room

-- what the lent row holds after it
abbrev pub read_output : List ℕ → List ℕ → List ℕ
read_output file out = leaving (reading file) out

-- the numbers of each answer
abbrev pub reply_of : Result WishHeader Refusal → Reply
reply_of (Err r) = refusing r
reply_of (Ok h) = answering 1 h.variables h.wishes h.limit
