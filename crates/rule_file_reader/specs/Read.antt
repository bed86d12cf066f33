-- The call that reads a rule file (document 01, "The rule file").
use Rattle.std.specs.Prelude.{List, ℕ, ℤ, length, Result, Ok, Err}
use Rattle.refusal.specs.Reply.{Reply, refusing, answering, unless, too_short, filled}
use Rattle.rule_file.specs.Format.{Reading, refuses, gives, reading}
use Rattle.refusal.specs.declared.Refusal.{Refusal}
use Rattle.rule_file_reader.specs.declared.RuleCounts.{RuleCounts}

-- The reply to what a file reads as: N, C and the list's length. After every cause of the file comes 15 ("Last 15"): the list needs room for each of its elements.
abbrev pub replying : Reading → ℕ → Reply
replying (refuses r) room = refusing r
replying (gives n c list) room = unless (too_short (length list) room) (answering 1 n c (length list))

-- and what the lent list holds then
abbrev pub leaving : Reading → List ℤ → List ℤ
leaving (refuses r) out = out
leaving (gives n c list) out = filled (too_short (length list) (length out)) list out

-- the reply of the call
abbrev pub read_reply : List ℕ → ℕ → Reply
read_reply file room = replying (reading file) room

-- what the lent list holds after it
abbrev pub read_output : List ℕ → List ℤ → List ℤ
read_output file out = leaving (reading file) out

-- the numbers of each answer
abbrev pub reply_of : Result RuleCounts Refusal → Reply
reply_of (Err r) = refusing r
reply_of (Ok h) = answering 1 h.variables h.clauses h.length
