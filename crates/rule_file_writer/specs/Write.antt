-- The call that writes a rule file (document 01, "The rule file").
use Rattle.std.specs.Prelude.{List, [], ◌∷◌, ◌++◌, ℕ, ℤ, length}
use Rattle.refusal.specs.Reply.{Reply, answering, unless, filled}
use Rattle.refusal_causes.specs.Lent.{Lent, with_room, plain_problem, refusal_of}
use Rattle.text.specs.Text.{numeral}
use Rattle.rule_file.specs.Written.{separator, written}

-- what is lent to the call: n, the rules, and room for so many bytes
abbrev pub lent_to_write : ℕ → List ℤ → ℕ → Lent
lent_to_write n rules room = with_room (length (written n rules)) room (plain_problem n rules)

-- the reply of the call: the file's length
abbrev pub write_reply : ℕ → List ℤ → ℕ → Reply
write_reply n rules room = unless (refusal_of (lent_to_write n rules room)) (answering 1 (length (written n rules)) 0 0)

-- what the lent bytes hold after it: the file
abbrev pub write_output : ℕ → List ℤ → List ℕ → List ℕ
write_output n rules file = filled (refusal_of (lent_to_write n rules (length file))) (written n rules) file

-- the text of an element of the list: "entries, then 0, single spaces, a line feed"
abbrev pub element_text : ℤ → List ℕ
element_text x = numeral x ++ separator x ∷ []
