-- What a program makes of a rule file and a wish file (document 01, "Examples").
use Rattle.std.specs.Prelude.{Bool, cond, ◌||◌, List, [], ℕ, ltb, ℤ, length, Option, None, Some}
use Rattle.refusal.specs.declared.Refusal.{Refusal}
use Rattle.program_report.specs.Report.{refusal_line}
use Rattle.rule_file.specs.Format as rule
use Rattle.wish_file.specs.Format as wish

-- what two files give: nothing, as one is too long, a refusal, or the number of variables, the rule list, the wish row and the limit
pub data Problem : Type 0 where
  silent : Problem
  refuses : Refusal → Problem
  gives : ℕ → List ℤ → List ℕ → ℕ → Problem

-- "If either file is longer than 65,536 bytes it prints nothing."
abbrev pub max_file : ℕ
max_file = 65536

abbrev pub too_long : List ℕ → List ℕ → Bool
too_long rules wishes = ltb max_file (length rules) || ltb max_file (length wishes)

-- "`rules.cnf` is read first": a wish file counts where the rule file is good; its own n is the length of its row
abbrev pub with_wishes : ℕ → List ℤ → wish.Reading → Problem
with_wishes n rules (wish.refuses r) = refuses r
with_wishes n rules (wish.gives k m d row) = gives n rules row d

abbrev pub together : rule.Reading → wish.Reading → Problem
together (rule.refuses r) w = refuses r
together (rule.gives n c rules) w = with_wishes n rules w

abbrev pub problem : List ℕ → List ℕ → Problem
problem rules wishes = cond (too_long rules wishes) silent (together (rule.reading rules) (wish.reading wishes))

-- the line of a refusal, or the text of an answer
abbrev pub unless_refused : Option Refusal → List ℕ → List ℕ
unless_refused None text = text
unless_refused (Some r) text = refusal_line r

-- What is printed for two files by a program that says what it prints for a number of variables, a rule list, a wish row and a limit: "On a refusal it prints the number, a space, the place and a line feed instead".
abbrev pub printed_for : (ℕ → List ℤ → List ℕ → ℕ → List ℕ) → Problem → List ℕ
printed_for answer silent = []
printed_for answer (refuses r) = refusal_line r
printed_for answer (gives n rules row d) = answer n rules row d
