-- What the rewriting program prints (document 01, "Examples"): "The rewriting program reads `rules.cnf` and `wish.txt` and prints the rewritten file. On a refusal it prints the number, a space, the place and a line feed instead; `rules.cnf` is read first. If either file is longer than 65,536 bytes it prints nothing."
use Rattle.std.specs.Prelude.{List, ℕ, ℤ, length, Option}
use Rattle.refusal.specs.declared.Refusal.{Refusal}
use Rattle.refusal_causes.specs.Lent.{refusal_of}
use Rattle.rule_file.specs.Written.{written}
use Rattle.totalizer.specs.Totalizer.{rewritten_variables, rewritten}
use Rattle.totalizer_encoding.specs.Rewrite.{lent_to_rewrite}
use Rattle.program_files.specs.Problem.{unless_refused, problem, printed_for}

-- the refusal of rewriting that is lent room for its list, so that it is never 15
abbrev pub rewriting_refused : ℕ → List ℤ → List ℕ → ℕ → Option Refusal
rewriting_refused n rules row d = refusal_of (lent_to_rewrite n rules row d (length (rewritten n rules row d)))

-- the rewritten rules as a file
abbrev pub rewritten_text : ℕ → List ℤ → List ℕ → ℕ → List ℕ
rewritten_text n rules row d = unless_refused (rewriting_refused n rules row d) (written (rewritten_variables n row) (rewritten n rules row d))

-- all that is printed for a rule file and a wish file
abbrev pub printed : List ℕ → List ℕ → List ℕ
printed rules wishes = printed_for rewritten_text (problem rules wishes)

-- no text is longer: a header of at most 15 bytes, and 40,000 numbers of at most five, the byte after them included
abbrev pub longest : ℕ
longest = 200015
