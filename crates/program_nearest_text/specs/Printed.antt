-- What the program `nearest` prints: the lines of the first nearest choice or that there is none, or the line of a refusal.
use Rattle.std.specs.Prelude.{List, ℕ, ℤ, replicate, Option}
use Rattle.distance.specs.Distance.{nearest}
use Rattle.refusal.specs.declared.Refusal.{Refusal}
use Rattle.refusal_causes.specs.Lent.{refusal_of}
use Rattle.search_meaning.specs.Searches.{lent_to_search, nearest_choice}
use Rattle.program_files.specs.Problem.{unless_refused, problem, printed_for}
use Rattle.program_solution_text.specs.Lines.{solution}

-- the refusal of nearest that is lent room for its choice, so that it is never 15
abbrev pub nearest_refused : ℕ → List ℤ → List ℕ → Option Refusal
nearest_refused n rules row = refusal_of (lent_to_search n rules row 0 n)

-- the choice that it leaves in n bytes: the first nearest one (document 02, L5)
abbrev pub chosen : ℕ → List ℤ → List ℕ → List ℕ
chosen n rules row = nearest_choice n rules row (replicate n 0)

-- "the least number of broken wishes with a choice, or none when the rules can't be met"
abbrev pub nearest_text : ℕ → List ℤ → List ℕ → List ℕ
nearest_text n rules row = unless_refused (nearest_refused n rules row) (solution (nearest n rules row) (chosen n rules row))

-- "it takes no limit": that of the wish file does not count
abbrev pub without_limit : ℕ → List ℤ → List ℕ → ℕ → List ℕ
without_limit n rules row d = nearest_text n rules row

-- all that is printed for a rule file and a wish file
abbrev pub nearest_printed : List ℕ → List ℕ → List ℕ
nearest_printed rules wishes = printed_for without_limit (problem rules wishes)
