-- The rule file as the writer gives it (document 01, "The rule file"): "The writer gives the header, then each rule on a line: entries, then 0, single spaces, a line feed."
use Rattle.std.specs.Prelude.{cond, List, [], ◌∷◌, ◌++◌, ℕ, ℤ, length}
use Rattle.formula.specs.Formula.{closes, clauses}
use Rattle.decimal.specs.Decimal.{decimal}
use Rattle.text.specs.Text.{numeral}
use Rattle.rule_file.specs.Format.{preamble}

-- what follows a number of the list: a line feed after the 0 that closes a clause, a space after a literal
abbrev pub separator : ℤ → ℕ
separator x = cond (closes x) 10 32

abbrev pub body : List ℤ → List ℕ
body [] = []
body (x ∷ l) = numeral x ++ separator x ∷ body l

-- the header for N and C, and its line feed
abbrev pub header_text : ℕ → ℕ → List ℕ
header_text n c = preamble ++ (decimal n ++ 32 ∷ (decimal c ++ 10 ∷ []))

-- the file of n variables and a rule list
abbrev pub written : ℕ → List ℤ → List ℕ
written n l = header_text n (length (clauses l)) ++ body l
