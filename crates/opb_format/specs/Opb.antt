-- The format OPB (document 02, L2), in ASCII bytes: "Single spaces divide all parts, and a line feed ends each line."
use Rattle.std.specs.Prelude.{List, [], ◌∷◌, ◌++◌, ℕ, suc, ℤ, pos, negsuc, length}
use Rattle.decimal.specs.Decimal.{decimal}
use Rattle.text.specs.Text.{numeral}
use Rattle.opb_pseudo_boolean.specs.Export.{exported}
use Rattle.opb_pseudo_boolean.specs.PseudoBoolean.{Term, Constraint}

-- a coefficient, with a plus or a minus
abbrev pub signed : ℤ → List ℕ
signed (pos v) = 43 ∷ decimal v
signed (negsuc k) = 45 ∷ decimal (suc k)

-- "`+1 xV`" and the space behind it
abbrev pub term_text : Term → List ℕ
term_text t = signed t.coefficient ++ 32 ∷ 120 ∷ (decimal t.variable ++ 32 ∷ [])

abbrev pub terms_text : List Term → List ℕ
terms_text [] = []
terms_text (t ∷ terms) = term_text t ++ terms_text terms

-- "`>= K ;`, K .. with a minus sign if below 0", and the line feed
abbrev pub bound_text : ℤ → List ℕ
bound_text k = 62 ∷ 61 ∷ 32 ∷ (numeral k ++ 32 ∷ 59 ∷ 10 ∷ [])

abbrev pub line_text : Constraint → List ℕ
line_text c = terms_text c.terms ++ bound_text c.bound

abbrev pub lines_text : List Constraint → List ℕ
lines_text [] = []
lines_text (c ∷ constraints) = line_text c ++ lines_text constraints

-- `* #variable= ` and ` #constraint= `
abbrev pub variable_word : List ℕ
variable_word = 42 ∷ 32 ∷ 35 ∷ 118 ∷ 97 ∷ 114 ∷ 105 ∷ 97 ∷ 98 ∷ 108 ∷ 101 ∷ 61 ∷ 32 ∷ []

abbrev pub constraint_word : List ℕ
constraint_word = 32 ∷ 35 ∷ 99 ∷ 111 ∷ 110 ∷ 115 ∷ 116 ∷ 114 ∷ 97 ∷ 105 ∷ 110 ∷ 116 ∷ 61 ∷ 32 ∷ []

-- "`* #variable= N #constraint= C` and a line feed"
abbrev pub header_text : ℕ → ℕ → List ℕ
header_text n c = variable_word ++ (decimal n ++ (constraint_word ++ (decimal c ++ 10 ∷ [])))

-- the file of n variables and some constraints: "C counts all lines after the first"
abbrev pub opb_file : ℕ → List Constraint → List ℕ
opb_file n constraints = header_text n (length constraints) ++ lines_text constraints

-- the file of a rule list, a wish row and a limit
abbrev pub opb_of : ℕ → List ℤ → List ℕ → ℕ → List ℕ
opb_of n rules row d = opb_file n (exported rules row d)
