-- The lines of a choice, as solvers of optimization problems print them: the least count, that it is the least, and the choice; or that there is none.
use Rattle.std.specs.Prelude.{cond, ◌&&◌, List, [], ◌∷◌, ◌++◌, ℕ, suc, ◌%◌, eqb, ltb, Option, None, Some}
use Rattle.literal.specs.Literal.{literal}
use Rattle.decimal.specs.Decimal.{decimal}
use Rattle.text.specs.Text.{numeral}

-- a line feed and `v`, before each value that begins a line but the first; a line has 16 values
abbrev pub line_break : ℕ → List ℕ
line_break i = cond (ltb 0 i && eqb (i % 16) 0) (10 ∷ 118 ∷ []) []

-- a space, and a variable's number where it is on, minus its number where it is off
abbrev pub signed_number : ℕ → ℕ → List ℕ
signed_number v b = 32 ∷ numeral (literal v (eqb b 1))

-- the value of index i, which is that of variable i + 1
abbrev pub entry : ℕ → ℕ → List ℕ
entry i b = line_break i ++ signed_number (suc i) b

abbrev pub values : ℕ → List ℕ → List ℕ
values i [] = []
values i (b ∷ choice) = entry i b ++ values (suc i) choice

-- `s UNSATISFIABLE` and a line feed
abbrev pub unsatisfiable : List ℕ
unsatisfiable = 115 ∷ 32 ∷ 85 ∷ 78 ∷ 83 ∷ 65 ∷ 84 ∷ 73 ∷ 83 ∷ 70 ∷ 73 ∷ 65 ∷ 66 ∷ 76 ∷ 69 ∷ 10 ∷ []

-- a line feed, `s OPTIMUM FOUND`, a line feed and `v`
abbrev pub optimum : List ℕ
optimum = 10 ∷ 115 ∷ 32 ∷ 79 ∷ 80 ∷ 84 ∷ 73 ∷ 77 ∷ 85 ∷ 77 ∷ 32 ∷ 70 ∷ 79 ∷ 85 ∷ 78 ∷ 68 ∷ 10 ∷ 118 ∷ []

-- `o ` before the count, and ` 0` and a line feed after the last value
abbrev pub opening : List ℕ
opening = 111 ∷ 32 ∷ []

abbrev pub closing : List ℕ
closing = 32 ∷ 48 ∷ 10 ∷ []

-- no choice; or the count, the answer and the values
abbrev pub solution : Option ℕ → List ℕ → List ℕ
solution None choice = unsatisfiable
solution (Some broken) choice = opening ++ (decimal broken ++ (optimum ++ (values 0 choice ++ closing)))

-- no text is longer
abbrev pub longest : ℕ
longest = 2048
