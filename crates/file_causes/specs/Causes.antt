-- With which numbers a rule file and a wish file are refused (document 01, "Refusals").
use Rattle.std.specs.Prelude.{Bool, List, [], ◌∷◌, ℕ, eqb}
use Rattle.formula.specs.Formula.{any}

-- a number is one of a list
abbrev pub among : List ℕ → ℕ → Bool
among l k = any (eqb k) l

-- the numbers of the causes to refuse a rule file, and a wish file
abbrev pub rule_causes : List ℕ
rule_causes = 1 ∷ 2 ∷ 3 ∷ 4 ∷ 6 ∷ 7 ∷ []

abbrev pub wish_causes : List ℕ
wish_causes = 8 ∷ 9 ∷ 10 ∷ []
