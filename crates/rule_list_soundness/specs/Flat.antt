-- The list form of a formula, and which formulas have a sound one.
use Rattle.std.specs.Prelude.{Bool, true, not, ◌&&◌, List, [], ◌∷◌, ◌++◌, ℕ, leb, ℤ, pos}
use Rattle.literal.specs.Literal.{variable}
use Rattle.formula.specs.Formula.{all, closes}
use Rattle.rule_list.specs.Sound.{may_join}

-- "In memory, rules are one list of signed numbers, each rule closed by 0."
abbrev pub flat : List (List ℤ) → List ℤ
flat [] = []
flat (c ∷ f) = c ++ pos 0 ∷ flat f

-- no clause holds a 0
abbrev pub zero_free : List (List ℤ) → Bool
zero_free f = all (all (λ (x : ℤ). not (closes x))) f

-- the literals of a clause over n variables, each of which may join those before it (read, the last one first)
abbrev pub joining : ℕ → List ℤ → List ℤ → Bool
joining n read [] = true
joining n read (x ∷ c) = (not (closes x) && (leb (variable x) n && may_join read x)) && joining n (x ∷ read) c

-- every literal's variable is one of 1 to n, and no literal occurs twice in a clause
abbrev pub well_formed : ℕ → List (List ℤ) → Bool
well_formed n f = all (joining n []) f
