-- The constraints that say what the rules, the wishes and the limit say (document 02, L2).
use Rattle.std.specs.Prelude.{cond, List, [], ◌∷◌, ◌++◌, map, ℕ, suc, ltb, ℤ, pos, negsuc, neg_ℤ, ◌-ℤ◌}
use Rattle.literal.specs.Literal.{variable}
use Rattle.formula.specs.Formula.{clauses}
use Rattle.wish.specs.Wish.{is_wish, weight, keeping, wish_count, wished_on}
use Rattle.opb_pseudo_boolean.specs.PseudoBoolean.{Term, Constraint}

-- "`+1 xV` for each entry V, `-1 xV` for -V": the term of a literal that weighs w has the coefficient w, or -w where the literal is negative
abbrev pub coefficient : ℕ → ℤ → ℤ
coefficient w (pos v) = pos w
coefficient w (negsuc k) = neg_ℤ (pos w)

abbrev pub term : ℕ → ℤ → Term
term w x = record { coefficient = coefficient w x; variable = variable x }

-- "the number of negative entries"
abbrev pub negatives : List ℤ → ℕ
negatives [] = 0
negatives (pos v ∷ c) = negatives c
negatives (negsuc k ∷ c) = suc (negatives c)

-- "one line a rule": the terms of its entries "in order", "K being 1 less the number of negative entries"
abbrev pub rule_constraint : List ℤ → Constraint
rule_constraint c = record { terms = map (term 1) c; bound = pos 1 -ℤ pos (negatives c) }

-- "`+1 xV` for wished on and `-1 xV` for wished off, by rising setting": the terms of the wishes from variable v on
abbrev pub wish_terms : ℕ → List ℕ → List Term
wish_terms v [] = []
wish_terms v (w ∷ row) = cond (is_wish w) (term (weight w) (keeping v w) ∷ wish_terms (suc v) row) (wish_terms (suc v) row)

-- "K is the number wished on less d"
abbrev pub wish_constraint : List ℕ → ℕ → Constraint
wish_constraint row d = record { terms = wish_terms 1 row; bound = pos (wished_on row) -ℤ pos d }

-- "If there are wishes a last line"
abbrev pub wish_constraints : List ℕ → ℕ → List Constraint
wish_constraints row d = cond (ltb 0 (wish_count row)) (wish_constraint row d ∷ []) []

-- all "lines after the first", in their order
abbrev pub exported : List ℤ → List ℕ → ℕ → List Constraint
exported rules row d = map rule_constraint (clauses rules) ++ wish_constraints row d
