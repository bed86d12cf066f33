-- Document 01's example of rewriting.
use Rattle.std.specs.Prelude.{◌≡◌, refl, [], ◌∷◌, pos, negsuc}
use Rattle.formula.specs.Formula.{clauses}
use Rattle.totalizer.specs.Totalizer.{rewritten_variables, rewritten}

-- n = 2, the rule 1 2, both wished off, limit 1: 4 variables and 8 clauses (-1 is `negsuc 0`, -2 is `negsuc 1`)
example : (rewritten_variables 2 (0 ∷ 0 ∷ []) ≡ 4)
    × (clauses (rewritten 2 (pos 1 ∷ pos 2 ∷ pos 0 ∷ []) (0 ∷ 0 ∷ []) 1)
    ≡ (pos 1 ∷ pos 2 ∷ [])
    ∷ (pos 1 ∷ pos 2 ∷ negsuc 2 ∷ [])
    ∷ (negsuc 1 ∷ pos 3 ∷ [])
    ∷ (pos 1 ∷ negsuc 3 ∷ [])
    ∷ (negsuc 0 ∷ pos 3 ∷ [])
    ∷ (pos 2 ∷ negsuc 3 ∷ [])
    ∷ (negsuc 0 ∷ negsuc 1 ∷ pos 4 ∷ [])
    ∷ (negsuc 3 ∷ [])
    ∷ [])
example = (refl, refl)
