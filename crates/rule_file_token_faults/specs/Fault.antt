-- The causes to refuse a number of the list (document 01, "Refusals"), where it is known whether it repeats a literal of its clause.
use Rattle.std.specs.Prelude.{Bool, cond, not, ◌&&◌, ℕ, ltb, leb, ℤ, Option, None, Some}
use Rattle.literal.specs.Literal.{variable, closes}
use Rattle.limits.specs.Limits.{max_literals}

-- the causes 6, 7 and 4 of a number of the list, in their order ("at one token 3, 6, 7, 4"), if one applies
abbrev pub fault_of : ℕ → ℕ → ℕ → ℕ → ℤ → Bool → Option ℕ
fault_of n count clauses literals x repeated =
    cond (leb count clauses) (Some 6)
    (cond (closes x) None
    (cond (not repeated && leb max_literals literals) (Some 7)
    (cond (ltb n (variable x)) (Some 4) None)))
