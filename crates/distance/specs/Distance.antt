-- DISTANCE-SAT: how far an assignment is from what was wished, and the nearest of all that satisfy a formula.
-- A wish row (document 01: "A wish row has n bytes: 0 off, 1 on, 2 free") is the partial interpretation of document 000.
use Rattle.std.specs.Prelude.{Bool, cond, ℕ, zero, suc, ◌+◌, min, leb, ℤ, Option, None, Some, slice_get}
use mathlib.Core.List.{List, [], ◌∷◌, ◌++◌, map}
use Rattle.wish.specs.Wish.{cost}
use Rattle.formula.specs.Formula.{clauses, models}

-- the number of wishes that an assignment breaks (document 000: disagreement), each by what it weighs
abbrev pub disagreement : List ℕ → List ℕ → ℕ
disagreement [] a = 0
disagreement (w ∷ row) [] = 0
disagreement (w ∷ row) (b ∷ a) = cost w b + disagreement row a

-- "A choice has n bytes, 0 or 1": all of them, off before on, compared from variable 1 upward
abbrev pub choices : ℕ → List (List ℕ)
choices zero = [] ∷ []
choices (suc n) = map (λ (a : List ℕ). 0 ∷ a) (choices n) ++ map (λ (a : List ℕ). 1 ∷ a) (choices n)

-- those elements of a list that pass a test
abbrev pub keep {ℓ} : {A : Type ℓ} → (A → Bool) → List A → List A
keep p [] = []
keep p (x ∷ l) = cond (p x) (x ∷ keep p l) (keep p l)

-- the least number of a list
abbrev pub least : List ℕ → Option ℕ
least [] = None
least (k ∷ ks) = Some (lesser k (least ks))
  where
    lesser : ℕ → Option ℕ → ℕ
    lesser k None = k
    lesser k (Some j) = min k j

-- the choices that meet the rules
abbrev pub permitted : ℕ → List ℤ → List (List ℕ)
permitted n list = keep (λ (a : List ℕ). models a (clauses list)) (choices n)

-- the choices that meet the rules with at most d broken wishes
abbrev pub within : ℕ → List ℤ → List ℕ → ℕ → List (List ℕ)
within n list row d = keep (λ (a : List ℕ). leb (disagreement row a) d) (permitted n list)

-- "Nearest gives the least number of broken wishes with a choice, or none when the rules can't be met."
abbrev pub nearest : ℕ → List ℤ → List ℕ → Option ℕ
nearest n list row = least (map (disagreement row) (permitted n list))

-- the first of the choices that meet the rules with at most d broken wishes
abbrev pub first_within : ℕ → List ℤ → List ℕ → ℕ → Option (List ℕ)
first_within n list row d = slice_get (within n list row d) 0

-- "the first nearest choice, off before on, compared from setting 1 upward" (document 02, L5): with the least number of broken wishes as the limit, the first choice within it
abbrev pub first_nearest : ℕ → List ℤ → List ℕ → Option (List ℕ)
first_nearest n list row = with_count (nearest n list row)
  where
    with_count : Option ℕ → Option (List ℕ)
    with_count None = None
    with_count (Some k) = first_within n list row k
