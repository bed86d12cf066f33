-- The branching variable. Document 01, step 4: "Pick: among open rules whose unsettled entries all go against wishes, take those with fewest unsettled entries [..]. Their unsettled settings are candidates. If no such rule exists, candidates are the unsettled settings of all open rules."
use Rattle.std.specs.Prelude.{Bool, cond, not, ◌&&◌, ◌||◌, List, [], ◌∷◌, ℕ, zero, suc, ◌+◌, ◌-◌, ◌*◌, ◌^◌, min, eqb, ltb, ℤ, length, Option, None, Some, option_map}
use Rattle.literal.specs.Literal.{variable, value}
use Rattle.formula.specs.Formula.{any, all, contains}
use Rattle.wish.specs.Wish.{is_against}
use Rattle.walk.specs.State.{is_unset, is_unassigned, unassigned_in, is_open}

-- an open clause "whose unsettled entries all go against wishes" (document 000: falsified by the reference assignment)
abbrev pub assigned_or_against : List ℕ → List ℕ → ℤ → Bool
assigned_or_against row a x = not (is_unassigned a x) || is_against row x

abbrev pub is_opposed : List ℕ → List ℕ → List ℤ → Bool
is_opposed row a c = is_open a c && all (assigned_or_against row a) c

-- "of two open rules the shorter is handed back as itself (fewer unsettled entries; the first if equal)"
abbrev pub shorter : List ℕ → List ℤ → List ℤ → List ℤ
shorter a c e = cond (ltb (unassigned_in a e) (unassigned_in a c)) e c

abbrev pub shorter_of : List ℕ → List ℤ → Option (List ℤ) → List ℤ
shorter_of a c None = c
shorter_of a c (Some e) = shorter a c e

-- the shortest opposed clause, if there are any
abbrev pub shortest : List ℕ → List ℕ → List (List ℤ) → Option (List ℤ)
shortest row a [] = None
shortest row a (c ∷ f) = cond (is_opposed row a c) (Some (shorter_of a c (shortest row a f))) (shortest row a f)

-- the fewest unassigned literals of an opposed clause
abbrev pub fewest : List ℕ → List ℕ → List (List ℤ) → Option ℕ
fewest row a f = option_map (unassigned_in a) (shortest row a f)

-- the clauses that give the candidates
abbrev pub is_source : List ℕ → List ℕ → Option ℕ → List ℤ → Bool
is_source row a None c = is_open a c
is_source row a (Some size) c = is_opposed row a c && eqb (unassigned_in a c) size

-- a variable occurs in a clause
abbrev pub is_of : ℕ → ℤ → Bool
is_of v x = eqb (variable x) v

abbrev pub mentions : ℕ → List ℤ → Bool
mentions v c = any (is_of v) c

-- a candidate is an unassigned variable of such a clause
abbrev pub offers : List ℕ → List ℕ → Option ℕ → ℕ → List ℤ → Bool
offers row a size v c = is_source row a size c && mentions v c

abbrev pub is_candidate : List ℕ → List ℕ → List (List ℤ) → ℕ → Bool
is_candidate row a f v = is_unset (value a v) && any (offers row a (fewest row a f) v) f

-- "An open rule with k unsettled entries weighs 4 to the power 10 - min(k, 10)."
abbrev pub clause_weight : List ℕ → List ℤ → ℕ
clause_weight a c = cond (is_open a c) (4 ^ (10 - min (unassigned_in a c) 10)) 0

-- "P and Q the weights of open rules holding v and -v": P is that of the value 1, Q that of 0
abbrev pub weight_of : List ℕ → ℕ → ℕ → List (List ℤ) → ℕ
weight_of a v b [] = 0
weight_of a v b (c ∷ f) = cond (contains v b c) (clause_weight a c) 0 + weight_of a v b f

-- "the score is 2P + 2Q + 3 times min(P, Q)"
abbrev pub score_of : ℕ → ℕ → ℕ
score_of p q = 2 * p + 2 * q + 3 * min p q

abbrev pub score : List ℕ → List (List ℤ) → ℕ → ℕ
score a f v = score_of (weight_of a v 1 f) (weight_of a v 0 f)

-- "Highest score wins, then lowest number": the best candidate so far, and the next variable
abbrev pub better : (ℕ → Bool) → (ℕ → ℕ) → Option ℕ → ℕ → Option ℕ
better candidate score None v = cond (candidate v) (Some v) None
better candidate score (Some u) v = cond (candidate v && ltb (score u) (score v)) (Some v) (Some u)

-- the best of the variables 1 to k
abbrev pub best : (ℕ → Bool) → (ℕ → ℕ) → ℕ → Option ℕ
best candidate score zero = None
best candidate score (suc k) = better candidate score (best candidate score k) (suc k)

abbrev pub branching_variable : List ℕ → List ℕ → List (List ℤ) → Option ℕ
branching_variable row a f = best (is_candidate row a f) (score a f) (length a)
