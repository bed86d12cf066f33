-- Disjoint cores of a state. A core is a set of wishes that no model which extends the state keeps all of (`Core` of Facts). The wishes are gone through once, by rising variable, with values that start as the state's: a wish is assumed kept and followed up by unit propagation. If that falsifies a clause, or breaks a wish, a core is found, and the values are the state's again. What is in a core or assigned in the state is taken: no other core has it. So every model that extends the state breaks the wishes that the state breaks and, of each core, at least the least weight.
-- All of it is said of one wish row: for several limits at once (document 02, L14) each group of wishes is a row of its own, with cores of its own.
use Rattle.std.specs.Prelude.{Bool, cond, ◌&&◌, List, [], ◌∷◌, ◌++◌, map, ℕ, zero, suc, ◌+◌, min, eqb, ℤ, length}
use Rattle.literal.specs.Literal.{value}
use Rattle.formula.specs.Formula.{any}
use Rattle.wish.specs.Wish.{is_wish, wished_value, weight, max_weight, breaks}
use Rattle.distance.specs.Distance.{disagreement}
use Rattle.walk.specs.State.{is_unset, assign, is_falsified}
use Rattle.walk.specs.Propagation.{propagate}

-- what is at hand on the way: the values, the wishes assumed since they were the state's, for each variable a byte, 0 where it is not taken, and how much every model that extends the state breaks at least
pub record Scan : Type 0 where
  pub values : List ℕ
  pub assumed : List ℕ
  pub taken : List ℕ
  pub bound : ℕ

-- at the start: what the state assigns is taken, and what it breaks is broken
abbrev pub taken_byte : ℕ → ℕ
taken_byte b = cond (is_unset b) 0 1

abbrev pub scan_start : List ℕ → List ℕ → Scan
scan_start row b = record { values = b; assumed = []; taken = map taken_byte b; bound = disagreement row b }

-- a variable is not taken
abbrev pub is_left : List ℕ → ℕ → Bool
is_left taken v = eqb (value taken v) 0

-- a wish that can be assumed: not taken, and nothing is known of it yet
abbrev pub is_assumable : List ℕ → Scan → ℕ → Bool
is_assumable row s v = is_wish (value row v) && is_left s.taken v && is_unset (value s.values v)

-- a wish is kept
abbrev pub keep_wish : List ℕ → List ℕ → ℕ → List ℕ
keep_wish row a v = assign a v (wished_value (value row v))

-- the lowest of the variables v, v + 1, .., k of them, that is not taken and whose wish is broken; 0 if there is none
abbrev pub is_broken : List ℕ → List ℕ → List ℕ → ℕ → Bool
is_broken row taken a v = is_left taken v && breaks (value row v) (value a v)

abbrev pub broken_from : ℕ → List ℕ → List ℕ → List ℕ → ℕ → ℕ
broken_from zero row taken a v = 0
broken_from (suc k) row taken a v = cond (is_broken row taken a v) v (broken_from k row taken a (suc v))

abbrev pub first_broken : List ℕ → List ℕ → List ℕ → ℕ
first_broken row taken a = broken_from (length a) row taken a 1

-- the least weight of some wishes
abbrev pub least_weight : List ℕ → List ℕ → ℕ
least_weight row [] = max_weight
least_weight row (v ∷ vs) = min (weight (value row v)) (least_weight row vs)

-- variables are taken
abbrev pub take_each : List ℕ → List ℕ → List ℕ
take_each taken [] = taken
take_each taken (v ∷ vs) = take_each (assign taken v 1) vs

-- A core is found at the state b: its wishes are taken, its least weight counts, and the values are the state's again.
abbrev pub close_core : List ℕ → List ℕ → Scan → List ℕ → Scan
close_core row b s core = record { values = b; assumed = []; taken = take_each s.taken core; bound = s.bound + least_weight row core }

-- Wish v was assumed, which led to the values a, and w is the lowest wish broken there that is not taken: the wishes assumed, v and w are a core; where there is no w, v is assumed.
abbrev pub with_broken : List ℕ → List ℕ → Scan → ℕ → List ℕ → ℕ → Scan
with_broken row b s v a zero = record { values = a; assumed = s.assumed ++ (v ∷ []); taken = s.taken; bound = s.bound }
with_broken row b s v a (suc w) = close_core row b s (s.assumed ++ (v ∷ suc w ∷ []))

-- where those values falsify a clause, the wishes assumed and v are a core, without any wish that is broken there
abbrev pub after_assuming : List (List ℤ) → List ℕ → List ℕ → Scan → ℕ → List ℕ → Scan
after_assuming f row b s v a =
    cond (any (is_falsified a) f) (close_core row b s (s.assumed ++ (v ∷ []))) (with_broken row b s v a (first_broken row s.taken a))

-- one variable
abbrev pub scan_wish : List (List ℤ) → List ℕ → List ℕ → Scan → ℕ → Scan
scan_wish f row b s v = cond (is_assumable row s v) (after_assuming f row b s v (propagate f (keep_wish row s.values v))) s

-- the variables v, v + 1, .., k of them
abbrev pub scan_from : ℕ → List (List ℤ) → List ℕ → List ℕ → Scan → ℕ → Scan
scan_from zero f row b s v = s
scan_from (suc k) f row b s v = scan_from k f row b (scan_wish f row b s v) (suc v)

-- all variables of the state b
abbrev pub scan : List (List ℤ) → List ℕ → List ℕ → Scan
scan f row b = scan_from (length b) f row b (scan_start row b) 1
