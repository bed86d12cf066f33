-- The weights of all literals, each at its slot, and the marks of the candidates behind them.
use Rattle.std.specs.Prelude.{◌≡◌, Bool, true, cond, not, ◌&&◌, ◌||◌, List, [], ◌∷◌, ◌++◌, ℕ, ◌+◌, ◌-◌, ◌*◌, ◌^◌, ◌≤◌, ◌<◌, eqb, ℤ, pos, length, get_or, take, drop, Option}
use Rattle.literal.specs.Literal.{variable}
use Rattle.literal.specs.Slots.{slot, is_at}
use Rattle.formula.specs.Formula.{any, all, clauses}
use Rattle.walk.specs.State.{has_variable}
use Rattle.walk.specs.Branching.{clause_weight, offers}

-- the weights of the open clauses that hold the literal at i
abbrev pub weight_at : List ℕ → ℕ → List (List ℤ) → ℕ
weight_at a i [] = 0
weight_at a i (c ∷ f) = cond (any (is_at i) c) (clause_weight a c) 0 + weight_at a i f

abbrev pub is_marked : List ℕ → ℕ → Bool
is_marked marks v = eqb (get_or marks v 0) 1

-- no literal stands in a clause twice
abbrev pub distinct : List ℤ → Bool
distinct [] = true
distinct (x ∷ c) = not (any (is_at (slot x)) c) && distinct c

-- a clause over the variables 1 to n with no literal twice
abbrev pub is_clean : ℕ → List ℤ → Bool
is_clean n c = all (has_variable n) c && distinct c

-- a clause's weight can be added: its literals have slots, each is added once, and the sums fit
pub record Addable (c : List ℤ) (w : ℕ) (weights : List ℕ) : Type 0 where
  pub inside : (k : ℕ) → k < length c → slot (get_or c k (pos 0)) < length weights
  pub once : distinct c ≡ true
  pub fits : (i : ℕ) → get_or weights i 0 + w < 2 ^ 64

-- One list holds the weights of the literals over n variables, each at its slot, and behind them a mark for each variable.
abbrev pub weights_of : ℕ → List ℕ → List ℕ
weights_of n weights = take (2 * n + 2) weights

abbrev pub marks_of : ℕ → List ℕ → List ℕ
marks_of n weights = drop (2 * n + 2) weights

-- the marks as the part up to the end of the list, as code lends them
abbrev pub marks_lent : ℕ → List ℕ → List ℕ
marks_lent n weights = take (length weights - (2 * n + 2)) (marks_of n weights)

-- the list after one of the two parts was lent and written
abbrev pub with_weights : ℕ → List ℕ → List ℕ → List ℕ
with_weights n weights part = part ++ marks_of n weights

abbrev pub with_marks : ℕ → List ℕ → List ℕ → List ℕ
with_marks n weights part = weights_of n weights ++ (part ++ drop (length weights - (2 * n + 2)) (marks_of n weights))

-- a clause can be weighed over n variables: there is room for them, its variables are among them, each literal is there once, and the sums fit
pub record Weighable (n : ℕ) (c : List ℤ) (weights : List ℕ) : Type 0 where
  pub wide : 3 * n + 2 < length weights
  pub within : (k : ℕ) → k < length c → variable (get_or c k (pos 0)) ≤ n
  pub once : distinct c ≡ true
  pub fits : (i : ℕ) → get_or (weights_of n weights) i 0 + 4 ^ 10 < 2 ^ 64

-- what weighing one clause does to the weights and the marks
pub record Weighed (row a : List ℕ) (size : Option ℕ) (c : List ℤ) (weights weights' : List ℕ) : Type 0 where
  pub sums : (i : ℕ) → get_or (weights_of (length a) weights') i 0 ≡ get_or (weights_of (length a) weights) i 0 + cond (any (is_at i) c) (clause_weight a c) 0
  pub marked : (v : ℕ) → is_marked (marks_of (length a) weights') v ≡ is_marked (marks_of (length a) weights) v || offers row a size v c

-- a list can be weighed over n variables: its clauses are clean, and few enough for the sums to fit; there is room for the variables
pub record WeighableList (n : ℕ) (rules : List ℤ) (weights : List ℕ) : Type 0 where
  pub clean : all (is_clean n) (clauses rules) ≡ true
  pub few : length (clauses rules) ≤ 2 ^ 40
  pub wide : 3 * n + 2 < length weights

-- the weights and the marks of a whole formula
pub record Totals (row a : List ℕ) (size : Option ℕ) (f : List (List ℤ)) (weights : List ℕ) : Type 0 where
  pub sums : (i : ℕ) → get_or (weights_of (length a) weights) i 0 ≡ weight_at a i f
  pub marked : (v : ℕ) → is_marked (marks_of (length a) weights) v ≡ any (offers row a size v) f
