-- The facts about disjoint cores on which narrowing rests: a core costs at least its least weight, disjoint cores add to what the state breaks, and a wish that would cost too much besides them must be kept.
use Rattle.std.specs.Prelude.{◌≡◌, Bool, true, ℕ, ◌+◌, ℤ}
use mathlib.Core.List.{List, [], ◌∷◌, ◌++◌, Memᴰ}
use Rattle.literal.specs.Literal.{value}
use Rattle.formula.specs.Formula.{any}
use Rattle.wish.specs.Wish.{cost, breaks}
use Rattle.choices.specs.Choices.{Model}
use Rattle.walk.specs.Promises.{Branches}
use Rattle.walk.specs.Extension.{Extends}
use Rattle.nearest_cores.specs.Cores.{least_weight}

-- one of the wishes of some variables is broken
abbrev pub breaks_one : List ℕ → List ℕ → List ℕ → Bool
breaks_one row c vs = any (λ (v : ℕ). breaks (value row v) (value c v)) vs

-- a core of the state a: every model that extends a breaks one of its wishes
abbrev pub Core : ℕ → List (List ℤ) → List ℕ → List ℕ → List ℕ → Type 0
Core n f row a vs = (c : List ℕ) → Model n f c → Extends c a → breaks_one row c vs ≡ true

-- what a choice breaks of the wishes of some variables
abbrev pub cost_all : List ℕ → List ℕ → List ℕ → ℕ
cost_all row c [] = 0
cost_all row c (v ∷ vs) = cost (value row v) (value c v) + cost_all row c vs

-- the least weights of some cores, added up
abbrev pub least_sum : List ℕ → List (List ℕ) → ℕ
least_sum row [] = 0
least_sum row (vs ∷ cores) = least_weight row vs + least_sum row cores

-- the variables of some cores
abbrev pub variables_of : List (List ℕ) → List ℕ
variables_of [] = []
variables_of (vs ∷ cores) = vs ++ variables_of cores

-- no variable stands twice in a list
abbrev pub Distinct : List ℕ → Type 0
Distinct [] = Unit {0}
Distinct (v ∷ vs) = (Memᴰ v vs → ⊥) × Distinct vs

-- a variable of 1 to n that the state a leaves unassigned: one that a fork could branch on
abbrev pub Unset : ℕ → List ℕ → ℕ → Type 0
Unset n a v = Branches a n v

-- disjoint cores: their variables are unassigned, and none stands in two of them or twice in one
pub record Disjoint (n : ℕ) (a : List ℕ) (cores : List (List ℕ)) : Type 0 where
  pub open_variables : (v : ℕ) → Memᴰ v (variables_of cores) → Unset n a v
  pub distinct : Distinct (variables_of cores)

-- some cores of the state a, disjoint
pub record Cores (n : ℕ) (f : List (List ℤ)) (row a : List ℕ) (cores : List (List ℕ)) : Type 0 where
  pub disjoint : Disjoint n a cores
  pub each : (vs : List ℕ) → Memᴰ vs cores → Core n f row a vs
