-- Partial assignments, and how a clause stands in one (document 01, "The wish search").
-- A state of the walk is an assignment of n bytes: 0 off, 1 on, 2 unassigned (document 01: not settled).
use Rattle.std.specs.Prelude.{◌≡◌, Bool, cond, not, ◌&&◌, List, [], ◌∷◌, ℕ, zero, suc, ◌≤◌, eqb, ltb, leb, ℤ, length, get_or, set, Option, None, Some}
use Rattle.literal.specs.Literal.{variable, wanted, value}
use Rattle.formula.specs.Formula.{all, satisfied}

-- how many elements of a list pass a test, and the first that does
abbrev pub count {ℓ} : {A : Type ℓ} → (A → Bool) → List A → ℕ
count p [] = 0
count p (x ∷ l) = cond (p x) (suc (count p l)) (count p l)

abbrev pub find : {A : Type 0} → (A → Bool) → List A → Option A
find p [] = None
find p (x ∷ l) = cond (p x) (Some x) (find p l)

-- the byte of an unassigned variable, and the number of these
abbrev pub is_unset : ℕ → Bool
is_unset b = eqb b 2

abbrev pub unassigned : List ℕ → ℕ
unassigned a = count is_unset a

-- variable v takes the value b; its byte is that at index v - 1
abbrev pub assign : List ℕ → ℕ → ℕ → List ℕ
assign a zero b = a
assign a (suc i) b = set a i b

-- a literal is "made to hold"
abbrev pub satisfy : List ℕ → ℤ → List ℕ
satisfy a x = assign a (variable x) (wanted x)

-- an unsettled entry is one whose variable is unassigned
abbrev pub is_unassigned : List ℕ → ℤ → Bool
is_unassigned a x = is_unset (value a (variable x))

-- the number of unsettled entries of a clause
abbrev pub unassigned_in : List ℕ → List ℤ → ℕ
unassigned_in a c = count (is_unassigned a) c

-- "A rule is open while none of its entries holds."
abbrev pub is_open : List ℕ → List ℤ → Bool
is_open a c = not (satisfied a c)

-- "an open rule has exactly one unsettled entry"
abbrev pub is_unit : List ℕ → List ℤ → Bool
is_unit a c = is_open a c && eqb (unassigned_in a c) 1

-- "An open rule with no unsettled entry"
abbrev pub is_falsified : List ℕ → List ℤ → Bool
is_falsified a c = is_open a c && eqb (unassigned_in a c) 0

-- every literal of a formula speaks of one of the variables 1 to n
abbrev pub has_variable : ℕ → ℤ → Bool
has_variable n x = ltb 0 (variable x) && leb (variable x) n

abbrev pub fits : ℕ → List (List ℤ) → Bool
fits n f = all (all (has_variable n)) f

-- a state over n variables
pub record State (n : ℕ) (a : List ℕ) : Type 0 where
  pub size : length a ≡ n
  pub bytes : (i : ℕ) → get_or a i 2 ≤ 2
