-- Literals (document 01: entries) and assignments.
-- A literal is a signed number: v asks variable v (document 01: setting v) to be on, -v asks it to be off. 0 is no literal.
-- An assignment is a list of bytes, that of variable 1 first: 0 off, 1 on, 2 unassigned. Document 01's choice is one with no 2 in it, and its wish row one in which 2 is free.
use Rattle.std.specs.Prelude.{Bool, true, false, ◌&&◌, List, ℕ, zero, suc, eqb, ℤ, pos, negsuc, nat_abs, neg_ℤ, get_or}

-- the variable that a literal speaks of
abbrev pub variable : ℤ → ℕ
variable x = nat_abs x

-- "each rule closed by 0": the number that is no literal and closes a clause
abbrev pub closes : ℤ → Bool
closes x = eqb (variable x) 0

-- the value that makes a literal hold
abbrev pub wanted : ℤ → ℕ
wanted (pos k) = 1
wanted (negsuc k) = 0

-- the literal that asks a variable to be on (true) or off (false)
abbrev pub literal : ℕ → Bool → ℤ
literal v true = pos v
literal v false = neg_ℤ (pos v)

-- the literal of variable v that wants the value b: v itself at b = 1, -v at b = 0
abbrev pub is_literal : ℕ → ℕ → ℤ → Bool
is_literal v b x = eqb (variable x) v && eqb (wanted x) b

-- a variable's value in an assignment; what has no byte there is unassigned
abbrev pub value : List ℕ → ℕ → ℕ
value a zero = 2
value a (suc k) = get_or a k 2

-- "entry v holds when setting v is on, entry -v when it is off" ("Words of the trade")
abbrev pub holds : List ℕ → ℤ → Bool
holds a x = eqb (value a (variable x)) (wanted x)
