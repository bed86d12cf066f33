-- Decimal numbers as files have them, in ASCII bytes (document 01, "The rule file" and "The wish file").
use Rattle.std.specs.Prelude.{Bool, true, false, cond, not, ◌&&◌, List, [], ◌∷◌, ◌++◌, ℕ, zero, suc, ◌+◌, ◌-◌, ◌*◌, ◌/◌, ◌%◌, eqb, leb, ltb, length, Option, None, Some}

-- the last k digits of a number at most, without leading zeros; 0 is the digit 0
unfoldable pub digits : ℕ → ℕ → List ℕ
digits zero v = []
digits (suc k) v = elim (ltb v 10) [ true ↦ (48 + v) ∷ [] | false ↦ digits k (v / 10) ++ ((48 + v % 10) ∷ []) ]

-- the digits of a number: v has at most v + 1 of them, so that many steps are enough
unfoldable pub decimal : ℕ → List ℕ
decimal v = digits (suc v) v

-- a decimal digit
abbrev pub is_digit : ℕ → Bool
is_digit b = leb 48 b && leb b 57

abbrev pub only_digits : List ℕ → Bool
only_digits [] = true
only_digits (b ∷ w) = is_digit b && only_digits w

-- a zero in front of other digits: "no leading zero, 0 itself excepted"
abbrev pub leading_zero : List ℕ → Bool
leading_zero [] = false
leading_zero (b ∷ []) = false
leading_zero (b ∷ c ∷ w) = eqb b 48

-- the number that digits give after those that gave v
abbrev pub value_from : ℕ → List ℕ → ℕ
value_from v [] = v
value_from v (b ∷ w) = value_from (v * 10 + (b - 48)) w

-- "Numbers have one to five decimal digits and no leading zero, 0 itself excepted."
abbrev pub is_number : List ℕ → Bool
is_number w = leb 1 (length w) && (leb (length w) 5 && (only_digits w && not (leading_zero w)))

-- the number that some bytes are, if they are one
abbrev pub number : List ℕ → Option ℕ
number w = cond (is_number w) (Some (value_from 0 w)) None
