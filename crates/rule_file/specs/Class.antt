-- The classes of bytes (document 01, "The rule file": "blank, digit, minus, letter c, other"; document 02, L4: "Each byte keeps its class").
use Rattle.std.specs.Prelude.{Bool, cond, ◌||◌, ℕ, eqb}
use Rattle.decimal.specs.Decimal.{is_digit}
use Rattle.rule_file.specs.declared.Class.{Class}
use Rattle.rule_file.specs.declared.Class.TheVariants.{Blank, Digit, Minus, LetterC, Other}

abbrev pub blank : ℕ
blank = 0

abbrev pub digit : ℕ
digit = 1

abbrev pub minus : ℕ
minus = 2

abbrev pub letter_c : ℕ
letter_c = 3

abbrev pub other : ℕ
other = 4

-- "blank is 9, 10, 13 or 32"
abbrev pub is_blank : ℕ → Bool
is_blank b = eqb b 9 || (eqb b 10 || (eqb b 13 || eqb b 32))

-- the class of a byte
unfoldable pub class_of : ℕ → ℕ
class_of b = cond (is_blank b) blank (cond (is_digit b) digit (cond (eqb b 45) minus (cond (eqb b 99) letter_c other)))

-- the number that the definitions have for a class
abbrev pub class_number : Class → ℕ
class_number Blank = blank
class_number Digit = digit
class_number Minus = minus
class_number LetterC = letter_c
class_number Other = other
