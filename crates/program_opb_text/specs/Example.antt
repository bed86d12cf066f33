-- The example of document 01 ("Examples"), exported; and the same with a rule without entries.
use Rattle.std.specs.Prelude.{◌≡◌, refl, List, [], ◌∷◌, ◌++◌, ℕ}
use Rattle.decimal.specs.Decimal.{decimal, digits}
use Rattle.rule_file.specs.Class.{class_of}
use Rattle.wish_file.specs.Examples.{both_off}
use Rattle.program_files.specs.Example.{one_rule}
use Rattle.program_opb_text.specs.Printed.{opb_printed}

-- `* #variable= 2 #constraint= 2`, `+1 x1 +1 x2 >= 1 ;` and `-1 x1 -1 x2 >= -1 ;`
abbrev pub three_lines : List ℕ
three_lines =
    (42 ∷ 32 ∷ 35 ∷ 118 ∷ 97 ∷ 114 ∷ 105 ∷ 97 ∷ 98 ∷ 108 ∷ 101 ∷ 61 ∷ 32 ∷ 50 ∷ 32 ∷ 35 ∷ 99 ∷ 111 ∷ 110 ∷ 115 ∷ 116 ∷ 114 ∷ 97 ∷ 105 ∷ 110 ∷ 116 ∷ 61 ∷ 32 ∷ 50 ∷ 10 ∷ [])
    ++ (43 ∷ 49 ∷ 32 ∷ 120 ∷ 49 ∷ 32 ∷ 43 ∷ 49 ∷ 32 ∷ 120 ∷ 50 ∷ 32 ∷ 62 ∷ 61 ∷ 32 ∷ 49 ∷ 32 ∷ 59 ∷ 10 ∷ [])
    ++ (45 ∷ 49 ∷ 32 ∷ 120 ∷ 49 ∷ 32 ∷ 45 ∷ 49 ∷ 32 ∷ 120 ∷ 50 ∷ 32 ∷ 62 ∷ 61 ∷ 32 ∷ 45 ∷ 49 ∷ 32 ∷ 59 ∷ 10 ∷ [])

-- `p cnf 2 2`, `1 2 0` and `0`
abbrev pub empty_rule : List ℕ
empty_rule =
    (112 ∷ 32 ∷ 99 ∷ 110 ∷ 102 ∷ 32 ∷ 50 ∷ 32 ∷ 50 ∷ 10 ∷ [])
    ++ (49 ∷ 32 ∷ 50 ∷ 32 ∷ 48 ∷ 10 ∷ [])
    ++ (48 ∷ 10 ∷ [])

-- setting 1 or 2 must be on, both are wished off, and at most one wish may be broken
pub exported-example : opb_printed one_rule both_off ≡ three_lines
unfolding decimal digits class_of
exported-example = refl

-- "16, a rule without entries, place the first such rule's closing zero": the fourth number of the list
pub refused-example : opb_printed empty_rule both_off ≡ 49 ∷ 54 ∷ 32 ∷ 51 ∷ 10 ∷ []
unfolding decimal digits class_of
refused-example = refl
