-- Document 01's example ("Examples") for nearest: "n = 2, rule 1 2, both wished off: nearest 1".
use Rattle.std.specs.Prelude.{◌≡◌, refl, List, [], ◌∷◌, ◌++◌, ℕ}
use Rattle.decimal.specs.Decimal.{decimal, digits}
use Rattle.rule_file.specs.Class.{class_of}
use Rattle.wish_file.specs.Examples.{both_off}
use Rattle.program_files.specs.Example.{one_rule}
use Rattle.program_nearest_text.specs.Printed.{nearest_printed}

-- `o 1`, `s OPTIMUM FOUND` and `v -1 2 0`: two choices break one wish, and the first of them has setting 1 off (document 02, L5)
abbrev pub three_lines : List ℕ
three_lines =
    (111 ∷ 32 ∷ 49 ∷ 10 ∷ [])
    ++ (115 ∷ 32 ∷ 79 ∷ 80 ∷ 84 ∷ 73 ∷ 77 ∷ 85 ∷ 77 ∷ 32 ∷ 70 ∷ 79 ∷ 85 ∷ 78 ∷ 68 ∷ 10 ∷ [])
    ++ (118 ∷ 32 ∷ 45 ∷ 49 ∷ 32 ∷ 50 ∷ 32 ∷ 48 ∷ 10 ∷ [])

pub printed-example : nearest_printed one_rule both_off ≡ three_lines
unfolding decimal digits class_of
printed-example = refl
