-- The example of document 01 ("Examples"), a line each.
use Rattle.std.specs.Prelude.{◌≡◌, refl, List, [], ◌∷◌, ◌++◌, ℕ, take}
use Rattle.decimal.specs.Decimal.{decimal, digits}
use Rattle.rule_file.specs.Class.{class_of}
use Rattle.wish_file.specs.Examples.{both_off}
use Rattle.program_files.specs.Example.{one_rule}
use Rattle.program_rewrite_text.specs.Printed.{printed}

-- `p cnf 4 8`, `1 2 0`, `1 2 -3 0`, `-2 3 0`, `1 -4 0`, `-1 3 0`, `2 -4 0`, `-1 -2 4 0` and `-4 0`
abbrev pub nine_lines : List ℕ
nine_lines =
    (112 ∷ 32 ∷ 99 ∷ 110 ∷ 102 ∷ 32 ∷ 52 ∷ 32 ∷ 56 ∷ 10 ∷ [])
    ++ (49 ∷ 32 ∷ 50 ∷ 32 ∷ 48 ∷ 10 ∷ [])
    ++ (49 ∷ 32 ∷ 50 ∷ 32 ∷ 45 ∷ 51 ∷ 32 ∷ 48 ∷ 10 ∷ [])
    ++ (45 ∷ 50 ∷ 32 ∷ 51 ∷ 32 ∷ 48 ∷ 10 ∷ [])
    ++ (49 ∷ 32 ∷ 45 ∷ 52 ∷ 32 ∷ 48 ∷ 10 ∷ [])
    ++ (45 ∷ 49 ∷ 32 ∷ 51 ∷ 32 ∷ 48 ∷ 10 ∷ [])
    ++ (50 ∷ 32 ∷ 45 ∷ 52 ∷ 32 ∷ 48 ∷ 10 ∷ [])
    ++ (45 ∷ 49 ∷ 32 ∷ 45 ∷ 50 ∷ 32 ∷ 52 ∷ 32 ∷ 48 ∷ 10 ∷ [])
    ++ (45 ∷ 52 ∷ 32 ∷ 48 ∷ 10 ∷ [])

-- "it prints (header: settings, rules; then a rule a line)"
pub printed-example : printed one_rule both_off ≡ nine_lines
unfolding decimal digits class_of
printed-example = refl

-- "empty file 1 at 0", and where both files are bad the rule file counts; "A 15-byte wish file: 8 at 0"
pub refused-example : (printed [] both_off ≡ 49 ∷ 32 ∷ 48 ∷ 10 ∷ [])
    × (printed [] [] ≡ 49 ∷ 32 ∷ 48 ∷ 10 ∷ [])
    × (printed one_rule (take 15 both_off) ≡ 56 ∷ 32 ∷ 48 ∷ 10 ∷ [])
unfolding decimal digits class_of
refused-example = (refl, refl, refl)
