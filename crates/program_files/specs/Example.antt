-- The rule file of document 01's example ("Examples"); its wish file is `both_off` of crate wish_file.
use Rattle.std.specs.Prelude.{List, [], ◌∷◌, ◌++◌, ℕ}

-- "With `p cnf 2 1`, `1 2 0`, and wishes"
abbrev pub one_rule : List ℕ
one_rule =
    (112 ∷ 32 ∷ 99 ∷ 110 ∷ 102 ∷ 32 ∷ 50 ∷ 32 ∷ 49 ∷ 10 ∷ [])
    ++ (49 ∷ 32 ∷ 50 ∷ 32 ∷ 48 ∷ 10 ∷ [])
