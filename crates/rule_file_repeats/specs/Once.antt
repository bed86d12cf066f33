-- A clause without its repeats: "An equal entry is stored once, at its first place." (document 02, L3)
use Rattle.std.specs.Prelude.{cond, not, ℤ}
use mathlib.Core.List.{List, [], ◌∷◌}
use Rattle.rule_list.specs.Sound.{may_join}

-- of the literals of a clause, after those read, the ones that are not equal to an earlier one
abbrev pub once : List ℤ → List ℤ → List ℤ
once read [] = []
once read (x ∷ c) = cond (may_join read x) (x ∷ once (x ∷ read) c) (once read c)

-- a whole clause without its repeats
abbrev pub without_repeats : List ℤ → List ℤ
without_repeats c = once [] c
