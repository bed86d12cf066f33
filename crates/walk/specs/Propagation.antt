-- Unit propagation. Document 01, step 1: "Settle: while an open rule has exactly one unsettled entry, the lowest numbered such rule has that entry made to hold."
use Rattle.std.specs.Prelude.{cond, List, [], ◌∷◌, ℕ, zero, suc, ℤ, Option, None, Some}
use Rattle.walk.specs.State.{find, unassigned, satisfy, is_unassigned, is_unit}

-- the one unassigned literal of the lowest numbered unit clause
abbrev pub unit_literal : List ℕ → List (List ℤ) → Option ℤ
unit_literal a [] = None
unit_literal a (c ∷ f) = cond (is_unit a c) (find (is_unassigned a) c) (unit_literal a f)

-- one round of unit propagation, and what comes after it
abbrev pub propagate_round : (List ℕ → List ℕ) → List ℕ → Option ℤ → List ℕ
propagate_round rest a None = a
propagate_round rest a (Some x) = rest (satisfy a x)

-- at most k rounds
abbrev pub propagate_by : ℕ → List (List ℤ) → List ℕ → List ℕ
propagate_by zero f a = a
propagate_by (suc k) f a = propagate_round (propagate_by k f) a (unit_literal a f)

-- Each round assigns a variable, so that there are no more rounds than unassigned variables.
abbrev pub propagate : List (List ℤ) → List ℕ → List ℕ
propagate f a = propagate_by (unassigned a) f a
