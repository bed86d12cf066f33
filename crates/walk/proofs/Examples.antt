-- Small books on which the definition runs, worked out by hand from document 01's steps 4 and 5: what the theorems leave open, since the walk would be right with another order too.
use Rattle.std.specs.Prelude.{◌≡◌, refl, List, [], ◌∷◌, ℕ, pos, negsuc, replicate, None, Some}
use Rattle.walk.specs.Branching.{branching_variable}
use Rattle.walk.specs.Walk.{Outcome, walk, plain_walk}

abbrev found_by : List ℕ → ℕ → ℕ → Outcome
found_by choice broken forks = record { answer = Some (record { choice = choice; broken = broken }); forks = forks }

-- rule 1 2, both wished off, d = 1: of equal scores the lowest number, "against the wish first", one fork
example_against : walk 2 ((pos 1 ∷ pos 2 ∷ []) ∷ []) (0 ∷ 0 ∷ []) 1 ≡ found_by (1 ∷ 0 ∷ []) 1 1
example_against = refl

-- rules 1 2 and -1 -2, no wishes: "else on first"
example-on : plain_walk 2 ((pos 1 ∷ pos 2 ∷ []) ∷ (negsuc 0 ∷ negsuc 1 ∷ []) ∷ []) ≡ found_by (1 ∷ 0 ∷ []) 0 1
example-on = refl

-- rules -1 2, -1 -2 and 1 3, no wishes: 1 on is a dead end, "then the other value"
example-other : plain_walk 3 ((negsuc 0 ∷ pos 2 ∷ []) ∷ (negsuc 0 ∷ negsuc 1 ∷ []) ∷ (pos 1 ∷ pos 3 ∷ []) ∷ []) ≡ found_by (0 ∷ 0 ∷ 1 ∷ []) 0 1
example-other = refl

-- rules 1 2, 1 -2, -1 3 and -1 -3 can't be met: two states are tried, and only the fork between them counts
example_none : plain_walk 3 ((pos 1 ∷ pos 2 ∷ []) ∷ (pos 1 ∷ negsuc 1 ∷ []) ∷ (negsuc 0 ∷ pos 3 ∷ []) ∷ (negsuc 0 ∷ negsuc 2 ∷ []) ∷ []) ≡ record { answer = None; forks = 1 }
example_none = refl

-- The branching variable where no variable is assigned. Of the opposed clauses 1 4 5 and 2 3 the shorter gives the candidates, though 1 stands in most clauses; 6 is free, so that the last two are not opposed.
example-fewest : branching_variable (0 ∷ 0 ∷ 0 ∷ 0 ∷ 0 ∷ 2 ∷ []) (replicate 6 2)
    ((pos 1 ∷ pos 4 ∷ pos 5 ∷ []) ∷ (pos 2 ∷ pos 3 ∷ []) ∷ (pos 1 ∷ pos 6 ∷ []) ∷ (pos 1 ∷ negsuc 5 ∷ []) ∷ [])
    ≡ Some 2
example-fewest = refl

-- without wishes: one clause of two literals weighs more than three of three (4 to the power 8 against 3 times 4 to the power 7)
example-weight : branching_variable (replicate 9 2) (replicate 9 2)
    ((pos 1 ∷ pos 2 ∷ pos 3 ∷ []) ∷ (pos 1 ∷ pos 4 ∷ pos 5 ∷ []) ∷ (pos 1 ∷ pos 6 ∷ pos 7 ∷ []) ∷ (pos 8 ∷ pos 9 ∷ []) ∷ [])
    ≡ Some 8
example-weight = refl

-- and a variable in one clause of either sense scores more than one in two clauses of one sense, "3 times min(P, Q)"
example_both : branching_variable (replicate 6 2) (replicate 6 2)
    ((pos 1 ∷ pos 2 ∷ []) ∷ (pos 1 ∷ pos 3 ∷ []) ∷ (pos 4 ∷ pos 5 ∷ []) ∷ (negsuc 3 ∷ pos 6 ∷ []) ∷ [])
    ≡ Some 4
example_both = refl
