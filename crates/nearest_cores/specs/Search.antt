-- The search by disjoint cores: document 01's steps 2 to 5 at narrowed states. A completion goes by a guide, a row that asks of every wished variable its wish (`Guides` of SearchRight) and of a free one what a choice at hand has, so that a choice close to that one is mostly found soon.
use Rattle.std.specs.Prelude.{cond, List, ℕ, zero, suc, ℤ, Option, None, Some}
use Rattle.formula.specs.Formula.{models}
use Rattle.distance.specs.Distance.{disagreement}
use Rattle.walk.specs.State.{unassigned}
use Rattle.walk.specs.Branching.{fewest, branching_variable}
use Rattle.walk.specs.Walk.{Outcome, dead_end, complete, is_exhausted, fork_on}
use Rattle.nearest_cores.specs.Narrow.{narrow}

-- the completion by a guide is the answer; it breaks what the state breaks, since a guide keeps every wish that is left
abbrev pub completed_by : List ℕ → List ℕ → List ℕ → Outcome
completed_by row guide b = record { answer = Some (record { choice = complete guide b; broken = disagreement row b }); forks = 0 }

-- steps 2 to 5 at a narrowed state, where there is one
abbrev pub onward : List (List ℤ) → List ℕ → List ℕ → ℕ → (List ℕ → Outcome) → Option (List ℕ) → Outcome
onward f row guide d try None = dead_end
onward f row guide d try (Some b) =
    cond (models (complete guide b) f)
    (completed_by row guide b)
    (cond (is_exhausted f row d b)
    dead_end
    (fork_on try row b (fewest row b f) (branching_variable row b f)))

-- less than k forks deep
abbrev pub search_by : ℕ → List (List ℤ) → List ℕ → List ℕ → ℕ → List ℕ → Outcome
search_by zero f row guide d a = dead_end
search_by (suc k) f row guide d a = onward f row guide d (search_by k f row guide d) (narrow f row d a)

-- A fork assigns a variable, so that it goes no more forks deep than there are unassigned variables.
abbrev pub search_from : List (List ℤ) → List ℕ → List ℕ → ℕ → List ℕ → Outcome
search_from f row guide d a = search_by (suc (unassigned a)) f row guide d a
