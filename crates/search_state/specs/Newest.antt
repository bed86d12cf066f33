-- The newest variable of a state, and the state before it.
use Rattle.std.specs.Prelude.{List, ℕ, ◌-◌}
use Rattle.std.proofs.Math.Seq.{slice}
use Rattle.walk_tally.specs.declared.Tally.{Tally}
use Rattle.walk_propagation.specs.Trail.{undone}

-- where the newest variable stands on the trail: a state is tried after a fork assigned one, or at the root
abbrev pub newest : Tally → ℕ
newest t = t.settled - 1

-- the state before it was assigned
abbrev pub before : Tally → List ℕ → List ℕ → List ℕ
before t a trail = undone (slice (newest t) t.settled trail) a
