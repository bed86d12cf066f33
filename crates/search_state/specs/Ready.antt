-- What a search asks for, what is prepared for it, and what it is lent beside its state.
use Rattle.std.specs.Prelude.{List, ℕ, ◌+◌, ◌*◌, ◌≤◌, ◌<◌, ℤ, length, take}
use Rattle.limits.specs.Limits.{max_variables}
use Rattle.rule_list.specs.Sound.{SoundList}
use Rattle.walk_occurrences.specs.Table.{Beside}
use Rattle.walk_witnesses.specs.Witnesses.{Witnesses}

-- what it asks for: so many variables, a sound list, and room for the choice
pub record Startable (n : ℕ) (rules : List ℤ) (room : ℕ) : Type 0 where
  pub few : n ≤ max_variables
  pub sound : SoundList n rules
  pub wide : n ≤ room

-- the list's arrangement, and of the space for witnesses one for each of so many clauses
pub record Prepared (n : ℕ) (rules : List ℤ) (arrangement witnesses : List ℕ) (many : ℕ) : Type 0 where
  pub beside : Beside n rules arrangement
  pub inside : many ≤ length witnesses
  pub witnessed : Witnesses rules (take many witnesses)

-- for n variables: no more than document 01 admits, a sound list with its arrangement and its clauses' witnesses, and a table of so many numbers that each literal's weight and each variable's mark has a place
pub record Ready (rules : List ℤ) (arrangement witnesses : List ℕ) (n weights : ℕ) : Type 0 where
  pub few : n ≤ max_variables
  pub sound : SoundList n rules
  pub beside : Beside n rules arrangement
  pub witnessed : Witnesses rules witnesses
  pub weighs : 3 * n + 2 < weights
