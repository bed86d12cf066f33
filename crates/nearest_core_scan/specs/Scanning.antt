-- The way through the wishes as the code keeps it, beside its definition.
use Rattle.std.specs.Prelude.{◌≡◌, List, ℕ, suc, ◌+◌, ◌*◌, ◌≤◌, ◌<◌, ℤ, length, take}
use Rattle.std.proofs.Math.Seq.{slice}
use Rattle.formula.specs.Formula.{clauses}
use Rattle.wish.specs.Wish.{max_weight}
use Rattle.walk_unit_queue.specs.Due.{NoneDue}
use Rattle.walk_tally.specs.declared.Tally.{Tally}
use Rattle.walk_propagation.specs.Looking.{Following}
use Rattle.walk_propagation.specs.Trail.{undone}
use Rattle.nearest_cores.specs.Cores.{Scan, scan_wish}
use Rattle.nearest_core_scan.specs.declared.progress.Progress.{Progress}
use Rattle.nearest_core_scan.specs.Broken.{Unbroken, LeftFree}
use Rattle.nearest_core_scan.specs.Closing.{Among}

-- what is at hand, as the definition has it
abbrev pub present : Progress → List ℕ → List ℕ → List ℕ → Scan
present p a taken assumed = record { values = a; assumed = take p.assumed assumed; taken = taken; bound = p.bound }

-- the values without what came since the state with the tally base
abbrev pub set_back : Tally → Progress → List ℕ → List ℕ → List ℕ
set_back base p trail a = undone (slice base.settled p.tally.settled trail) a

-- Before variable v, from the state b with the tally base: the values and the state are states of the search to which unit propagation adds nothing, setting the values back gives the state, of what is not taken nothing is assigned in the state and nothing broken by the values, and the table has room for one wish more than there are variables.
pub record Scanning (rules : List ℤ) (arrangement row : List ℕ) (base : Tally) (b : List ℕ) (v : ℕ) (p : Progress) (a trail taken assumed : List ℕ) : Type 0 where
  pub following : Following rules arrangement row p.tally a trail
  pub quiet : NoneDue (clauses rules) a
  pub base_following : Following rules arrangement row base b trail
  pub base_quiet : NoneDue (clauses rules) b
  pub since : base.settled ≤ p.tally.settled
  pub back : set_back base p trail a ≡ b
  pub left_free : LeftFree b taken
  pub unbroken : Unbroken row taken a
  pub among : Among (length a) (take p.assumed assumed)
  pub few : p.assumed < v
  pub room : length a < length assumed
  pub wide : length taken ≡ length a
  pub small : p.bound ≤ (length a + v) * max_weight

-- what one variable v comes to, from the scan s and the trail
pub record Scanned (rules : List ℤ) (arrangement row : List ℕ) (base : Tally) (b : List ℕ) (v : ℕ) (s : Scan) (trail : List ℕ) (r : Progress) (a' trail' taken' assumed' : List ℕ) : Type 0 where
  pub next : Scanning rules arrangement row base b (suc v) r a' trail' taken' assumed'
  pub step : present r a' taken' assumed' ≡ scan_wish (clauses rules) row b s v
  pub kept : take base.settled trail' ≡ take base.settled trail
