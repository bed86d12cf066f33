-- What looking at clauses and following the queue come to, as the code keeps a state: the queue of crate walk_unit_queue is a part of the trail, from the first variable that was not followed up.
use Rattle.std.specs.Prelude.{◌≡◌, List, ℕ, ◌≤◌, Option, None, Some, Result, Ok, Err}
use Rattle.std.proofs.Common.{arith}
use Rattle.std.proofs.Math.Seq.{slice}
use Rattle.walk_unit_queue.specs.Queue.{Pending}
use Rattle.walk_tally.specs.declared.Tally.{Tally}
use Rattle.walk_propagation.specs.Searching.{Searching, settled_most}
use Rattle.walk_propagation.specs.Trail.{Grown, grown_none, grown_more}
use Rattle.walk_propagation.specs.declared.propagated.DeadEnd.{DeadEnd}

-- the state with its queue, which begins at `head`
abbrev pub pending : ℕ → Tally → List ℕ → List ℕ → Pending
pending head t a trail = record { values = a; queue = slice head t.settled trail }

-- from one state of the search to a later one
pub record Moved (n : ℕ) (row : List ℕ) (t : Tally) (a trail : List ℕ) (t' : Tally) (a' trail' : List ℕ) : Type 0 where
  pub grown : Grown t.settled a trail t'.settled a' trail'
  pub searching : Searching n row a' trail' t'.settled t'.broken

module _ {n : ℕ} {row : List ℕ} {t : Tally} {a trail : List ℕ} where
  pub moved_none : Searching n row a trail t.settled t.broken → Moved n row t a trail t a trail
  moved_none h = record { grown = grown_none t.settled a trail; searching = h }

  pub moved_more : {t' t'' : Tally} {a' trail' a'' trail'' : List ℕ} → Moved n row t a trail t' a' trail' → Moved n row t' a' trail' t'' a'' trail'' → Moved n row t a trail t'' a'' trail''
  moved_more p q = record { grown = grown_more (omega (arith, settled_most q.searching, q.searching.long)) p.grown q.grown; searching = q.searching }

-- what looking at clauses came to, where the definition gives o for a queue that begins at a place
abbrev pub LookedBy : ℕ → List ℕ → (ℕ → Option Pending) → Tally → List ℕ → List ℕ → List ℕ → List ℕ → Result Tally DeadEnd → Type 0
LookedBy n row o t a trail a' trail' (Err e) = ((head : ℕ) → head ≤ t.settled → o head ≡ None) × Moved n row t a trail e.tally a' trail'
LookedBy n row o t a trail a' trail' (Ok t') = ((head : ℕ) → head ≤ t.settled → o head ≡ Some (pending head t' a' trail')) × Moved n row t a trail t' a' trail'

-- what following a queue came to, where the definition gives o
abbrev pub ComesTo : ℕ → List ℕ → Option (List ℕ) → Tally → List ℕ → List ℕ → List ℕ → List ℕ → Result Tally DeadEnd → Type 0
ComesTo n row o t a trail a' trail' (Err e) = (o ≡ None) × Moved n row t a trail e.tally a' trail'
ComesTo n row o t a trail a' trail' (Ok t') = (o ≡ Some a') × Moved n row t a trail t' a' trail'
