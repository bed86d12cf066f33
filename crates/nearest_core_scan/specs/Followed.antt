-- What following up the queue says of the state, where only clauses of the queue's variables can ask for anything.
use Rattle.std.specs.Prelude.{List, ℕ, ℤ, length, Result}
use Rattle.std.proofs.Math.Seq.{slice}
use Rattle.formula.specs.Formula.{clauses}
use Rattle.walk_unit_queue.specs.Queue.{follow}
use Rattle.walk_unit_queue.specs.Theorems.{Covers}
use Rattle.walk_unit_queue.proofs.Theorems.{follow_alike}
use Rattle.walk_tally.specs.declared.Tally.{Tally}
use Rattle.walk_propagation.specs.Looked.{pending, ComesTo}
use Rattle.walk_propagation.specs.Looking.{Following}
use Rattle.walk_propagation.specs.Propagated.{PropagatedBy, propagated_by}
use Rattle.walk_propagation.specs.declared.propagated.DeadEnd.{DeadEnd}

pub followed : {rules : List ℤ} {arrangement row : List ℕ} {t : Tally} {a trail : List ℕ} → Following rules arrangement row t a trail → (d from : ℕ) → Covers (clauses rules) (pending from t a trail)
    → (a' trail' : List ℕ) (r : Result Tally DeadEnd) → ComesTo (length a) row (follow (clauses rules) row d (pending from t a trail)) t a trail a' trail' r → PropagatedBy (length a) (clauses rules) row d t a trail a' trail' r
followed {rules} {arrangement} {row} {t} {a} {trail} h d from covers a' trail' =
    propagated_by (length a) (clauses rules) row d t a trail a' trail' (follow (clauses rules) row d (pending from t a trail))
    (follow_alike (length a) (clauses rules) h.looking.fit row d a h.looking.searching.state (slice from t.settled trail) covers)
