-- What propagation promises: a dead end, or the propagated state with its tally.
use Rattle.std.specs.Prelude.{◌≡◌, Bool, true, false, cond, List, [], ◌++◌, ℕ, ◌≤◌, ◌<◌, ltb, ℤ, length, get_or, take, Option, None, Some, Result, Ok, Err}
use Rattle.std.proofs.Common.{sym, ap, ap₂, subst, ◌∙◌, arith, lt-ltb, le-ltb}
use Rattle.std.proofs.lemmas.Option.{same_Some, none-some}
use Rattle.std.proofs.Math.Seq.{slice_empty}
use Rattle.formula.specs.Formula.{clauses}
use Rattle.distance.specs.Distance.{disagreement}
use Rattle.walk.specs.Propagation.{propagate}
use Rattle.walk.specs.Walk.{is_dead_end}
use Rattle.walk_occurrences.specs.Layout.{numbers_of}
use Rattle.walk_occurrences.specs.Occurrences.{filled_clauses, empty_clauses}
use Rattle.walk_occurrences.proofs.Reading.{every_clause}
use Rattle.walk_unit_queue.specs.Queue.{Pending, and_then, look_at, drain, settle}
use Rattle.walk_unit_queue.specs.Theorems.{EndsAlike}
use Rattle.walk_tally.specs.declared.Tally.{Tally}
use Rattle.walk_propagation.specs.Looked.{pending, Moved, moved_none, moved_more, LookedBy, ComesTo}
use Rattle.walk_propagation.specs.Looking.{Following}
use Rattle.walk_propagation.specs.Searching.{Searching}
use Rattle.walk_propagation.specs.declared.propagated.DeadEnd.{DeadEnd}

-- from the state a with its trail and tally t to a' and trail'
abbrev pub PropagatedBy : ℕ → List (List ℤ) → List ℕ → ℕ → Tally → List ℕ → List ℕ → List ℕ → List ℕ → Result Tally DeadEnd → Type 0
PropagatedBy n f row d t a trail a' trail' (Err e) = (is_dead_end f row d (propagate f a) ≡ true) × Moved n row t a trail e.tally a' trail'
PropagatedBy n f row d t a trail a' trail' (Ok t') = (a' ≡ propagate f a) × (is_dead_end f row d a' ≡ false) × Moved n row t a trail t' a' trail'

-- as settling by the arrangement ends like settling by the list
module _ (n : ℕ) (f : List (List ℤ)) (row : List ℕ) (d : ℕ) (t : Tally) (a trail a' trail' : List ℕ) where
  pub propagated_by : (o : Option (List ℕ)) → EndsAlike f row d (propagate f a) o → (r : Result Tally DeadEnd) → ComesTo n row o t a trail a' trail' r → PropagatedBy n f row d t a trail a' trail' r
  propagated_by None e (Err r) w = (e, w.1)
  propagated_by None e (Ok t') w = absurd (none-some a' w.0)
  propagated_by (Some b) e (Err r) w = absurd (none-some b (sym w.0))
  propagated_by (Some b) e (Ok t') w =
      let same : a' ≡ propagate f a = sym (same_Some b a' w.0) ∙ e.0 in
      (same, ap (is_dead_end f row d) same ∙ e.1, w.1)

-- more than d broken at the start, and not
module _ {n : ℕ} {row : List ℕ} {t : Tally} {a trail : List ℕ} (h : Searching n row a trail t.settled t.broken) (d : ℕ) (o : Option (List ℕ)) where
  limit : (b : Bool) → ltb d t.broken ≡ b → ltb d (disagreement row a) ≡ b
  limit b e = ap (ltb d) (sym h.breaks) ∙ e

  pub over_limit : d < t.broken → ComesTo n row (cond (ltb d (disagreement row a)) None o) t a trail a trail (Err (record { tally = t }))
  over_limit l = (ap (λ (b : Bool). cond b None o) (limit true (lt-ltb d t.broken l)), moved_none h)

  pub in_limit : t.broken ≤ d → cond (ltb d (disagreement row a)) None o ≡ o
  in_limit l = ap (λ (b : Bool). cond b None o) (limit false (le-ltb d t.broken l))

-- after the first look at all clauses
module _ (n : ℕ) (row : List ℕ) (o : ℕ → Option Pending) (next : Pending → Option (List ℕ)) (t : Tally) (a trail : List ℕ) where
  pub all_dead : (e : DeadEnd) (a' trail' : List ℕ) → LookedBy n row o t a trail a' trail' (Err e) → ComesTo n row (and_then (o t.settled) next) t a trail a' trail' (Err e)
  all_dead e a' trail' w = (ap (λ (p : Option Pending). and_then p next) (w.0 t.settled (omega arith)), w.1)

  pub all_looked : (t' : Tally) (a' trail' a'' trail'' : List ℕ) → LookedBy n row o t a trail a' trail' (Ok t')
      → (r : Result Tally DeadEnd) → ComesTo n row (next (pending t.settled t' a' trail')) t' a' trail' a'' trail'' r → ComesTo n row (and_then (o t.settled) next) t a trail a'' trail'' r
  all_looked t' a' trail' a'' trail'' w (Err e) u = (ap (λ (p : Option Pending). and_then p next) (w.0 t.settled (omega arith)) ∙ u.0, moved_more w.1 u.1)
  all_looked t' a' trail' a'' trail'' w (Ok t'') u = (ap (λ (p : Option Pending). and_then p next) (w.0 t.settled (omega arith)) ∙ u.0, moved_more w.1 u.1)

-- All clauses are looked at first, with nothing in the queue, and then the queue is followed.
module _ {rules : List ℤ} {arrangement row : List ℕ} {t : Tally} {a trail : List ℕ} (q : Following rules arrangement row t a trail) {d : ℕ} (few : t.broken ≤ d)
    {ks : List ℕ} (all : ks ≡ take (get_or arrangement 1 0) (numbers_of arrangement)) where
  abbrev f : List (List ℤ)
  f = clauses rules

  abbrev looked : ℕ → Option Pending
  looked head = look_at f row d (pending head t a trail) ks

  settles : settle f row d a ≡ and_then (looked t.settled) (drain f row d)
  settles =
      in_limit q.looking.searching d (and_then (look_at f row d (record { values = a; queue = [] }) (filled_clauses f ++ empty_clauses f)) (drain f row d)) few
      ∙ ap₂ (λ (l : List ℕ) (ks : List ℕ). and_then (look_at f row d (record { values = a; queue = l }) ks) (drain f row d)) (sym (slice_empty t.settled trail)) (sym (all ∙ every_clause q.beside))

  pub whole_dead : {e : DeadEnd} {a' trail' : List ℕ} → LookedBy (length a) row looked t a trail a' trail' (Err e) → ComesTo (length a) row (settle f row d a) t a trail a' trail' (Err e)
  whole_dead w = (settles ∙ ap (λ (p : Option Pending). and_then p (drain f row d)) (w.0 t.settled (omega arith)), w.1)

  pub whole_looked : {t' : Tally} {a' trail' : List ℕ} → LookedBy (length a) row looked t a trail a' trail' (Ok t')
      → (r : Result Tally DeadEnd) (a'' trail'' : List ℕ) → ComesTo (length a') row (drain f row d (pending t.settled t' a' trail')) t' a' trail' a'' trail'' r → ComesTo (length a) row (settle f row d a) t a trail a'' trail'' r
  whole_looked {t'} {a'} {trail'} w r a'' trail'' u = go r (subst (λ (n : ℕ). ComesTo n row (drain f row d (pending t.settled t' a' trail')) t' a' trail' a'' trail'' r) w.1.searching.state.size u)
    where
      then : settle f row d a ≡ drain f row d (pending t.settled t' a' trail')
      then = settles ∙ ap (λ (p : Option Pending). and_then p (drain f row d)) (w.0 t.settled (omega arith))

      go : (r : Result Tally DeadEnd) → ComesTo (length a) row (drain f row d (pending t.settled t' a' trail')) t' a' trail' a'' trail'' r → ComesTo (length a) row (settle f row d a) t a trail a'' trail'' r
      go (Err e) v = (then ∙ v.0, moved_more w.1 v.1)
      go (Ok t'') v = (then ∙ v.0, moved_more w.1 v.1)
