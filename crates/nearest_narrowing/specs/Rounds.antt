-- The rounds of narrowing: what one comes to, and what each turn of the loop over them keeps.
use Rattle.std.specs.Prelude.{◌≡◌, refl, Bool, true, cond, List, ℕ, ◌≤◌, ◌<◌, eqb, ltb, ℤ, length, take, Option, None, Some, Result, Ok, Err}
use Rattle.std.proofs.Common.{sym, ap, subst, ◌∙◌, arith, eq-eqb, ne_eqb, lt-ltb, le-ltb}
use Rattle.std.proofs.Math.Seq.{slice, slice_empty}
use Rattle.formula.specs.Formula.{clauses}
use Rattle.literal.specs.Literal.{value}
use Rattle.walk.specs.Propagation.{propagate}
use Rattle.walk.specs.State.{fits, unassigned}
use Rattle.walk.specs.Walk.{is_dead_end}
use Rattle.walk_tally.specs.declared.Tally.{Tally}
use Rattle.walk_propagation.specs.declared.propagated.DeadEnd.{DeadEnd}
use Rattle.walk_propagation.specs.Looked.{pending, Moved, moved_none, moved_more, ComesTo}
use Rattle.walk_propagation.specs.Looking.{Following}
use Rattle.walk_propagation.specs.Propagated.{PropagatedBy}
use Rattle.walk_propagation.specs.Searching.{Searching, searching_kept}
use Rattle.walk_propagation.specs.Trail.{undone}
use Rattle.walk_unit_queue.specs.Due.{NoneDue}
use Rattle.walk_unit_queue.specs.Queue.{follow}
use Rattle.walk_unit_queue.specs.Theorems.{Covers}
use Rattle.walk_unit_queue.proofs.Theorems.{settled_none_due, none_covers}
use Rattle.nearest_cores.specs.Cores.{is_left, scan}
use Rattle.nearest_cores.specs.Narrow.{keep_all, unless_kept, by_cores, narrowed, narrow}
use Rattle.nearest_cores.proofs.NarrowRight.{narrow_step, left_unassigned}
use Rattle.nearest_core_scan.specs.Followed.{followed}
use Rattle.nearest_narrowing.specs.Keeping.{KeptTo}
use Rattle.nearest_narrowing.specs.declared.rounds.Round.{Round}
use Rattle.nearest_narrowing.specs.declared.rounds.Round.TheVariants.{Narrowed, Kept}

-- What a round comes to, from the state a with its trail and tally t to a' and trail': where wishes were kept, it is narrowed on from there, and only clauses of those variables can ask for anything.
abbrev pub RoundBy : ℕ → List (List ℤ) → List ℕ → ℕ → Tally → List ℕ → List ℕ → List ℕ → List ℕ → Result Round DeadEnd → Type 0
RoundBy n f row d t a trail a' trail' (Err e) = (narrow f row d a ≡ None) × Moved n row t a trail e.tally a' trail'
RoundBy n f row d t a trail a' trail' (Ok (Narrowed t')) = (narrow f row d a ≡ Some a') × Moved n row t a trail t' a' trail'
RoundBy n f row d t a trail a' trail' (Ok (Kept place t')) =
    (narrow f row d a ≡ narrow f row d a') × Moved n row t a trail t' a' trail' × (place ≤ t'.settled) × Covers f (pending place t' a' trail') × (t.settled < t'.settled)

-- What the search for cores leaves of the state a with its trail and tally t: the state, and as much of the trail as is assigned.
pub record CoresFound (f : List (List ℤ)) (row : List ℕ) (t : Tally) (a trail : List ℕ) (bound : ℕ) (taken a' trail' : List ℕ) : Type 0 where
  pub least : bound ≡ (scan f row a).bound
  pub marks : taken ≡ (scan f row a).taken
  pub state : a' ≡ a
  pub order : take t.settled trail' ≡ take t.settled trail
  pub long : length trail' ≡ length trail

module _ {n : ℕ} {row : List ℕ} {t : Tally} {a trail : List ℕ} (given : Searching n row a trail t.settled t.broken) (f : List (List ℤ)) (fit : fits n f ≡ true) (d : ℕ) where
  abbrev rest : List ℕ → Option (List ℕ)
  rest = narrow f row d

  step : rest a ≡ narrowed rest f row d (propagate f a)
  step = narrow_step n f fit row d a given.state

  -- unit propagation comes to a dead end
  pub round_dead : {e : DeadEnd} {a' trail' : List ℕ} → PropagatedBy n f row d t a trail a' trail' (Err e) → RoundBy n f row d t a trail a' trail' (Err e)
  round_dead told = (step ∙ ap (λ (b : Bool). cond b None (by_cores rest row d (propagate f a) (scan f row (propagate f a)))) told.0, told.1)

  -- it ends in the state a'
  module _ {t' : Tally} {a' trail' : List ℕ} (told : PropagatedBy n f row d t a trail a' trail' (Ok t')) where
    pub round_none_due : NoneDue f a'
    round_none_due = rw told.0 (settled_none_due n f fit row d given.state (ap (is_dead_end f row d) (sym told.0) ∙ told.1))

    lives : rest a ≡ by_cores rest row d a' (scan f row a')
    lives = step ∙ ap (narrowed rest f row d) (sym told.0) ∙ ap (λ (b : Bool). cond b None (by_cores rest row d a' (scan f row a'))) told.1

    -- the cores are found
    module _ {bound : ℕ} {taken a'' trail'' : List ℕ} (found : CoresFound f row t' a' trail' bound taken a'' trail'') where
      pub round_left : (v : ℕ) → is_left taken v ≡ true → value a'' v ≡ 2
      round_left v e = ap (λ (b : List ℕ). value b v) found.state ∙ left_unassigned f row a' v (ap (λ (l : List ℕ). is_left l v) (sym found.marks) ∙ e)

      pub round_moved : Moved n row t a trail t' a'' trail''
      round_moved =
          subst (λ (b : List ℕ). Moved n row t a trail t' b trail'') (sym found.state)
          (moved_more told.2
          (record {
            grown = record { more = omega arith; kept = found.order; back = ap (λ (vs : List ℕ). undone vs a') (slice_empty t'.settled trail''); long = found.long };
            searching = searching_kept told.2.searching trail'' found.long found.order;
          }))

      by_bound : rest a ≡ cond (ltb d bound) None (unless_kept rest a'' (keep_all row d taken bound a''))
      by_bound = rw (found.least, found.marks, found.state) lives

      -- every model breaks too much
      pub round_over : d < bound → RoundBy n f row d t a trail a'' trail'' (Err (record { tally = t' }))
      round_over l = (by_bound ∙ ap (λ (b : Bool). cond b None (unless_kept rest a'' (keep_all row d taken bound a''))) (lt-ltb d bound l), round_moved)

      -- the wishes are kept that must be
      module _ (within : bound ≤ d) {t'' : Tally} {a''' trail''' : List ℕ} (values : a''' ≡ keep_all row d taken bound a'') (kept : KeptTo n row t' a'' trail'' t'' a''' trail''') where
        by_kept : rest a ≡ cond (eqb (unassigned a''') (unassigned a'')) (Some a'') (rest a''')
        by_kept = by_bound ∙ ap (λ (b : Bool). cond b None (unless_kept rest a'' (keep_all row d taken bound a''))) (le-ltb d bound within) ∙ ap (unless_kept rest a'') (sym values)

        pub round_narrowed : t''.settled ≡ t'.settled → RoundBy n f row d t a trail a''' trail''' (Ok (Narrowed t''))
        round_narrowed e = (
          by_kept ∙ ap (λ (b : Bool). cond b (Some a'') (rest a''')) (eq-eqb (unassigned a''') (unassigned a'') (omega (arith, kept.moved.searching.assigned_and_not, round_moved.searching.assigned_and_not))) ∙ ap Some (sym same),
          moved_more round_moved kept.moved,
        )
          where
            same : a''' ≡ a''
            same = sym (ap (λ (vs : List ℕ). undone vs a''') (ap (λ (k : ℕ). slice t'.settled k trail''') e ∙ slice_empty t'.settled trail''')) ∙ kept.moved.grown.back

        pub round_kept : (t''.settled ≡ t'.settled → ⊥) → RoundBy n f row d t a trail a''' trail''' (Ok (Kept t'.settled t''))
        round_kept e = (
          by_kept ∙ ap (λ (b : Bool). cond b (Some a'') (rest a''')) (ne_eqb (unassigned a''') (unassigned a'') (λ q. e (omega (arith, kept.moved.searching.assigned_and_not, round_moved.searching.assigned_and_not)))),
          moved_more round_moved kept.moved,
          kept.moved.grown.more,
          kept.covers f t'.settled (omega arith) covered,
          omega (arith, told.2.grown.more, kept.moved.grown.more),
        )
          where
            covered : Covers f (pending t'.settled t' a'' trail'')
            covered =
                rw found.state
                (subst (λ (q : List ℕ). Covers f (record { values = a'; queue = q })) (sym (slice_empty t'.settled trail'')) (none_covers f round_none_due))

-- The loop: from the state a₀ to a, which is narrowed to the same, and whose queue begins at `head`.
pub record Narrowing (n : ℕ) (f : List (List ℤ)) (row : List ℕ) (d : ℕ) (t₀ : Tally) (a₀ trail₀ : List ℕ) (head : ℕ) (t : Tally) (a trail : List ℕ) : Type 0 where
  pub moved : Moved n row t₀ a₀ trail₀ t a trail
  pub begun : head ≤ t.settled
  pub covers : Covers f (pending head t a trail)
  pub same : narrow f row d a₀ ≡ narrow f row d a

pub narrowing_start : {n : ℕ} (f : List (List ℤ)) {row : List ℕ} (d : ℕ) {head : ℕ} {t : Tally} {a trail : List ℕ} → Searching n row a trail t.settled t.broken → head ≤ t.settled → Covers f (pending head t a trail)
    → Narrowing n f row d t a trail head t a trail
narrowing_start f d h l c = record { moved = moved_none h; begun = l; covers = c; same = refl }

module _ {n : ℕ} {f : List (List ℤ)} {row : List ℕ} {d : ℕ} {t₀ : Tally} {a₀ trail₀ : List ℕ} {head : ℕ} {t : Tally} {a trail : List ℕ} (p : Narrowing n f row d t₀ a₀ trail₀ head t a trail) where
  -- what is said of as many variables as a has is said of n
  pub narrowing_sized : (P : ℕ → Type 0) → P (length a) → P n
  narrowing_sized P = subst P p.moved.searching.state.size

  pub narrowing_dead : {e : DeadEnd} {a' trail' : List ℕ} → RoundBy n f row d t a trail a' trail' (Err e) → ComesTo n row (narrow f row d a₀) t₀ a₀ trail₀ a' trail' (Err e)
  narrowing_dead w = (p.same ∙ w.0, moved_more p.moved w.1)

  pub narrowing_end : {t' : Tally} {a' trail' : List ℕ} → RoundBy n f row d t a trail a' trail' (Ok (Narrowed t')) → ComesTo n row (narrow f row d a₀) t₀ a₀ trail₀ a' trail' (Ok t')
  narrowing_end w = (p.same ∙ w.0, moved_more p.moved w.1)

  pub narrowing_next : {place : ℕ} {t' : Tally} {a' trail' : List ℕ} → RoundBy n f row d t a trail a' trail' (Ok (Kept place t')) → Narrowing n f row d t₀ a₀ trail₀ place t' a' trail'
  narrowing_next w = record { moved = moved_more p.moved w.1; begun = w.2; covers = w.3; same = p.same ∙ w.0 }

  -- what narrowing comes to from here is what it comes to from the start
  pub narrowing_on : (a' trail' : List ℕ) (r : Result Tally DeadEnd) → ComesTo n row (narrow f row d a) t a trail a' trail' r → ComesTo n row (narrow f row d a₀) t₀ a₀ trail₀ a' trail' r
  narrowing_on a' trail' (Err e) w = (p.same ∙ w.0, moved_more p.moved w.1)
  narrowing_on a' trail' (Ok t') w = (p.same ∙ w.0, moved_more p.moved w.1)

-- what unit propagation is said to come to, from a state in which only clauses of the variables from a place of the trail on can ask for anything
module _ {rules : List ℤ} {arrangement row : List ℕ} {t : Tally} {a trail : List ℕ} (h : Following rules arrangement row t a trail) (d from : ℕ) (covers : Covers (clauses rules) (pending from t a trail)) where
  pub propagated_dead : {e : DeadEnd} {a' trail' : List ℕ} → ComesTo (length a) row (follow (clauses rules) row d (pending from t a trail)) t a trail a' trail' (Err e) → PropagatedBy (length a) (clauses rules) row d t a trail a' trail' (Err e)
  propagated_dead {e} {a'} {trail'} w = followed h d from covers a' trail' (Err e) w

  pub propagated_settled : {t' : Tally} {a' trail' : List ℕ} → ComesTo (length a) row (follow (clauses rules) row d (pending from t a trail)) t a trail a' trail' (Ok t') → PropagatedBy (length a) (clauses rules) row d t a trail a' trail' (Ok t')
  propagated_settled {t'} {a'} {trail'} w = followed h d from covers a' trail' (Ok t') w
