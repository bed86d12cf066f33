-- A wish is assumed: its variable is assigned as wished, and unit propagation follows.
use Rattle.std.specs.Prelude.{◌≡◌, Bool, true, false, ◌||◌, List, [], ◌∷◌, ◌++◌, ℕ, ◌*◌, ◌≤◌, ◌<◌, ℤ, length, Result, Ok, Err}
use Rattle.std.proofs.Common.{sym, ap, ap₂, subst, ◌∙◌, zero-le, arith, le-ltb}
use Rattle.std.proofs.Math.Bool.{or-false}
use Rattle.std.proofs.Math.Seq.{slice, slice_empty}
use Rattle.literal.specs.Literal.{value}
use Rattle.formula.specs.Formula.{any, clauses}
use Rattle.wish.specs.Wish.{wished_value, max_weight}
use Rattle.wish.specs.Laws.{wished_bit, cost-most}
use Rattle.distance.specs.Distance.{disagreement}
use Rattle.limits.specs.Limits.{max_variables}
use Rattle.walk.specs.Propagation.{propagate}
use Rattle.walk.proofs.PropagationLaws.{propagate_state}
use Rattle.walk.specs.State.{is_falsified}
use Rattle.walk.specs.Walk.{is_dead_end}
use Rattle.walk_unit_queue.specs.Due.{NoneDue}
use Rattle.walk_unit_queue.specs.Queue.{follow}
use Rattle.walk_unit_queue.specs.Theorems.{Covers}
use Rattle.walk_unit_queue.proofs.Theorems.{fork_covers, settled_none_due}
use Rattle.walk_tally.specs.declared.Tally.{Tally}
use Rattle.walk_propagation.specs.Assigned.{AssignedTo, assigned_searching, assigned_grown}
use Rattle.walk_propagation.specs.Looked.{pending, Moved, moved_more, ComesTo}
use Rattle.walk_propagation.specs.Looking.{Following, following_moved}
use Rattle.walk_propagation.specs.Propagated.{PropagatedBy}
use Rattle.walk_propagation.specs.Searching.{Searching, not_all}
use Rattle.walk_propagation.specs.Trail.{slice-stored}
use Rattle.walk_propagation.specs.declared.propagated.DeadEnd.{DeadEnd}
use Rattle.nearest_cores.specs.Cores.{keep_wish}
use Rattle.nearest_core_scan.specs.Followed.{followed}

-- from the state a with its trail and tally t to a' and trail', by the wish of variable v: a falsified clause, or a state to which unit propagation adds nothing
abbrev pub AssumedBy : ℕ → List (List ℤ) → List ℕ → ℕ → Tally → List ℕ → List ℕ → List ℕ → List ℕ → Result Tally DeadEnd → Type 0
AssumedBy n f row v t a trail a' trail' (Err e) = (any (is_falsified (propagate f (keep_wish row a v))) f ≡ true) × Moved n row t a trail e.tally a' trail'
AssumedBy n f row v t a trail a' trail' (Ok t') =
    (a' ≡ propagate f (keep_wish row a v)) × (any (is_falsified a') f ≡ false) × NoneDue f a' × Moved n row t a trail t' a' trail'

-- no more is broken than all variables can break
pub disagreement-length : (row a : List ℕ) → disagreement row a ≤ max_weight * length a
disagreement-length [] a = zero-le
disagreement-length (w ∷ row) [] = zero-le
disagreement-length (w ∷ row) (b ∷ a) = omega (arith, cost-most w b, disagreement-length row a)

-- so that with the greatest limit a dead end is a falsified clause
abbrev pub no_limit : ℕ
no_limit = 18446744073709551615

pub dead_falsified : (f : List (List ℤ)) (row a : List ℕ) → length a ≤ max_variables → is_dead_end f row no_limit a ≡ any (is_falsified a) f
dead_falsified f row a few =
    ap (λ (t : Bool). any (is_falsified a) f || t) (le-ltb no_limit (disagreement row a) (omega (arith, disagreement-length row a))) ∙ or-false (any (is_falsified a) f)

-- the variable v is unassigned in a state to which unit propagation adds nothing
module _ {rules : List ℤ} {arrangement row : List ℕ} {t : Tally} {a trail : List ℕ} (h : Following rules arrangement row t a trail) (quiet : NoneDue (clauses rules) a)
    (v : ℕ) (low : 0 < v) (high : v ≤ length a) (free : value a v ≡ 2) where
  searching : Searching (length a) row a trail t.settled t.broken
  searching = h.looking.searching

  wished : wished_value (value row v) < 2
  wished = wished_bit (value row v)

  -- there is room for it on the trail
  pub assume_room : t.settled < length a
  assume_room = not_all (length a) row a trail t.settled t.broken searching v (wished_value (value row v)) low high free wished

  module _ {t₁ : Tally} {a₁ trail₁ : List ℕ} (told : AssignedTo row v (wished_value (value row v)) t a trail t₁ a₁ trail₁) where
    pub assume_moved : Moved (length a) row t a trail t₁ a₁ trail₁
    assume_moved = record { grown = assigned_grown told searching low high free wished; searching = assigned_searching told searching low high free wished }

    -- only clauses of v can ask for anything
    covers : Covers (clauses rules) (pending t.settled t₁ a₁ trail₁)
    covers =
        let queue : slice t.settled t₁.settled trail₁ ≡ v ∷ []
        = ap₂ (λ (k : ℕ) (l : List ℕ). slice t.settled k l) told.settled told.order
        ∙ slice-stored trail t.settled t.settled v (omega arith) (omega (arith, assume_room, searching.long))
        ∙ ap (λ (l : List ℕ). l ++ (v ∷ [])) (slice_empty t.settled trail) in
        rw (queue, told.values) (fork_covers (clauses rules) searching.state quiet v (wished_value (value row v)) low high free wished)

    module _ (a' trail' : List ℕ) where
      propagated : (r : Result Tally DeadEnd) → ComesTo (length a) row (follow (clauses rules) row no_limit (pending t.settled t₁ a₁ trail₁)) t₁ a₁ trail₁ a' trail' r
          → PropagatedBy (length a) (clauses rules) row no_limit t₁ a₁ trail₁ a' trail' r
      propagated r w =
          let size : length a₁ ≡ length a = assume_moved.searching.state.size in
          subst (λ (n : ℕ). PropagatedBy n (clauses rules) row no_limit t₁ a₁ trail₁ a' trail' r) size
          (followed (following_moved h assume_moved) no_limit t.settled covers a' trail' r
          (subst (λ (n : ℕ). ComesTo n row (follow (clauses rules) row no_limit (pending t.settled t₁ a₁ trail₁)) t₁ a₁ trail₁ a' trail' r) (sym size) w))

      few : length (propagate (clauses rules) a₁) ≤ max_variables
      few = omega (arith, (propagate_state (clauses rules) assume_moved.searching.state).size, h.looking.few)

      -- what following it up says of the wish
      pub assumed_by : (r : Result Tally DeadEnd) → ComesTo (length a₁) row (follow (clauses rules) row no_limit (pending t.settled t₁ a₁ trail₁)) t₁ a₁ trail₁ a' trail' r
          → AssumedBy (length a) (clauses rules) row v t a trail a' trail' r
      assumed_by r u =
          go r (propagated r (subst (λ (n : ℕ). ComesTo n row (follow (clauses rules) row no_limit (pending t.settled t₁ a₁ trail₁)) t₁ a₁ trail₁ a' trail' r) assume_moved.searching.state.size u))
        where
          go : (r : Result Tally DeadEnd) → PropagatedBy (length a) (clauses rules) row no_limit t₁ a₁ trail₁ a' trail' r → AssumedBy (length a) (clauses rules) row v t a trail a' trail' r
          go (Err e) w =
              (rw (← told.values) (sym (dead_falsified (clauses rules) row (propagate (clauses rules) a₁) few) ∙ w.0), moved_more assume_moved w.1)
          go (Ok t') w =
              let alive : is_dead_end (clauses rules) row no_limit (propagate (clauses rules) a₁) ≡ false = ap (is_dead_end (clauses rules) row no_limit) (sym w.0) ∙ w.1 in (
                w.0 ∙ ap (propagate (clauses rules)) told.values,
                rw w.0 (sym (dead_falsified (clauses rules) row (propagate (clauses rules) a₁) few) ∙ alive),
                rw w.0 (settled_none_due (length a) (clauses rules) h.looking.fit row no_limit assume_moved.searching.state alive),
                moved_more assume_moved w.2,
              )
