-- A state of the search as the code keeps it: the assignment, the trail, and the running tally of assigned variables and broken wishes (document 01, step 1).
use Rattle.std.specs.Prelude.{◌≡◌, List, ℕ, ◌+◌, ◌*◌, ◌≤◌, ◌<◌, length, get_or, set, take}
use Rattle.std.proofs.Common.{sym, ap, ◌∙◌, arith, length-set, get_or-set_same, get_or-set_other, get_or-take}
use Rattle.std.proofs.Math.Decide.{ℕ_discrete}
use Rattle.literal.specs.Literal.{value}
use Rattle.wish.specs.Wish.{max_weight, cost}
use Rattle.wish.specs.Laws.{cost-most}
use Rattle.distance.specs.Distance.{disagreement}
use Rattle.walk.proofs.Extension.{keeps_value}
use Rattle.walk.specs.State.{State, unassigned, assign}
use Rattle.walk.proofs.Assignment.{assign_state, assign-fewer, assign-cost, assign_value, assign_extends}

-- a variable of 1 to n that has a value
pub record Assigned (n : ℕ) (a : List ℕ) (v : ℕ) : Type 0 where
  pub above : 0 < v
  pub up_to : v ≤ n
  pub bit : value a v < 2

pub record Searching (n : ℕ) (row a trail : List ℕ) (settled broken : ℕ) : Type 0 where
  pub state : State n a
  pub long : length trail ≡ n
  pub assigned_and_not : settled + unassigned a ≡ n
  pub breaks : broken ≡ disagreement row a
  pub few : broken ≤ max_weight * settled
  pub traced : (j : ℕ) → j < settled → Assigned n a (get_or trail j 0)

-- the trail matters only as far as variables are assigned
pub searching_kept : {n : ℕ} {row a trail : List ℕ} {settled broken : ℕ} → Searching n row a trail settled broken
    → (trail' : List ℕ) → length trail' ≡ length trail → take settled trail' ≡ take settled trail → Searching n row a trail' settled broken
searching_kept {n} {row} {a} {trail} {settled} s trail' l e =
    record {
      state = s.state;
      long = l ∙ s.long;
      assigned_and_not = s.assigned_and_not;
      breaks = s.breaks;
      few = s.few;
      traced = λ j h. rw (same j h) (s.traced j h);
    }
  where
    same : (j : ℕ) → j < settled → get_or trail' j 0 ≡ get_or trail j 0
    same j h = sym (get_or-take settled trail' j 0 h) ∙ ap (λ (l : List ℕ). get_or l j 0) e ∙ get_or-take settled trail j 0 h

-- a variable is assigned
module _ (n : ℕ) (row a trail : List ℕ) (settled broken : ℕ) (s : Searching n row a trail settled broken)
    (v b : ℕ) (low : 0 < v) (high : v ≤ n) (free : value a v ≡ 2) (bit : b < 2) where
  -- there is room for one more
  pub not_all : settled < n
  not_all = omega (arith, s.assigned_and_not, assign-fewer s.state v b low high free bit)

  still : (u : ℕ) → Assigned n a u → Assigned n (assign a v b) u
  still u h =
      record { above = h.above; up_to = h.up_to; bit = omega (arith, h.bit, keeps_value (assign_extends a v b free) u (λ e. omega (arith, h.bit))) }

  trace : (j : ℕ) → j < settled + 1 → Assigned n (assign a v b) (get_or (set trail settled v) j 0)
  trace j h =
      elim (ℕ_discrete j settled) [
        | yes e ↦ rw (e, get_or-set_same trail settled v 0 (omega (arith, not_all, s.long))) (record { above = low; up_to = high; bit = omega (arith, assign_value s.state v b low high) })
        | no e ↦ rw (get_or-set_other trail settled j v 0 e) (still (get_or trail j 0) (s.traced j (omega arith)))
      ]

  pub assigned : Searching n row (assign a v b) (set trail settled v) (settled + 1) (broken + cost (value row v) b)
  assigned =
      record {
        state = assign_state s.state v b (omega arith);
        long = length-set trail settled v ∙ s.long;
        assigned_and_not = omega (arith, s.assigned_and_not, assign-fewer s.state v b low high free bit);
        breaks = omega (arith, s.breaks, assign-cost s.state row v b low high free);
        few = omega (arith, s.few, cost-most (value row v) b);
        traced = trace;
      }

-- as many are assigned as there are variables, at most
pub settled_most : {n : ℕ} {row a trail : List ℕ} {settled broken : ℕ} → Searching n row a trail settled broken → settled ≤ n
settled_most s = omega (arith, s.assigned_and_not)

-- so much of the trail can be undone, whatever stands behind it
pub undoable : {n : ℕ} {row a trail : List ℕ} {settled broken : ℕ} → Searching n row a trail settled broken → (settled ≤ length trail) × ((j : ℕ) → j < settled → (0 < get_or trail j 0) × (get_or trail j 0 ≤ n))
undoable s = (omega (arith, settled_most s, s.long), λ j h. ((s.traced j h).above, (s.traced j h).up_to))
