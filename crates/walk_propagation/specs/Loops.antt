-- The loops over the numbers of clauses and over the queue: what each turn keeps.
use Rattle.std.specs.Prelude.{◌≡◌, refl, List, [], ◌∷◌, ◌++◌, ℕ, zero, suc, ◌+◌, ◌-◌, ◌*◌, ◌≤◌, ◌<◌, ℤ, length, get_or, take, drop, Option, Some, Result, Ok, Err}
use Rattle.std.proofs.Common.{sym, ap, subst, ◌∙◌, add-one, arith, drop_of_length-le, drop-cons}
use Rattle.std.proofs.Math.Seq.{slice, slice_empty, slice-cons, length-slice}
use Rattle.literal.specs.Literal.{value}
use Rattle.formula.specs.Formula.{clauses}
use Rattle.choices.proofs.Lists.{member_at}
use Rattle.walk.specs.State.{unassigned}
use Rattle.walk_occurrences.specs.Occurrences.{occurrences, filled_clauses, empty_clauses}
use Rattle.walk_occurrences.specs.Layout.{HasPart, numbers_of, part_at}
use Rattle.walk_occurrences.proofs.Reading.{has_part, part_holding, every_clause}
use Rattle.walk_occurrences.specs.Table.{Beside}
use Rattle.walk_unit_queue.proofs.Numbers.{every_inside, occurrences_inside}
use Rattle.walk_unit_queue.specs.Queue.{Pending, and_then, look, look_at, false_in, take_first, drain_by, drain}
use Rattle.walk_tally.specs.declared.Tally.{Tally}
use Rattle.walk_propagation.specs.Looked.{pending, Moved, moved_none, moved_more, LookedBy, ComesTo}
use Rattle.walk_propagation.specs.Looking.{Numbers}
use Rattle.walk_propagation.specs.Searching.{Assigned, Searching, settled_most}
use Rattle.walk_propagation.specs.declared.propagated.DeadEnd.{DeadEnd}

-- over the numbers ks, the first i of which are done: from the state a₀ to a
pub record Passing (n : ℕ) (f : List (List ℤ)) (row : List ℕ) (d : ℕ) (ks : List ℕ) (t₀ : Tally) (a₀ trail₀ : List ℕ) (i : ℕ) (t : Tally) (a trail : List ℕ) : Type 0 where
  pub moved : Moved n row t₀ a₀ trail₀ t a trail
  pub same : (head : ℕ) → head ≤ t₀.settled → look_at f row d (pending head t₀ a₀ trail₀) ks ≡ look_at f row d (pending head t a trail) (drop i ks)

pub passing_start : {n : ℕ} (f : List (List ℤ)) {row : List ℕ} (d : ℕ) (ks : List ℕ) {t : Tally} {a trail : List ℕ} → Searching n row a trail t.settled t.broken → Passing n f row d ks t a trail 0 t a trail
passing_start f d ks h = record { moved = moved_none h; same = λ head l. refl }

module _ {n : ℕ} {f : List (List ℤ)} {row : List ℕ} {d : ℕ} {ks : List ℕ} {t₀ : Tally} {a₀ trail₀ : List ℕ} {i : ℕ} {t : Tally} {a trail : List ℕ} (p : Passing n f row d ks t₀ a₀ trail₀ i t a trail) where
  abbrev whole : ℕ → Option Pending
  whole head = look_at f row d (pending head t₀ a₀ trail₀) ks

  module _ (more : i < length ks) where
    abbrev outcome : ℕ → Option Pending
    outcome head = look row d (pending head t a trail) (get_or f (get_or ks i 0 - 1) [])

    step : (head : ℕ) → head ≤ t₀.settled → whole head ≡ and_then (outcome head) (λ (q : Pending). look_at f row d q (drop (i + 1) ks))
    step head l = p.same head l ∙ ap (look_at f row d (pending head t a trail)) (drop-cons ks i 0 more ∙ ap (λ (j : ℕ). get_or ks i 0 ∷ drop j ks) (sym (add-one i)))

    -- the assignment is as long as at the start
    sized : (r : Result Tally DeadEnd) (a' trail' : List ℕ) → LookedBy (length a) row outcome t a trail a' trail' r → LookedBy n row outcome t a trail a' trail' r
    sized r a' trail' = subst (λ (m : ℕ). LookedBy m row outcome t a trail a' trail' r) p.moved.searching.state.size

    pub passing_dead : {e : DeadEnd} {a' trail' : List ℕ} → LookedBy (length a) row outcome t a trail a' trail' (Err e) → LookedBy n row whole t₀ a₀ trail₀ a' trail' (Err e)
    passing_dead {e} {a'} {trail'} v =
        let w = sized (Err e) a' trail' v in
        (λ head l. step head l ∙ ap (λ (o : Option Pending). and_then o (λ (q : Pending). look_at f row d q (drop (i + 1) ks))) (w.0 head (omega (arith, p.moved.grown.more))), moved_more p.moved w.1)

    pub passing_next : {t' : Tally} {a' trail' : List ℕ} → LookedBy (length a) row outcome t a trail a' trail' (Ok t') → Passing n f row d ks t₀ a₀ trail₀ (i + 1) t' a' trail'
    passing_next {t'} {a'} {trail'} v =
        let w = sized (Ok t') a' trail' v in
        record {
          moved = moved_more p.moved w.1;
          same = λ head l. step head l ∙ ap (λ (o : Option Pending). and_then o (λ (q : Pending). look_at f row d q (drop (i + 1) ks))) (w.0 head (omega (arith, p.moved.grown.more)));
        }

  pub passing_end : length ks ≤ i → LookedBy n row whole t₀ a₀ trail₀ a trail (Ok t)
  passing_end h = (λ head l. p.same head l ∙ ap (look_at f row d (pending head t a trail)) (drop_of_length-le ks h), p.moved)

-- over the queue from `head` on: from the state a₀, whose queue began at `from`, to a
pub record Draining (n : ℕ) (f : List (List ℤ)) (row : List ℕ) (d from : ℕ) (t₀ : Tally) (a₀ trail₀ : List ℕ) (head : ℕ) (t : Tally) (a trail : List ℕ) : Type 0 where
  pub moved : Moved n row t₀ a₀ trail₀ t a trail
  pub begun : head ≤ t.settled
  pub same : drain f row d (pending from t₀ a₀ trail₀) ≡ drain_by (n - head) f row d (pending head t a trail)

pub draining_start : {n : ℕ} (f : List (List ℤ)) {row : List ℕ} (d from : ℕ) {t : Tally} {a trail : List ℕ} → Searching n row a trail t.settled t.broken → from ≤ t.settled → Draining n f row d from t a trail from t a trail
draining_start {n} f {row} d from {t} {a} {trail} h l =
    record {
      moved = moved_none h;
      begun = l;
      same = ap (λ (m : ℕ). drain_by m f row d (pending from t a trail)) fuel;
    }
  where
    fuel : length (slice from t.settled trail) + unassigned a ≡ n - from
    fuel = omega (arith, length-slice from t.settled trail (omega (arith, settled_most h, h.long)), h.assigned_and_not, l)

module _ {n : ℕ} {f : List (List ℤ)} {row : List ℕ} {d from : ℕ} {t₀ : Tally} {a₀ trail₀ : List ℕ} {head : ℕ} {t : Tally} {a trail : List ℕ} (p : Draining n f row d from t₀ a₀ trail₀ head t a trail) where
  abbrev target : Option (List ℕ)
  target = drain f row d (pending from t₀ a₀ trail₀)

  module _ (more : head < t.settled) where
    abbrev v : ℕ
    v = get_or trail head 0

    abbrev looked : ℕ → Option Pending
    looked j = look_at f row d (pending j t a trail) (false_in f a v)

    taken : target ≡ and_then (looked (head + 1)) (drain_by (n - (head + 1)) f row d)
    taken =
        p.same
        ∙ ap (λ (m : ℕ). drain_by m f row d (pending head t a trail)) fuel
        ∙ ap (take_first (drain_by (n - (head + 1)) f row d) f row d a) (slice-cons head t.settled trail 0 more (omega (arith, settled_most s, s.long)) ∙ ap (λ (j : ℕ). v ∷ slice j t.settled trail) (sym (add-one head)))
      where
        s : Searching n row a trail t.settled t.broken
        s = p.moved.searching

        fuel : n - head ≡ suc (n - (head + 1))
        fuel = omega (arith, settled_most s)

    pub draining_dead : {e : DeadEnd} {a' trail' : List ℕ} → LookedBy n row looked t a trail a' trail' (Err e) → ComesTo n row target t₀ a₀ trail₀ a' trail' (Err e)
    draining_dead w = (taken ∙ ap (λ (o : Option Pending). and_then o (drain_by (n - (head + 1)) f row d)) (w.0 (head + 1) (omega arith)), moved_more p.moved w.1)

    pub draining_next : {t' : Tally} {a' trail' : List ℕ} → LookedBy n row looked t a trail a' trail' (Ok t') → Draining n f row d from t₀ a₀ trail₀ (head + 1) t' a' trail'
    draining_next w =
        record {
          moved = moved_more p.moved w.1;
          begun = omega (arith, w.1.grown.more);
          same = taken ∙ ap (λ (o : Option Pending). and_then o (drain_by (n - (head + 1)) f row d)) (w.0 (head + 1) (omega arith));
        }

  pub draining_end : t.settled ≤ head → ComesTo n row target t₀ a₀ trail₀ a trail (Ok t)
  draining_end h =
      let z : head ≡ t.settled = omega (arith, p.begun) in
      (p.same ∙ ap (λ (q : List ℕ). drain_by (n - head) f row d (record { values = a; queue = q })) (ap (λ (j : ℕ). slice j t.settled trail) z ∙ slice_empty t.settled trail) ∙ empty (n - head), p.moved)
    where
      empty : (m : ℕ) → drain_by m f row d (record { values = a; queue = [] }) ≡ Some a
      empty zero = refl
      empty (suc m) = refl

-- the clauses of a literal of a variable, and all clauses, as parts of the arrangement
module _ {n : ℕ} {rules : List ℤ} {t : List ℕ} (h : Beside n rules t) where
  pub part_numbers : (v b : ℕ) → 0 < v → b < 2 → v ≤ n → Numbers rules (part_at t (2 * v + b))
  part_numbers v b low bit l = rw (part_holding h v b low bit l) (λ i q. occurrences_inside (clauses rules) v b (member_at 0 (occurrences (clauses rules) v b) i q))

  pub every_numbers : Numbers rules (take (get_or t 1 0) (numbers_of t))
  every_numbers = rw (every_clause h) (λ i q. every_inside (clauses rules) (member_at 0 (filled_clauses (clauses rules) ++ empty_clauses (clauses rules)) i q))

-- the queue of a call: the variable at its head is taken, and the clauses that hold its false literal are looked at
module _ {n : ℕ} {rules : List ℤ} {arrangement row : List ℕ} {d from : ℕ} {t₀ : Tally} {a₀ trail₀ : List ℕ} {head : ℕ} {t : Tally} {a trail : List ℕ}
    (h : Beside n rules arrangement) (p : Draining n (clauses rules) row d from t₀ a₀ trail₀ head t a trail) (more : head < t.settled) where
  abbrev taken_first : ℕ
  taken_first = get_or trail head 0

  abbrev false_slot : ℕ
  false_slot = 2 * taken_first + (1 - value a taken_first)

  assigned : Assigned n a taken_first
  assigned = p.moved.searching.traced head more

  pub head_part : HasPart arrangement false_slot
  head_part = has_part h false_slot (omega (arith, assigned.above)) (omega (arith, assigned.up_to))

  pub head_numbers : Numbers rules (part_at arrangement false_slot)
  head_numbers = part_numbers h taken_first (1 - value a taken_first) assigned.above (omega arith) assigned.up_to

  -- they are those of the definition
  held : {ks : List ℕ} → ks ≡ part_at arrangement false_slot → (r : Result Tally DeadEnd) (a' trail' : List ℕ)
      → LookedBy (length a) row (λ (j : ℕ). look_at (clauses rules) row d (pending j t a trail) ks) t a trail a' trail' r
      → LookedBy n row (λ (j : ℕ). look_at (clauses rules) row d (pending j t a trail) (false_in (clauses rules) a taken_first)) t a trail a' trail' r
  held {ks} e r a' trail' w =
      subst (λ (m : ℕ). LookedBy m row (λ (j : ℕ). look_at (clauses rules) row d (pending j t a trail) (false_in (clauses rules) a taken_first)) t a trail a' trail' r) p.moved.searching.state.size
      (subst (λ (l : List ℕ). LookedBy (length a) row (λ (j : ℕ). look_at (clauses rules) row d (pending j t a trail) l) t a trail a' trail' r)
      (e ∙ part_holding h taken_first (1 - value a taken_first) assigned.above (omega arith) assigned.up_to) w)

  pub head_dead : {ks : List ℕ} → ks ≡ part_at arrangement false_slot → {e : DeadEnd} {a' trail' : List ℕ}
      → LookedBy (length a) row (λ (j : ℕ). look_at (clauses rules) row d (pending j t a trail) ks) t a trail a' trail' (Err e)
      → ComesTo n row (drain (clauses rules) row d (pending from t₀ a₀ trail₀)) t₀ a₀ trail₀ a' trail' (Err e)
  head_dead q {e} {a'} {trail'} w = draining_dead p more (held q (Err e) a' trail' w)

  pub head_next : {ks : List ℕ} → ks ≡ part_at arrangement false_slot → {t' : Tally} {a' trail' : List ℕ}
      → LookedBy (length a) row (λ (j : ℕ). look_at (clauses rules) row d (pending j t a trail) ks) t a trail a' trail' (Ok t')
      → Draining n (clauses rules) row d from t₀ a₀ trail₀ (head + 1) t' a' trail'
  head_next q {t'} {a'} {trail'} w = draining_next p more (held q (Ok t') a' trail' w)
