-- Keeping the wishes that must be kept: one after the other, by rising variable.
use Rattle.std.specs.Prelude.{◌≡◌, refl, Bool, true, false, cond, ◌&&◌, List, [], ◌∷◌, ◌++◌, ℕ, suc, ◌+◌, ◌-◌, ◌≤◌, ◌<◌, ltb, ℤ, length}
use Rattle.std.proofs.Common.{sym, ap, ap₂, subst, ◌∙◌, arith, eq-eqb, ne_eqb, lt-ltb, le-ltb, ltb-true, ltb-false}
use Rattle.std.proofs.Math.Seq.{slice}
use Rattle.literal.specs.Literal.{value}
use Rattle.wish.specs.Wish.{wished_value, weight}
use Rattle.wish.specs.Laws.{wished_bit}
use Rattle.walk.proofs.Assignment.{assign_other}
use Rattle.walk.specs.State.{assign}
use Rattle.walk_tally.specs.declared.Tally.{Tally}
use Rattle.walk_propagation.specs.Assigned.{AssignedTo, assigned_searching, assigned_grown}
use Rattle.walk_propagation.specs.Looked.{pending, Moved, moved_none, moved_more}
use Rattle.walk_propagation.specs.Searching.{Searching, not_all}
use Rattle.walk_propagation.specs.Trail.{slice-stored}
use Rattle.walk_unit_queue.specs.Theorems.{Covers}
use Rattle.walk_unit_queue.proofs.Theorems.{assign_covers}
use Rattle.nearest_cores.specs.Cores.{is_left, keep_wish}
use Rattle.nearest_cores.specs.Narrow.{must_keep, keep_if, keep_from, keep_all}
use Rattle.nearest_cores.proofs.NarrowRight.{must_both}

-- From one state of the search to a later one, with the variables assigned since in the queue: where only clauses of a queue's variables can ask for anything, that stays so.
pub record KeptTo (n : ℕ) (row : List ℕ) (t : Tally) (a trail : List ℕ) (t' : Tally) (a' trail' : List ℕ) : Type 0 where
  pub moved : Moved n row t a trail t' a' trail'
  pub covers : (f : List (List ℤ)) (head : ℕ) → head ≤ t.settled → Covers f (pending head t a trail) → Covers f (pending head t' a' trail')

module _ {n : ℕ} {row : List ℕ} {t : Tally} {a trail : List ℕ} where
  kept_none : Searching n row a trail t.settled t.broken → KeptTo n row t a trail t a trail
  kept_none h = record { moved = moved_none h; covers = λ f head l c. c }

  kept_more : {t' t'' : Tally} {a' trail' a'' trail'' : List ℕ} → KeptTo n row t a trail t' a' trail' → KeptTo n row t' a' trail' t'' a'' trail'' → KeptTo n row t a trail t'' a'' trail''
  kept_more p q =
      record { moved = moved_more p.moved q.moved; covers = λ f head l c. q.covers f head (omega (arith, p.moved.grown.more)) (p.covers f head l c) }

-- the test by what is left of the limit
sub_less : (d bound w : ℕ) → bound ≤ d → ltb (d - bound) w ≡ ltb d (bound + w)
sub_less d bound w h = go (ltb d (bound + w)) refl
  where
    go : (b : Bool) → ltb d (bound + w) ≡ b → ltb (d - bound) w ≡ b
    go true e = lt-ltb (d - bound) w (omega (arith, ltb-true d (bound + w) e))
    go false e = le-ltb (d - bound) w (omega (arith, ltb-false d (bound + w) e))

module _ (row : List ℕ) (d : ℕ) (taken : List ℕ) (bound v : ℕ) where
  pub must_not : (value taken v ≡ 0 → ⊥) → false ≡ must_keep row d taken bound v
  must_not h = sym (ap (λ (b : Bool). b && ltb d (bound + weight (value row v))) (ne_eqb (value taken v) 0 h))

  pub must_by : bound ≤ d → value taken v ≡ 0 → ltb (d - bound) (weight (value row v)) ≡ must_keep row d taken bound v
  must_by h e = sub_less d bound (weight (value row v)) h ∙ sym (ap (λ (b : Bool). b && ltb d (bound + weight (value row v))) (eq-eqb (value taken v) 0 e))

-- an unassigned variable is assigned
module _ {n : ℕ} {row a trail : List ℕ} {t : Tally} (h : Searching n row a trail t.settled t.broken) (v b : ℕ) (low : 0 < v) (high : v ≤ n) (free : value a v ≡ 2) (bit : b < 2) where
  keep_room : t.settled < n
  keep_room = not_all n row a trail t.settled t.broken h v b low high free bit

  kept_assigned : {t' : Tally} {a' trail' : List ℕ} → AssignedTo row v b t a trail t' a' trail' → KeptTo n row t a trail t' a' trail'
  kept_assigned {t'} {a'} {trail'} told =
      record {
        moved = record { grown = assigned_grown told h low high free bit; searching = assigned_searching told h low high free bit };
        covers = λ f head l c. subst (Covers f) (queued head l) (assign_covers f h.state c v b low high free bit);
      }
    where
      queued : (head : ℕ) → head ≤ t.settled → record { values = assign a v b; queue = slice head t.settled trail ++ (v ∷ []) } ≡ pending head t' a' trail'
      queued head l =
          ap₂ (λ (w q : List ℕ). record { values = w; queue = q }) (sym told.values)
          (sym (ap₂ (λ (m : ℕ) (r : List ℕ). slice head m r) told.settled told.order ∙ slice-stored trail head t.settled v l (omega (arith, keep_room, h.long))))

-- What keeping the wish of one variable does, where it must be kept.
pub record KeptOne (n : ℕ) (row : List ℕ) (d : ℕ) (taken : List ℕ) (bound v : ℕ) (t : Tally) (a trail : List ℕ) (t' : Tally) (a' trail' : List ℕ) : Type 0 where
  pub values : a' ≡ keep_if row d taken bound a v
  pub kept : KeptTo n row t a trail t' a' trail'

module _ {n : ℕ} {row a trail : List ℕ} {t : Tally} (h : Searching n row a trail t.settled t.broken) (d : ℕ) (taken : List ℕ) (bound v : ℕ) where
  pub one_not : must_keep row d taken bound v ≡ false → KeptOne n row d taken bound v t a trail t a trail
  one_not e = record { values = sym (ap (λ (b : Bool). cond b (keep_wish row a v) a) e); kept = kept_none h }

  module _ (low : 0 < v) (high : v ≤ n) (free : is_left taken v ≡ true → value a v ≡ 2) (must : must_keep row d taken bound v ≡ true) where
    unset : value a v ≡ 2
    unset = free (must_both row d taken bound v must).0

    pub one_room : t.settled < n
    one_room = keep_room h v (wished_value (value row v)) low high unset (wished_bit (value row v))

    pub one_kept : {t' : Tally} {a' trail' : List ℕ} → AssignedTo row v (wished_value (value row v)) t a trail t' a' trail' → KeptOne n row d taken bound v t a trail t' a' trail'
    one_kept told =
        record {
          values = told.values ∙ sym (ap (λ (b : Bool). cond b (keep_wish row a v) a) must);
          kept = kept_assigned h v (wished_value (value row v)) low high unset (wished_bit (value row v)) told;
        }

-- the wish of another variable leaves a value as it is
if_other : (row : List ℕ) (d : ℕ) (taken : List ℕ) (bound : ℕ) (a : List ℕ) (v u : ℕ) → (u ≡ v → ⊥) → value (keep_if row d taken bound a v) u ≡ value a u
if_other row d taken bound a v u ne = go (must_keep row d taken bound v)
  where
    go : (b : Bool) → value (cond b (keep_wish row a v) a) u ≡ value a u
    go true = assign_other a v (wished_value (value row v)) u ne
    go false = refl

-- The loop over the variables, of which i are done: from the state a₀ to a.
pub record Keeping (n : ℕ) (row : List ℕ) (d : ℕ) (taken : List ℕ) (bound : ℕ) (t₀ : Tally) (a₀ trail₀ : List ℕ) (i : ℕ) (t : Tally) (a trail : List ℕ) : Type 0 where
  pub kept : KeptTo n row t₀ a₀ trail₀ t a trail
  pub same : keep_all row d taken bound a₀ ≡ keep_from (n - i) row d taken bound a (i + 1)
  pub left : (v : ℕ) → i < v → is_left taken v ≡ true → value a v ≡ 2

pub keeping_start : {row : List ℕ} (d : ℕ) {taken : List ℕ} (bound : ℕ) {t : Tally} {a trail : List ℕ} → Searching (length a) row a trail t.settled t.broken
    → ((v : ℕ) → is_left taken v ≡ true → value a v ≡ 2) → Keeping (length a) row d taken bound t a trail 0 t a trail
keeping_start {row} d {taken} bound {t} {a} h free =
    let e : length a ≡ length a - 0 = omega arith in
    record { kept = kept_none h; same = ap (λ (k : ℕ). keep_from k row d taken bound a 1) e; left = λ v l e. free v e }

module _ {n : ℕ} {row : List ℕ} {d : ℕ} {taken : List ℕ} {bound : ℕ} {t₀ : Tally} {a₀ trail₀ : List ℕ} {i : ℕ} {t : Tally} {a trail : List ℕ} (p : Keeping n row d taken bound t₀ a₀ trail₀ i t a trail) where
  pub keeping_next : i < n → {t' : Tally} {a' trail' : List ℕ} → KeptOne n row d taken bound (i + 1) t a trail t' a' trail' → Keeping n row d taken bound t₀ a₀ trail₀ (i + 1) t' a' trail'
  keeping_next more {t'} {a'} one =
      let fuel : n - i ≡ suc (n - (i + 1)) = omega arith in
      let next : suc (i + 1) ≡ i + 1 + 1 = omega arith in
      record {
        kept = kept_more p.kept one.kept;
        same = p.same ∙ ap (λ (k : ℕ). keep_from k row d taken bound a (i + 1)) fuel ∙ ap₂ (λ (b : List ℕ) (v : ℕ). keep_from (n - (i + 1)) row d taken bound b v) (sym one.values) next;
        left = λ v l e. ap (λ (b : List ℕ). value b v) one.values ∙ if_other row d taken bound a (i + 1) v (λ q. omega arith) ∙ p.left v (omega arith) e;
      }

  pub keeping_end : n ≤ i → a ≡ keep_all row d taken bound a₀
  keeping_end h =
      let none : n - i ≡ 0 = omega arith in
      sym (p.same ∙ ap (λ (k : ℕ). keep_from k row d taken bound a (i + 1)) none)
