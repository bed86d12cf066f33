-- What follows from the definitions of specs/Reached.antt.
use Rattle.std.specs.Prelude.{◌≡◌, refl, ◌⊎◌, Bool, true, false, cond, ◌||◌, ℕ, ◌+◌, ◌-◌, ◌≤◌, ◌<◌, ltb, ℤ, length, get_or, Option, None, Some}
use Rattle.std.proofs.Common.{sym, ap, subst, ◌∙◌, inl, inr, true≢false, arith, length-append, eqb-true, eq-eqb, ltb-false}
use mathlib.Core.List.Memᴰ
use mathlib.Core.List.{List, [], ◌∷◌, ◌++◌, Memᴰ}
use Rattle.std.proofs.lemmas.Option.{none-some}
use Rattle.literal.specs.Literal.{variable, wanted, value, holds}
use Rattle.literal.specs.Slots.{wanted_bit}
use Rattle.formula.specs.Formula.{any, contains, satisfied}
use Rattle.distance.specs.Distance.{disagreement}
use Rattle.choices.proofs.Lists.{member_at, any_at}
use Rattle.walk.specs.State.{find, satisfy, is_unassigned, is_unit, is_falsified, fits}
use Rattle.walk.proofs.PropagationLaws.{unit_one}
use Rattle.walk.proofs.Extension.{keeps_value}
use Rattle.walk.proofs.Counting.{find_member, find-some}
use Rattle.walk.proofs.Assignment.{assign-fewer, assign_value, satisfy_extends, satisfy_state}
use Rattle.walk_unit_queue.specs.Steps.{UnitOf, Steps}
use Rattle.walk_unit_queue.proofs.Steps.{unit_free, unit_inside, steps_more}
use Rattle.walk_unit_queue.specs.Due.{Due}
use Rattle.walk_unit_queue.proofs.Due.{not_due, due_later}
use Rattle.walk_unit_queue.specs.Queue.{Pending, and_then, make_hold, look, look_at}
use Rattle.walk_unit_queue.specs.Reached.{DeadReached, Held, Looked, Reached}

or_right : (t : Bool) {u : Bool} → u ≡ true → t || u ≡ true
or_right true e = refl
or_right false e = e

module _ (n : ℕ) (f : List (List ℤ)) (fit : fits n f ≡ true) (row : List ℕ) (d : ℕ) (a : List ℕ) (m : ℕ) where
  -- the clause with the number k is looked at
  module _ (p : Pending) (k : ℕ) (rest : List ℕ) (r : Reached n f row d a m p (k ∷ rest)) (low : 0 < k) (high : k ≤ length f) where
    abbrev c : List ℤ
    c = get_or f (k - 1) []

    member : Memᴰ c f
    member = member_at [] f (k - 1) (omega arith)

    -- where number 1 + j is number k
    same_clause : (j : ℕ) → 1 + j ≡ k → get_or f j [] ≡ c
    same_clause j e = let i : j ≡ k - 1 = omega arith in ap (λ (i : ℕ). get_or f i []) i

    falsified : is_falsified p.values c ≡ true → DeadReached f row d a
    falsified e =
        record { state = p.values; steps = r.steps; dead = ap (λ (t : Bool). t || ltb d (disagreement row p.values)) (any_at (is_falsified p.values) member e) }

    -- it asks for nothing
    passed : is_falsified p.values c ≡ false → is_unit p.values c ≡ false → Reached n f row d a m p rest
    passed e u = record { steps = r.steps; state = r.state; within = r.within; left = r.left; assigned = r.assigned; covered = covers }
      where
        covers : (j : ℕ) → j < length f → Due p.values (get_or f j []) → Memᴰ (1 + j) rest ⊎ Held p (get_or f j [])
        covers j l h = go (r.covered j l h)
          where
            go : Memᴰ (1 + j) (k ∷ rest) ⊎ Held p (get_or f j []) → Memᴰ (1 + j) rest ⊎ Held p (get_or f j [])
            go (inl (Memᴰ.head z)) = absurd (not_due p.values c e u (subst (Due p.values) (same_clause j z) h))
            go (inl (Memᴰ.tail w)) = inl w
            go (inr w) = inr w

    -- it is unit, and its literal x is made to hold
    module _ (u : is_unit p.values c ≡ true) (x : ℤ) (found : find (is_unassigned p.values) c ≡ Some x) where
      unit : UnitOf f p.values x
      unit = record { clause = c; stands = member; unit = u; literal = found }

      abbrev next : Pending
      next = record { values = satisfy p.values x; queue = p.queue ++ (variable x ∷ []) }

      free : value p.values (variable x) ≡ 2
      free = eqb-true (value p.values (variable x)) 2 (unit_free unit)

      more : (xs : List ℤ) × Steps f a xs (satisfy p.values x)
      more = (r.steps.0 ++ (x ∷ []), steps_more a r.steps.0 r.steps.1 unit)

      over : ltb d (disagreement row (satisfy p.values x)) ≡ true → DeadReached f row d a
      over e = record { state = satisfy p.values x; steps = more; dead = or_right (any (is_falsified (satisfy p.values x)) f) e }

      x_value : value (satisfy p.values x) (variable x) ≡ wanted x
      x_value = assign_value r.state (variable x) (wanted x) (unit_inside n fit unit).0 (unit_inside n fit unit).1

      -- a variable of the queue keeps its value
      kept : (v : ℕ) → Memᴰ v p.queue → value (satisfy p.values x) v ≡ value p.values v
      kept v w = keeps_value (satisfy_extends p.values x (unit_free unit)) v (λ e. omega (arith, r.assigned v w))

      held : ltb d (disagreement row (satisfy p.values x)) ≡ false → Reached n f row d a m next rest
      held e =
          record {
            steps = more;
            state = satisfy_state r.state x;
            within = ltb-false d (disagreement row (satisfy p.values x)) e;
            left = omega (arith, r.left, length-append p.queue (variable x ∷ []), assign-fewer r.state (variable x) (wanted x) (unit_inside n fit unit).0 (unit_inside n fit unit).1 free (wanted_bit x));
            assigned = λ v w. queued v (Memᴰ.append_cases p.queue w);
            covered = covers;
          }
        where
          queued : (v : ℕ) → Memᴰ v p.queue ⊎ Memᴰ v (variable x ∷ []) → value (satisfy p.values x) v < 2
          queued v (inl w) = omega (arith, kept v w, r.assigned v w)
          queued v (inr w) = omega (arith, ap (value (satisfy p.values x)) (Memᴰ.eq_of_singleton w), x_value, wanted_bit x)

          satisfied_now : satisfied (satisfy p.values x) c ≡ true
          satisfied_now = any_at (holds (satisfy p.values x)) (find_member (is_unassigned p.values) c found).0 (eq-eqb (value (satisfy p.values x) (variable x)) (wanted x) x_value)

          covers : (j : ℕ) → j < length f → Due (satisfy p.values x) (get_or f j []) → Memᴰ (1 + j) rest ⊎ Held next (get_or f j [])
          covers j l h = go (due_later r.state (variable x) (wanted x) (unit_inside n fit unit).0 (unit_inside n fit unit).1 free (wanted_bit x) (get_or f j []) h)
            where
              old : Memᴰ (1 + j) (k ∷ rest) ⊎ Held p (get_or f j []) → Memᴰ (1 + j) rest ⊎ Held next (get_or f j [])
              old (inl (Memᴰ.head z)) = absurd (true≢false (sym satisfied_now ∙ ap (satisfied (satisfy p.values x)) (sym (same_clause j z)) ∙ h.unmet))
              old (inl (Memᴰ.tail w)) = inl w
              old (inr w) =
                  inr (record {
                    by = w.by;
                    queued = Memᴰ.append_left (variable x ∷ []) w.queued;
                    holds_it = ap (λ (b : ℕ). contains w.by (1 - b) (get_or f j [])) (kept w.by w.queued) ∙ w.holds_it;
                  })

              go : Due p.values (get_or f j []) ⊎ (contains (variable x) (1 - wanted x) (get_or f j []) ≡ true) → Memᴰ (1 + j) rest ⊎ Held next (get_or f j [])
              go (inl w) = old (r.covered j l w)
              go (inr w) =
                  inr (record {
                    by = variable x;
                    queued = Memᴰ.append_right p.queue (Memᴰ.head refl);
                    holds_it = ap (λ (b : ℕ). contains (variable x) (1 - b) (get_or f j [])) x_value ∙ w;
                  })

    pub looked : Looked n f row d a m rest (look row d p c)
    looked = go (is_falsified p.values c) refl (is_unit p.values c) refl
      where
        literal : is_unit p.values c ≡ true → (o : Option ℤ) → find (is_unassigned p.values) c ≡ o → Looked n f row d a m rest (make_hold row d p o)
        literal u None e =
            let s = find-some (is_unassigned p.values) c (omega (arith, (unit_one p.values c u).1)) in
            absurd (none-some s.0 (sym (sym s.1 ∙ e)))
        literal u (Some x) e = limit (ltb d (disagreement row (satisfy p.values x))) refl
          where
            limit : (t : Bool) → ltb d (disagreement row (satisfy p.values x)) ≡ t → Looked n f row d a m rest (cond t None (Some (record { values = satisfy p.values x; queue = p.queue ++ (variable x ∷ []) })))
            limit true q = over u x e q
            limit false q = held u x e q

        go : (s : Bool) → is_falsified p.values c ≡ s → (t : Bool) → is_unit p.values c ≡ t
            → Looked n f row d a m rest (cond s None (cond t (make_hold row d p (find (is_unassigned p.values) c)) (Some p)))
        go true e t u = falsified e
        go false e true u = literal u (find (is_unassigned p.values) c) refl
        go false e false u = passed e u

  -- and all that are left
  pub looked_at : (p : Pending) (ks : List ℕ) → ((k : ℕ) → Memᴰ k ks → (0 < k) × (k ≤ length f)) → Reached n f row d a m p ks → Looked n f row d a m [] (look_at f row d p ks)
  looked_at p [] inside r = r
  looked_at p (k ∷ ks) inside r =
      let b = inside k (Memᴰ.head refl) in
      go (look row d p (get_or f (k - 1) [])) (looked p k ks r b.0 b.1) (λ q w. looked_at q ks (λ j e. inside j (Memᴰ.tail e)) w)
    where
      go : (o : Option Pending) → Looked n f row d a m ks o → ((q : Pending) → Reached n f row d a m q ks → Looked n f row d a m [] (look_at f row d q ks))
          → Looked n f row d a m [] (and_then o (λ (q : Pending). look_at f row d q ks))
      go None w ih = w
      go (Some q) w ih = ih q w
