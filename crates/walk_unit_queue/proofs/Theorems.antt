-- What follows from the definitions of specs/Theorems.antt.
use Rattle.std.specs.Prelude.{◌≡◌, refl, ◌⊎◌, Bool, true, false, cond, ◌||◌, ℕ, zero, suc, ◌+◌, ◌-◌, ◌≤◌, ◌<◌, ltb, ℤ, length, get_or, Option, None, Some}
use Rattle.std.proofs.Common.{sym, ap, subst, ◌∙◌, inl, inr, true≢false, arith, ltb-false, le-ltb}
use mathlib.Core.List.Memᴰ
use mathlib.Core.List.{List, [], ◌∷◌, ◌++◌, Memᴰ}
use Rattle.literal.specs.Literal.{value}
use Rattle.formula.specs.Formula.{any, contains, clauses}
use Rattle.distance.specs.Distance.{disagreement}
use Rattle.choices.proofs.Lists.{member_at, member_index, any_member, any_false}
use Rattle.walk.specs.State.{State, unassigned, assign, is_falsified, fits}
use Rattle.walk.specs.Propagation.{propagate}
use Rattle.walk.specs.Walk.{is_dead_end}
use Rattle.walk.proofs.WalkLaws.{dead_early, dead_causes}
use Rattle.walk.proofs.Assignment.{assign_value, assign_extends}
use Rattle.walk.proofs.Extension.{keeps_value}
use Rattle.rule_list.specs.Sound.{SoundList}
use Rattle.search_meaning.specs.Fits.{sound_fits}
use Rattle.walk_unit_queue.specs.Steps.{Quiet}
use Rattle.walk_unit_queue.proofs.Steps.{propagate_ends}
use Rattle.walk_unit_queue.proofs.ReachedSettled.{reached_dead, reached_settled}
use Rattle.walk_occurrences.proofs.Numbered.{numbered_in}
use Rattle.walk_occurrences.specs.Occurrences.{empty_clauses, filled_clauses}
use Rattle.walk_unit_queue.specs.Due.{Due, NoneDue}
use Rattle.walk_unit_queue.proofs.Due.{not_due, due_unit, due_falsified, due_later}
use Rattle.walk_unit_queue.proofs.Numbers.{every_number, every_inside, occurrences_inside}
use Rattle.walk_unit_queue.specs.Queue.{Pending, and_then, look_at, false_in, take_first, drain_by, drain, follow, settle}
use Rattle.walk_unit_queue.specs.Reached.{Held, Reached, DeadReached, Looked}
use Rattle.walk_unit_queue.proofs.Reached.{looked_at}
use Rattle.walk_unit_queue.specs.Theorems.{Covers, EndsAlike}

over_dead : (f : List (List ℤ)) (row : List ℕ) (d : ℕ) (a : List ℕ) → ltb d (disagreement row a) ≡ true → is_dead_end f row d a ≡ true
over_dead f row d a e = go (any (is_falsified a) f)
  where
    go : (t : Bool) → t || ltb d (disagreement row a) ≡ true
    go true = refl
    go false = e

module _ (n : ℕ) (f : List (List ℤ)) (fit : fits n f ≡ true) (row : List ℕ) (d : ℕ) (a : List ℕ) (s : State n a) where
  dead : DeadReached f row d a → is_dead_end f row d (propagate f a) ≡ true
  dead r = reached_dead n f fit row d a s r.steps.0 r.state r.steps.1 r.dead

  -- with an empty queue nothing is left to do
  ended : (m : ℕ) (b : List ℕ) → Reached n f row d a m (record { values = b; queue = [] }) [] → EndsAlike f row d (propagate f a) (Some b)
  ended m b r =
      let e : b ≡ propagate f a = reached_settled n f fit row d a s r.steps.0 b r.steps.1 quiet alive in
      (e, ap (is_dead_end f row d) (sym e) ∙ alive)
    where
      nothing : (j : ℕ) → j < length f → Due b (get_or f j []) → ⊥
      nothing j l h = go (r.covered j l h)
        where
          go : Memᴰ (1 + j) [] ⊎ Held (record { values = b; queue = [] }) (get_or f j []) → ⊥
          go (inl w) = Memᴰ.not-nil w
          go (inr w) = Memᴰ.not-nil w.queued

      none_due : NoneDue f b
      none_due c w h = let i = member_index [] f w in nothing i.0 i.1 (subst (Due b) (sym i.2) h)

      quiet : Quiet f b
      quiet c w = due_unit b c (none_due c w)

      alive : is_dead_end f row d b ≡ false
      alive = go (any (is_falsified b) f) refl
        where
          go : (t : Bool) → any (is_falsified b) f ≡ t → t || ltb d (disagreement row b) ≡ false
          go true e = let g = any_member (is_falsified b) f e in absurd (true≢false (sym g.2 ∙ due_falsified b g.0 (none_due g.0 g.1)))
          go false e = le-ltb d (disagreement row b) r.within

  -- the queue is followed to its end
  drained : (m : ℕ) (p : Pending) → Reached n f row d a m p [] → EndsAlike f row d (propagate f a) (drain_by m f row d p)
  drained zero p r = go p.queue refl
    where
      go : (q : List ℕ) → p.queue ≡ q → EndsAlike f row d (propagate f a) (Some p.values)
      go [] e = ended 0 p.values (subst (λ (l : List ℕ). Reached n f row d a 0 (record { values = p.values; queue = l }) []) e r)
      go (v ∷ vs) e = absurd (omega (arith, r.left, ap length e))
  drained (suc m) p r = go p.queue refl (λ q w. drained m q w)
    where
      after : (o : Option Pending) → Looked n f row d a m [] o → ((q : Pending) → Reached n f row d a m q [] → EndsAlike f row d (propagate f a) (drain_by m f row d q))
          → EndsAlike f row d (propagate f a) (and_then o (drain_by m f row d))
      after None w ih = dead w
      after (Some q) w ih = ih q w

      go : (q : List ℕ) → p.queue ≡ q → ((q : Pending) → Reached n f row d a m q [] → EndsAlike f row d (propagate f a) (drain_by m f row d q)) → EndsAlike f row d (propagate f a) (take_first (drain_by m f row d) f row d p.values q)
      go [] e ih = ended (suc m) p.values (subst (λ (l : List ℕ). Reached n f row d a (suc m) (record { values = p.values; queue = l }) []) e r)
      go (v ∷ vs) e ih =
          after (look_at f row d (record { values = p.values; queue = vs }) (false_in f p.values v))
          (looked_at n f fit row d a m (record { values = p.values; queue = vs }) (false_in f p.values v) (λ k w. occurrences_inside f v (1 - value p.values v) w) taken) ih
        where
          taken : Reached n f row d a m (record { values = p.values; queue = vs }) (false_in f p.values v)
          taken =
              record {
                steps = r.steps;
                state = r.state;
                within = r.within;
                left = omega (arith, r.left, ap length e);
                assigned = λ u w. r.assigned u (subst (Memᴰ u) (sym e) (Memᴰ.tail w));
                covered = covers;
              }
            where
              covers : (j : ℕ) → j < length f → Due p.values (get_or f j []) → Memᴰ (1 + j) (false_in f p.values v) ⊎ Held (record { values = p.values; queue = vs }) (get_or f j [])
              covers j l h = which (r.covered j l h)
                where
                  by : (u : ℕ) → Memᴰ u (v ∷ vs) → contains u (1 - value p.values u) (get_or f j []) ≡ true
                      → Memᴰ (1 + j) (false_in f p.values v) ⊎ Held (record { values = p.values; queue = vs }) (get_or f j [])
                  by u (Memᴰ.head z) k = inl (numbered_in (contains v (1 - value p.values v)) f 1 j l (ap (λ (w : ℕ). contains w (1 - value p.values w) (get_or f j [])) (sym z) ∙ k))
                  by u (Memᴰ.tail w) k = inr (record { by = u; queued = w; holds_it = k })

                  which : Memᴰ (1 + j) [] ⊎ Held p (get_or f j []) → Memᴰ (1 + j) (false_in f p.values v) ⊎ Held (record { values = p.values; queue = vs }) (get_or f j [])
                  which (inl w) = absurd (Memᴰ.not-nil w)
                  which (inr w) = by w.by (subst (Memᴰ w.by) e w.queued) w.holds_it

  -- from any state: each clause is looked at, and then the queue followed
  pub settle_alike : EndsAlike f row d (propagate f a) (settle f row d a)
  settle_alike = go (ltb d (disagreement row a)) refl
    where
      start : ltb d (disagreement row a) ≡ false → Reached n f row d a (unassigned a) (record { values = a; queue = [] }) (filled_clauses f ++ empty_clauses f)
      start e =
          record {
            steps = ([], refl);
            state = s;
            within = ltb-false d (disagreement row a) e;
            left = omega arith;
            assigned = λ v w. absurd (Memᴰ.not-nil w);
            covered = λ j l h. inl (every_number f j l);
          }

      after : (o : Option Pending) → Looked n f row d a (unassigned a) [] o → EndsAlike f row d (propagate f a) (and_then o (drain f row d))
      after None w = dead w
      after (Some q) w = subst (λ (k : ℕ). EndsAlike f row d (propagate f a) (drain_by k f row d q)) (sym w.left) (drained (unassigned a) q w)

      go : (t : Bool) → ltb d (disagreement row a) ≡ t
          → EndsAlike f row d (propagate f a) (cond t None (and_then (look_at f row d (record { values = a; queue = [] }) (filled_clauses f ++ empty_clauses f)) (drain f row d)))
      go true e = dead_early f row d a (over_dead f row d a e)
      go false e =
          after (look_at f row d (record { values = a; queue = [] }) (filled_clauses f ++ empty_clauses f))
          (looked_at n f fit row d a (unassigned a) (record { values = a; queue = [] }) (filled_clauses f ++ empty_clauses f) (λ k w. every_inside f w) (start e))

  -- from a state in which only clauses of the queue's variables ask for anything
  pub follow_alike : (q : List ℕ) → Covers f (record { values = a; queue = q }) → EndsAlike f row d (propagate f a) (follow f row d (record { values = a; queue = q }))
  follow_alike q c = go (ltb d (disagreement row a)) refl
    where
      go : (t : Bool) → ltb d (disagreement row a) ≡ t → EndsAlike f row d (propagate f a) (cond t None (drain f row d (record { values = a; queue = q })))
      go true e = dead_early f row d a (over_dead f row d a e)
      go false e =
          drained (length q + unassigned a) (record { values = a; queue = q })
          (record {
            steps = ([], refl);
            state = s;
            within = ltb-false d (disagreement row a) e;
            left = refl;
            assigned = c.assigned;
            covered = λ j l h. inr (c.covered j l h);
          })

-- where no clause asks for anything, the queue can be empty
pub none_covers : (f : List (List ℤ)) {a : List ℕ} → NoneDue f a → Covers f (record { values = a; queue = [] })
none_covers f none_due =
    record { assigned = λ v w. absurd (Memᴰ.not-nil w); covered = λ j l h. absurd (none_due (get_or f j []) (member_at [] f j l) h) }

-- a variable is assigned, and comes into the queue
pub assign_covers : {n : ℕ} (f : List (List ℤ)) {a q : List ℕ} → State n a → Covers f (record { values = a; queue = q }) → (v b : ℕ) → 0 < v → v ≤ n → value a v ≡ 2 → b < 2
    → Covers f (record { values = assign a v b; queue = q ++ (v ∷ []) })
assign_covers f {a} {q} s c v b low high free bit =
    record {
      assigned = λ u w. queued u (Memᴰ.append_cases q w);
      covered = λ j l h. go j l (due_later s v b low high free bit (get_or f j []) h);
    }
  where
    v_value : value (assign a v b) v ≡ b
    v_value = assign_value s v b low high

    -- a variable of the queue keeps its value
    kept : (u : ℕ) → Memᴰ u q → value (assign a v b) u ≡ value a u
    kept u w = keeps_value (assign_extends a v b free) u (λ e. omega (arith, c.assigned u w))

    queued : (u : ℕ) → Memᴰ u q ⊎ Memᴰ u (v ∷ []) → value (assign a v b) u < 2
    queued u (inl w) = omega (arith, kept u w, c.assigned u w)
    queued u (inr w) = omega (arith, ap (value (assign a v b)) (Memᴰ.eq_of_singleton w), v_value)

    old : (j : ℕ) → Held (record { values = a; queue = q }) (get_or f j []) → Held (record { values = assign a v b; queue = q ++ (v ∷ []) }) (get_or f j [])
    old j w =
        record {
          by = w.by;
          queued = Memᴰ.append_left (v ∷ []) w.queued;
          holds_it = ap (λ (k : ℕ). contains w.by (1 - k) (get_or f j [])) (kept w.by w.queued) ∙ w.holds_it;
        }

    go : (j : ℕ) → j < length f → Due a (get_or f j []) ⊎ (contains v (1 - b) (get_or f j []) ≡ true) → Held (record { values = assign a v b; queue = q ++ (v ∷ []) }) (get_or f j [])
    go j l (inl w) = old j (c.covered j l w)
    go j l (inr w) =
        record { by = v; queued = Memᴰ.append_right q (Memᴰ.head refl); holds_it = ap (λ (k : ℕ). contains v (1 - k) (get_or f j [])) v_value ∙ w }

-- After a fork: from a state in which no clause asks for anything, only the clauses that hold the false literal of the variable that was assigned can
pub fork_covers : {n : ℕ} (f : List (List ℤ)) {a : List ℕ} → State n a → NoneDue f a → (v b : ℕ) → 0 < v → v ≤ n → value a v ≡ 2 → b < 2
    → Covers f (record { values = assign a v b; queue = v ∷ [] })
fork_covers f {a} s none_due v b low high free bit = assign_covers f s (none_covers f none_due) v b low high free bit

-- and where propagation has ended without a dead end, no clause asks for anything
pub settled_none_due : (n : ℕ) (f : List (List ℤ)) → fits n f ≡ true → (row : List ℕ) (d : ℕ) {a : List ℕ} → State n a → is_dead_end f row d (propagate f a) ≡ false → NoneDue f (propagate f a)
settled_none_due n f fit row d {a} s e c w =
    not_due (propagate f a) c (any_false (is_falsified (propagate f a)) (dead_causes f row d (propagate f a) e).0 w) (propagate_ends n f fit s c w)

-- "settling by either from the same state ends alike (a dead end in both, or the same settled state) for every sound list"
pub sound_alike : (n : ℕ) (rules : List ℤ) → SoundList n rules → (row : List ℕ) (d : ℕ) (a : List ℕ) → State n a
    → EndsAlike (clauses rules) row d (propagate (clauses rules) a) (settle (clauses rules) row d a)
sound_alike n rules h = settle_alike n (clauses rules) (sound_fits n rules h)
