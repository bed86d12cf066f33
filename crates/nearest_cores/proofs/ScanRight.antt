-- What follows from the definitions of specs/ScanRight.antt.
use Rattle.std.specs.Prelude.{◌≡◌, refl, ◌⊎◌, Bool, true, false, cond, ◌&&◌, ℕ, zero, suc, ◌+◌, ◌≤◌, ◌<◌, ℤ, length}
use Rattle.std.proofs.Common.{sym, ap, subst, ◌∙◌, inl, inr, ⊎_elim, true≢false, arith, eqb-true, eq-eqb, ltb-true, ltb-false}
use Rattle.std.proofs.Math.Bool.{and-eq-true_iff}
use mathlib.Core.List.Memᴰ
use mathlib.Core.List.{List, [], ◌∷◌, ◌++◌, Memᴰ}
use Rattle.literal.specs.Literal.{value}
use Rattle.formula.specs.Formula.{any, satisfied}
use Rattle.wish.specs.Wish.{is_wish, wished_value, cost, breaks}
use Rattle.wish.specs.Laws.{wished_bit, cost_wished, cost-unassigned}
use Rattle.choices.specs.Choices.{Model}
use Rattle.choices.proofs.Lists.{any_member, any_false, all_at}
use Rattle.walk.specs.State.{State, is_unset, is_falsified}
use Rattle.walk.specs.Extension.{Extends}
use Rattle.walk.proofs.Extension.{extends_trans, keeps_value, falsified_never}
use Rattle.walk.proofs.Assignment.{extends_assign, assign_extends, assign_value, assign_state}
use Rattle.walk.proofs.PropagationLaws.{propagate_state, propagate_extends, propagate_forced}
use Rattle.nearest_cores.specs.Cores.{Scan, is_left, is_assumable, is_broken, keep_wish, scan_start, broken_from, first_broken, close_core, with_broken, scan_wish, scan}
use Rattle.nearest_cores.specs.Facts.{breaks_one, Core, variables_of, Distinct, Unset}
use Rattle.nearest_cores.proofs.Facts.{kept_value}
use Rattle.nearest_cores.proofs.Taken.{assuming, Free, free_start, free_close, left_zero, take_left, wish_ways, scan_keeps}
use Rattle.nearest_cores.specs.ScanRight.{Found}

-- two lists of distinct variables that share none, and one variable alone
distinct_append : (l m : List ℕ) → Distinct l → Distinct m → ((v : ℕ) → Memᴰ v l → Memᴰ v m → ⊥) → Distinct (l ++ m)
distinct_append [] m p q apart = q
distinct_append (v ∷ l) m p q apart =
    (λ w. ⊎_elim p.0 (apart v (Memᴰ.head refl)) (Memᴰ.append_cases l w), distinct_append l m p.1 q (λ u r s. apart u (Memᴰ.tail r) s))

distinct_one : (v : ℕ) → Distinct (v ∷ [])
distinct_one v = (λ m. Memᴰ.not-nil m, tt)

-- a choice keeps the wishes of some variables
abbrev Keeps : List ℕ → List ℕ → List ℕ → Type 0
Keeps row c vs = (v : ℕ) → Memᴰ v vs → breaks (value row v) (value c v) ≡ false

-- if it can't keep them all, it breaks one
one_broken : (row c vs : List ℕ) → (Keeps row c vs → ⊥) → breaks_one row c vs ≡ true
one_broken row c vs h = go (breaks_one row c vs) refl
  where
    go : (t : Bool) → breaks_one row c vs ≡ t → t ≡ true
    go true e = refl
    go false e = absurd (h (λ v m. any_false (λ (u : ℕ). breaks (value row u) (value c u)) e m))

-- the lowest wish that is broken is broken
broken_from_lem : (k : ℕ) (row taken a : List ℕ) (v w : ℕ) → broken_from k row taken a v ≡ suc w → is_broken row taken a (suc w) ≡ true
broken_from_lem zero row taken a v w e = absurd (omega arith)
broken_from_lem (suc k) row taken a v w e = go (is_broken row taken a v) refl e (λ q. broken_from_lem k row taken a (suc v) w q)
  where
    go : (t : Bool) → is_broken row taken a v ≡ t → cond t v (broken_from k row taken a (suc v)) ≡ suc w
        → (broken_from k row taken a (suc v) ≡ suc w → is_broken row taken a (suc w) ≡ true) → is_broken row taken a (suc w) ≡ true
    go true p q ih = subst (λ (u : ℕ). is_broken row taken a u ≡ true) q p
    go false p q ih = ih q

-- what breaks a wish is a value, and not the wished one
broken_assigned : (w b : ℕ) → breaks w b ≡ true → b ≡ 2 → ⊥
broken_assigned w b h e = omega (arith, ltb-true 0 (cost w b) h, ap (cost w) e, cost-unassigned w)

broken_unwished : (w b : ℕ) → breaks w b ≡ true → b ≡ wished_value w → ⊥
broken_unwished w b h e = omega (arith, ltb-true 0 (cost w b) h, ap (cost w) e, cost_wished w)

module _ (n : ℕ) (f : List (List ℤ)) (row b : List ℕ) (st : State n b) where
  -- on the way: what was found, and the wishes assumed are distinct and left, have their wished values, and lead every model that keeps them to the values
  record OnTheWay (s : Scan) : Type 0 where
    pub found : Found n f row b s
    pub free : Free f row b s
    pub state : State n s.values
    pub follows : (c : List ℕ) → Model n f c → Extends c b → Keeps row c s.assumed → Extends c s.values
    pub distinct : Distinct s.assumed
    pub left : (u : ℕ) → Memᴰ u s.assumed → value s.taken u ≡ 0
    pub kept : (u : ℕ) → Memᴰ u s.assumed → value s.values u ≡ wished_value (value row u)

  -- at the start
  starts : OnTheWay (scan_start row b)
  starts =
      record {
        found = record {
          cores = [];
          are_cores = record {
            disjoint = record { open_variables = λ v m. absurd (Memᴰ.not-nil m); distinct = tt };
            each = λ vs m. absurd (Memᴰ.not-nil m);
          };
          sum = omega arith;
          apart = λ v e m. Memᴰ.not-nil m;
        };
        free = free_start f row b;
        state = st;
        follows = λ c m e k. e;
        distinct = tt;
        left = λ u m. absurd (Memᴰ.not-nil m);
        kept = λ u m. absurd (Memᴰ.not-nil m);
      }

  module _ (s : Scan) (on : OnTheWay s) where
    left_unset : (u : ℕ) → value s.taken u ≡ 0 → Unset n b u
    left_unset u z = let r = on.free.1 u z in record { above = r.1; up_to = omega (arith, r.2, st.size); unset = r.0 }

    -- a core is found
    closes : (core : List ℕ) → Distinct core → ((u : ℕ) → Memᴰ u core → value s.taken u ≡ 0) → Core n f row b core → OnTheWay (close_core row b s core)
    closes core apart left is =
        record {
          found = record {
            cores = core ∷ before.cores;
            are_cores = record { disjoint = record { open_variables = unset; distinct = distinct_append core (variables_of before.cores) apart before.are_cores.disjoint.distinct shared }; each = each };
            sum = omega (arith, before.sum);
            apart = still;
          };
          free = free_close f row b s core on.free;
          state = st;
          follows = λ c m e k. e;
          distinct = tt;
          left = λ u m. absurd (Memᴰ.not-nil m);
          kept = λ u m. absurd (Memᴰ.not-nil m);
        }
      where
        before : Found n f row b s
        before = on.found

        shared : (v : ℕ) → Memᴰ v core → Memᴰ v (variables_of before.cores) → ⊥
        shared v p q = before.apart v (eq-eqb (value s.taken v) 0 (left v p)) q

        unset : (v : ℕ) → Memᴰ v (core ++ variables_of before.cores) → Unset n b v
        unset v m = ⊎_elim (λ p. left_unset v (left v p)) (before.are_cores.disjoint.open_variables v) (Memᴰ.append_cases core m)

        each : (vs : List ℕ) → Memᴰ vs (core ∷ before.cores) → Core n f row b vs
        each vs (Memᴰ.head q) = subst (Core n f row b) (sym q) is
        each vs (Memᴰ.tail q) = before.are_cores.each vs q

        still : (v : ℕ) → is_left (close_core row b s core).taken v ≡ true → Memᴰ v (core ++ variables_of before.cores) → ⊥
        still v e m =
            let r = take_left core s.taken v (left_zero (close_core row b s core).taken v e) in
            ⊎_elim r.1 (before.apart v (eq-eqb (value s.taken v) 0 r.0)) (Memᴰ.append_cases core m)

    -- a wish is assumed
    module _ (v : ℕ) (assumable : is_assumable row s v ≡ true) where
      abbrev a : List ℕ
      a = assuming f row b s v

      abbrev wished : ℕ
      wished = wished_value (value row v)

      three : (is_wish (value row v) ≡ true) × (is_left s.taken v ≡ true) × (is_unset (value s.values v) ≡ true)
      three =
          let r = (and-eq-true_iff (is_wish (value row v) && is_left s.taken v) (is_unset (value s.values v))).0 assumable in
          let q = (and-eq-true_iff (is_wish (value row v)) (is_left s.taken v)).0 r.0 in
          (q.0, q.1, r.1)

      unset_now : value s.values v ≡ 2
      unset_now = eqb-true (value s.values v) 2 three.2

      unset_then : Unset n b v
      unset_then = left_unset v (left_zero s.taken v three.1)

      kept_state : State n (keep_wish row s.values v)
      kept_state = assign_state on.state v wished (omega (arith, wished_bit (value row v)))

      onward : Extends a s.values
      onward = extends_trans (propagate_extends f (keep_wish row s.values v)) (assign_extends s.values v wished unset_now)

      -- its value, and those of the wishes assumed before
      has_wished : value a v ≡ wished
      has_wished =
          let e : value (keep_wish row s.values v) v ≡ wished = assign_value on.state v wished unset_then.above unset_then.up_to in
          keeps_value (propagate_extends f (keep_wish row s.values v)) v (λ q. omega (arith, wished_bit (value row v))) ∙ e

      abbrev more : List ℕ
      more = s.assumed ++ (v ∷ [])

      more_kept : (u : ℕ) → Memᴰ u more → value a u ≡ wished_value (value row u)
      more_kept u m = ⊎_elim before here (Memᴰ.append_cases s.assumed m)
        where
          before : Memᴰ u s.assumed → value a u ≡ wished_value (value row u)
          before q = keeps_value onward u (λ z. omega (arith, on.kept u q, wished_bit (value row u))) ∙ on.kept u q

          here : Memᴰ u (v ∷ []) → value a u ≡ wished_value (value row u)
          here q = subst (λ (x : ℕ). value a x ≡ wished_value (value row x)) (sym (Memᴰ.eq_of_singleton q)) has_wished

      more_left : (u : ℕ) → Memᴰ u more → value s.taken u ≡ 0
      more_left u m =
          ⊎_elim (on.left u)
          (λ q. subst (λ (x : ℕ). value s.taken x ≡ 0) (sym (Memᴰ.eq_of_singleton q)) (left_zero s.taken v three.1))
          (Memᴰ.append_cases s.assumed m)

      new : (u : ℕ) → Memᴰ u s.assumed → u ≡ v → ⊥
      new u m e = omega (arith, on.kept u m, ap (value s.values) e, unset_now, wished_bit (value row u))

      more_distinct : Distinct more
      more_distinct = distinct_append s.assumed (v ∷ []) on.distinct (distinct_one v) (λ u p q. new u p (Memᴰ.eq_of_singleton q))

      -- every model that keeps them all goes the same way
      more_follows : (c : List ℕ) → Model n f c → Extends c b → Keeps row c more → Extends c a
      more_follows c m e k =
          let before : Extends c s.values = on.follows c m e (λ u q. k u (Memᴰ.append_left (v ∷ []) q)) in
          let free : breaks (value row v) (value c v) ≡ false = k v (Memᴰ.append_right s.assumed (Memᴰ.head refl)) in
          let z : cost (value row v) (value c v) ≡ 0 = omega (arith, ltb-false 0 (cost (value row v) (value c v)) free) in
          propagate_forced f m.satisfies (extends_assign before v wished (kept_value m.choice row v unset_then.above unset_then.up_to three.0 z))

      assumes : OnTheWay (with_broken row b s v a 0)
      assumes =
          record {
            found = record { cores = on.found.cores; are_cores = on.found.are_cores; sum = on.found.sum; apart = on.found.apart };
            free = on.free;
            state = propagate_state f kept_state;
            follows = more_follows;
            distinct = more_distinct;
            left = more_left;
            kept = more_kept;
          }

      -- a clause is falsified: no model keeps them all
      falsified_core : any (is_falsified a) f ≡ true → Core n f row b more
      falsified_core h c m e =
          let r = any_member (is_falsified a) f h in
          one_broken row c more (λ k. true≢false (sym (all_at (satisfied c) m.satisfies r.1) ∙ falsified_never (more_follows c m e k) r.0 r.2))

      falsifies : any (is_falsified a) f ≡ true → OnTheWay (close_core row b s more)
      falsifies h = closes more more_distinct more_left (falsified_core h)

      -- a wish is broken: a model that keeps all the others breaks it
      module _ (w : ℕ) (first : first_broken row s.taken a ≡ suc w) where
        two : (is_left s.taken (suc w) ≡ true) × (breaks (value row (suc w)) (value a (suc w)) ≡ true)
        two = (and-eq-true_iff (is_left s.taken (suc w)) (breaks (value row (suc w)) (value a (suc w)))).0 (broken_from_lem (length a) row s.taken a 1 w first)

        abbrev core : List ℕ
        core = s.assumed ++ (v ∷ suc w ∷ [])

        -- a variable of the core is one of the others or the one that is broken
        core_cases : (u : ℕ) → Memᴰ u core → Memᴰ u more ⊎ (u ≡ suc w)
        core_cases u m = ⊎_elim (λ q. inl (Memᴰ.append_left (v ∷ []) q)) last (Memᴰ.append_cases s.assumed m)
          where
            last : Memᴰ u (v ∷ suc w ∷ []) → Memᴰ u more ⊎ (u ≡ suc w)
            last (Memᴰ.head q) = inl (Memᴰ.append_right s.assumed (Memᴰ.head q))
            last (Memᴰ.tail q) = inr (Memᴰ.eq_of_singleton q)

        within : (u : ℕ) → Memᴰ u more → Memᴰ u core
        within u m =
            ⊎_elim (λ q. Memᴰ.append_left (v ∷ suc w ∷ []) q)
            (λ q. Memᴰ.append_right s.assumed (Memᴰ.head (Memᴰ.eq_of_singleton q))) (Memᴰ.append_cases s.assumed m)

        other : (u : ℕ) → Memᴰ u more → u ≡ suc w → ⊥
        other u m e = broken_unwished (value row (suc w)) (value a (suc w)) two.1 (subst (λ (x : ℕ). value a x ≡ wished_value (value row x)) e (more_kept u m))

        core_distinct : Distinct core
        core_distinct = distinct_append s.assumed (v ∷ suc w ∷ []) on.distinct (pair, distinct_one (suc w)) shared
          where
            pair : Memᴰ v (suc w ∷ []) → ⊥
            pair q = other v (Memᴰ.append_right s.assumed (Memᴰ.head refl)) (Memᴰ.eq_of_singleton q)

            shared : (u : ℕ) → Memᴰ u s.assumed → Memᴰ u (v ∷ suc w ∷ []) → ⊥
            shared u p (Memᴰ.head q) = new u p q
            shared u p (Memᴰ.tail q) = other u (Memᴰ.append_left (v ∷ []) p) (Memᴰ.eq_of_singleton q)

        core_left : (u : ℕ) → Memᴰ u core → value s.taken u ≡ 0
        core_left u m = ⊎_elim (more_left u) (λ q. subst (λ (x : ℕ). value s.taken x ≡ 0) (sym q) (left_zero s.taken (suc w) two.0)) (core_cases u m)

        broken_core : Core n f row b core
        broken_core c m e = one_broken row c core no
          where
            no : Keeps row c core → ⊥
            no k =
                let there : Extends c a = more_follows c m e (λ u q. k u (within u q)) in
                let same : value c (suc w) ≡ value a (suc w) = keeps_value there (suc w) (broken_assigned (value row (suc w)) (value a (suc w)) two.1) in
                true≢false (sym two.1 ∙ ap (breaks (value row (suc w))) (sym same) ∙ k (suc w) (Memᴰ.append_right s.assumed (Memᴰ.tail (Memᴰ.head refl))))

        breaks_one_lem : OnTheWay (with_broken row b s v a (suc w))
        breaks_one_lem = closes core core_distinct core_left broken_core

  goes_on : (s : Scan) (v : ℕ) → OnTheWay s → OnTheWay (scan_wish f row b s v)
  goes_on s v on =
      wish_ways f row b OnTheWay s v
      (record { skipped = on; falsified = λ p e. falsifies s on v p e; assumed = λ p e. assumes s on v p; broken = λ w p e. breaks_one_lem s on v p w e })

  -- A scan of a state finds disjoint cores of it. What the state breaks and the least weights of the cores make up the bound, and what is left stands in no core.
  pub scan_found : Found n f row b (scan f row b)
  scan_found = (scan_keeps f row b OnTheWay goes_on (length b) (scan_start row b) 1 starts).found

-- of any list of bytes: what is left of it
module _ (f : List (List ℤ)) (row b : List ℕ) where
  free_wish : (s : Scan) (v : ℕ) → Free f row b s → Free f row b (scan_wish f row b s v)
  free_wish s v q =
      wish_ways f row b (Free f row b) s v
      (record {
        skipped = q;
        falsified = λ p e. free_close f row b s (s.assumed ++ (v ∷ [])) q;
        assumed = λ p e. q;
        broken = λ w p e. free_close f row b s (s.assumed ++ (v ∷ suc w ∷ [])) q;
      })

  free_scan : Free f row b (scan f row b)
  free_scan = scan_keeps f row b (Free f row b) free_wish (length b) (scan_start row b) 1 (free_start f row b)

  -- what a scan leaves is unassigned in the state, and one of its variables
  pub left_unassigned : (v : ℕ) → is_left (scan f row b).taken v ≡ true → value b v ≡ 2
  left_unassigned v e = (free_scan.1 v (left_zero (scan f row b).taken v e)).0

  pub left_above : (v : ℕ) → is_left (scan f row b).taken v ≡ true → 0 < v
  left_above v e = (free_scan.1 v (left_zero (scan f row b).taken v e)).1

  pub left_up_to : {n : ℕ} → State n b → (v : ℕ) → is_left (scan f row b).taken v ≡ true → v ≤ n
  left_up_to h v e = omega (arith, h.size, (free_scan.1 v (left_zero (scan f row b).taken v e)).2)
