-- One variable of the way through the wishes: it is left out, assumed, or the last of a core.
use Rattle.std.specs.Prelude.{◌≡◌, refl, Bool, true, false, cond, ◌&&◌, List, [], ◌∷◌, ◌++◌, ℕ, zero, suc, ◌+◌, ◌≤◌, ◌<◌, ◌^◌, ℤ, length, get_or, set, take, Ok, Err}
use Rattle.std.proofs.Common.{sym, ap, subst, ◌∙◌, arith, length-set, take-take, eqb-true}
use Rattle.std.proofs.Math.Bool.{and-eq-true_iff}
use Rattle.std.proofs.Math.Seq.{slice, slice_empty, append_snoc}
use Rattle.formula.specs.Formula.{any, clauses}
use Rattle.literal.specs.Literal.{value}
use Rattle.wish.specs.Wish.{is_wish, wished_value}
use Rattle.walk.proofs.Assignment.{assign_extends}
use Rattle.walk.specs.Extension.{Extends}
use Rattle.walk.proofs.Extension.{extends_trans}
use Rattle.walk.specs.Propagation.{propagate}
use Rattle.walk.proofs.PropagationLaws.{propagate_extends}
use Rattle.walk.specs.State.{is_unset, is_falsified}
use Rattle.walk_tally.specs.declared.Tally.{Tally}
use Rattle.walk_propagation.specs.Looked.{Moved}
use Rattle.walk_propagation.specs.Looking.{Following, following_moved}
use Rattle.walk_propagation.specs.Searching.{searching_kept, settled_most, undoable}
use Rattle.walk_propagation.specs.Trail.{undone, grown_undone}
use Rattle.nearest_cores.specs.Cores.{Scan, is_left, is_assumable, keep_wish, first_broken, least_weight, take_each, close_core, with_broken, after_assuming, scan_wish}
use Rattle.nearest_cores.proofs.Taken.{take-length}
use Rattle.nearest_core_scan.specs.declared.progress.Progress.{Progress}
use Rattle.nearest_core_scan.specs.Assuming.{AssumedBy}
use Rattle.nearest_core_scan.specs.Broken.{Unbroken, unbroken_none, none_unbroken, free_unbroken, unbroken_still}
use Rattle.nearest_core_scan.specs.Closing.{Among, Closed, BrokenThen, among_none, among_more, assumed_more}
use Rattle.nearest_core_scan.specs.Scanning.{present, Scanning, Scanned}
use Rattle.nearest_core_scan.specs.Taking.{least-most, left_free_taken}

-- what the definition does with one variable
module _ (f : List (List ℤ)) (row b : List ℕ) (s : Scan) (v : ℕ) where
  abbrev after : List ℕ
  after = propagate f (keep_wish row s.values v)

  scan_out : is_assumable row s v ≡ false → scan_wish f row b s v ≡ s
  scan_out e = ap (λ (t : Bool). cond t (after_assuming f row b s v after) s) e

  module _ (e : is_assumable row s v ≡ true) where
    scan_in : scan_wish f row b s v ≡ after_assuming f row b s v after
    scan_in = ap (λ (t : Bool). cond t (after_assuming f row b s v after) s) e

    scan_core : any (is_falsified after) f ≡ true → scan_wish f row b s v ≡ close_core row b s (s.assumed ++ (v ∷ []))
    scan_core d = scan_in ∙ ap (λ (t : Bool). cond t (close_core row b s (s.assumed ++ (v ∷ []))) (with_broken row b s v after (first_broken row s.taken after))) d

    scan_broken : (a : List ℕ) → a ≡ after → any (is_falsified a) f ≡ false → scan_wish f row b s v ≡ with_broken row b s v a (first_broken row s.taken a)
    scan_broken a q d =
        scan_in
        ∙ ap (λ (l : List ℕ). after_assuming f row b s v l) (sym q)
        ∙ ap (λ (t : Bool). cond t (close_core row b s (s.assumed ++ (v ∷ []))) (with_broken row b s v a (first_broken row s.taken a))) d

-- a state of the search, whatever stands on the trail behind its variables
following_kept : {rules : List ℤ} {arrangement row : List ℕ} {t : Tally} {a trail : List ℕ} → Following rules arrangement row t a trail
    → (trail' : List ℕ) → length trail' ≡ length trail → take t.settled trail' ≡ take t.settled trail → Following rules arrangement row t a trail'
following_kept h trail' l e =
    record {
      looking = record { few = h.looking.few; fit = h.looking.fit; located = h.looking.located; searching = searching_kept h.looking.searching trail' l e };
      beside = h.beside;
    }

module _ {rules : List ℤ} {arrangement row : List ℕ} {base : Tally} {b : List ℕ} {v : ℕ} {p : Progress} {a trail taken assumed : List ℕ} (h : Scanning rules arrangement row base b v p a trail taken assumed) where
  -- the state has as many variables as the values
  pub same_size : length b ≡ length a
  same_size = omega (arith, h.base_following.looking.searching.long, h.following.looking.searching.long)

  -- it is not assumed
  pub scan-refused : is_assumable row (present p a taken assumed) v ≡ false → Scanned rules arrangement row base b v (present p a taken assumed) trail p a trail taken assumed
  scan-refused e =
      record {
        next =
            record {
              following = h.following;
              quiet = h.quiet;
              base_following = h.base_following;
              base_quiet = h.base_quiet;
              since = h.since;
              back = h.back;
              left_free = h.left_free;
              unbroken = h.unbroken;
              among = h.among;
              few = omega (arith, h.few);
              room = h.room;
              wide = h.wide;
              small = omega (arith, h.small);
            };
        step = sym (scan_out (clauses rules) row b (present p a taken assumed) v e);
        kept = refl;
      }

  -- it is: what following it up asks for
  pub assumable_free : is_assumable row (present p a taken assumed) v ≡ true → value a v ≡ 2
  assumable_free e = eqb-true (value a v) 2 ((and-eq-true_iff (is_wish (value row v) && is_left taken v) (is_unset (value a v))).0 e).1

  -- the number of the wish stands in the table
  pub assumed_with : v ≤ length a → take (p.assumed + 1) (set assumed p.assumed v) ≡ take p.assumed assumed ++ (v ∷ [])
  assumed_with high = assumed_more assumed p.assumed v (omega (arith, h.few, h.room))

  pub among_with : v ≤ length a → Among (length a) (take (p.assumed + 1) (set assumed p.assumed v))
  among_with high = rw (assumed_with high) (among_more h.among v (omega (arith, h.few)) high)

  -- and no sum runs over
  pub bound_small : v ≤ length a → p.bound < 2 ^ 32
  bound_small high = omega (arith, h.small, h.following.looking.few)

  -- later values a₁
  module _ {t : Tally} {a₁ trail₁ : List ℕ} (m : Moved (length a) row p.tally a trail t a₁ trail₁) where
    inside : t.settled ≤ length trail₁
    inside = omega (arith, settled_most m.searching, m.searching.long)

    -- they can be set back
    pub back_later : undone (slice base.settled t.settled trail₁) a₁ ≡ b
    back_later = grown_undone inside m.grown base.settled h.since ∙ h.back

    pub undoable_later : (t.settled ≤ length trail₁) × ((j : ℕ) → j < t.settled → (0 < get_or trail₁ j 0) × (get_or trail₁ j 0 ≤ length a₁))
    undoable_later = rw m.searching.state.size (undoable m.searching)

    kept_later : take base.settled trail₁ ≡ take base.settled trail
    kept_later = sym (take-take base.settled p.tally.settled trail₁ h.since) ∙ ap (take base.settled) m.grown.kept ∙ take-take base.settled p.tally.settled trail h.since

    base_later : Following rules arrangement row base b trail₁
    base_later = following_kept h.base_following trail₁ m.grown.long kept_later

    -- a core is closed
    module _ (core assumed' : List ℕ) (long : length assumed' ≡ length assumed) where
      closed_next : Scanning rules arrangement row base b (suc v) (record { tally = base; assumed = 0; bound = p.bound + least_weight row core }) b trail₁ (take_each taken core) assumed'
      closed_next =
          record {
            following = base_later;
            quiet = h.base_quiet;
            base_following = base_later;
            base_quiet = h.base_quiet;
            since = omega arith;
            back = ap (λ (vs : List ℕ). undone vs b) (slice_empty base.settled trail₁);
            left_free = left_free_taken b taken core h.left_free;
            unbroken = free_unbroken row (take_each taken core) b (left_free_taken b taken core h.left_free);
            among = among_none (length b);
            few = omega arith;
            room = omega (arith, h.room, same_size);
            wide = take-length core taken ∙ h.wide ∙ sym same_size;
            small = omega (arith, h.small, same_size, least-most row core);
          }

      closed_scanned : {r : Progress} {a' taken' : List ℕ} → Closed row base t.settled p.bound core trail₁ a₁ taken r a' taken'
          → scan_wish (clauses rules) row b (present p a taken assumed) v ≡ close_core row b (present p a taken assumed) core
          → Scanned rules arrangement row base b v (present p a taken assumed) trail r a' trail₁ taken' assumed'
      closed_scanned c e = rw (c.result, c.values ∙ back_later, c.takes) (record { next = closed_next; step = sym e; kept = kept_later })

  module _ (high : v ≤ length a) (e : is_assumable row (present p a taken assumed) v ≡ true) {t : Tally} {a₁ trail₁ : List ℕ} where
    -- a clause is falsified
    pub scan_dead : AssumedBy (length a) (clauses rules) row v p.tally a trail a₁ trail₁ (Err (record { tally = t }))
        → {r : Progress} {a' taken' : List ℕ} → Closed row base t.settled p.bound (take (p.assumed + 1) (set assumed p.assumed v)) trail₁ a₁ taken r a' taken'
        → Scanned rules arrangement row base b v (present p a taken assumed) trail r a' trail₁ taken' (set assumed p.assumed v)
    scan_dead w c =
        closed_scanned w.1 (take (p.assumed + 1) (set assumed p.assumed v)) (set assumed p.assumed v) (length-set assumed p.assumed v) c
        (scan_core (clauses rules) row b (present p a taken assumed) v e w.0 ∙ ap (close_core row b (present p a taken assumed)) (sym (assumed_with high)))

    module _ (w : AssumedBy (length a) (clauses rules) row v p.tally a trail a₁ trail₁ (Ok t)) where
      -- where as much is broken as before, nothing is broken that is not taken
      pub still_none : p.tally.broken ≡ t.broken → first_broken row taken a₁ ≡ 0
      still_none q =
          unbroken_none row taken a₁ (unbroken_still row taken a₁ a w.3.searching.state.size later (sym h.following.looking.searching.breaks ∙ q ∙ w.3.searching.breaks) h.unbroken)
        where
          later : Extends a₁ a
          later =
              subst (λ (l : List ℕ). Extends l a) (sym w.0)
              (extends_trans (propagate_extends (clauses rules) (keep_wish row a v)) (assign_extends a v (wished_value (value row v)) (assumable_free e)))

      -- it is assumed
      kept_next : Unbroken row taken a₁ → Scanning rules arrangement row base b (suc v) (record { tally = t; assumed = p.assumed + 1; bound = p.bound }) a₁ trail₁ taken (set assumed p.assumed v)
      kept_next u =
          let long : length a₁ ≡ length a = w.3.searching.state.size in
          record {
            following = following_moved h.following w.3;
            quiet = w.2;
            base_following = base_later w.3;
            base_quiet = h.base_quiet;
            since = omega (arith, h.since, w.3.grown.more);
            back = back_later w.3;
            left_free = h.left_free;
            unbroken = u;
            among = subst (λ (n : ℕ). Among n (take (p.assumed + 1) (set assumed p.assumed v))) (sym long) (among_with high);
            few = omega (arith, h.few);
            room = omega (arith, h.room, long, length-set assumed p.assumed v);
            wide = h.wide ∙ sym long;
            small = omega (arith, h.small, long);
          }

      -- no clause is falsified: by the lowest wish that is broken
      pub scan_settled : {r : Progress} {a' taken' assumed' : List ℕ} → length assumed' ≡ length assumed
          → BrokenThen row base (p.assumed + 1) p.bound t trail₁ a₁ taken (set assumed p.assumed v) r a' taken' assumed' (first_broken row taken a₁)
          → Scanned rules arrangement row base b v (present p a taken assumed) trail r a' trail₁ taken' assumed'
      scan_settled {r} {a'} {taken'} {assumed'} long = go (first_broken row taken a₁) refl
        where
          step : (x : ℕ) → first_broken row taken a₁ ≡ x → scan_wish (clauses rules) row b (present p a taken assumed) v ≡ with_broken row b (present p a taken assumed) v a₁ x
          step x q =
              scan_broken (clauses rules) row b (present p a taken assumed) v e a₁ w.0 w.1 ∙ ap (with_broken row b (present p a taken assumed) v a₁) q

          go : (x : ℕ) → first_broken row taken a₁ ≡ x → BrokenThen row base (p.assumed + 1) p.bound t trail₁ a₁ taken (set assumed p.assumed v) r a' taken' assumed' x
              → Scanned rules arrangement row base b v (present p a taken assumed) trail r a' trail₁ taken' assumed'
          go zero q (er, ea, et, es) =
              rw (er, ea, et, es)
              (record {
                next = kept_next (none_unbroken row taken a₁ q);
                step = ap (λ (vs : List ℕ). record { values = a₁; assumed = vs; taken = taken; bound = p.bound }) (assumed_with high) ∙ sym (step 0 q);
                kept = kept_later w.3;
              })
          go (suc x) q c =
              closed_scanned w.3 (take (p.assumed + 1) (set assumed p.assumed v) ++ (suc x ∷ [])) assumed' long c
              (step (suc x) q ∙ ap (close_core row b (present p a taken assumed)) (sym joined))
            where
              joined : take (p.assumed + 1) (set assumed p.assumed v) ++ (suc x ∷ []) ≡ take p.assumed assumed ++ (v ∷ suc x ∷ [])
              joined = ap (λ (vs : List ℕ). vs ++ (suc x ∷ [])) (assumed_with high) ∙ append_snoc (take p.assumed assumed) v (suc x ∷ [])
