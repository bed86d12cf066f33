-- That the weights and the marks of a formula give its branching variable, and that a sound list can be weighed.
use Rattle.std.specs.Prelude.{◌≡◌, refl, Bool, true, false, cond, not, ◌&&◌, ◌||◌, ℕ, ◌+◌, ◌*◌, ◌≤◌, ◌<◌, ltb, leb, ℤ, length, Option, None, Some}
use Rattle.std.proofs.Common.{sym, ap, ap₂, subst, ◌∙◌, add-one, arith, lit<, length-drop, ne_eqb, lt-ltb, le-ltb, le-leb}
use Rattle.std.proofs.Math.Path.{fun_ext}
use Rattle.std.proofs.Math.Bool.{and-eq-true_iff}
use mathlib.Core.List.{List, [], ◌∷◌, Memᴰ}
use Rattle.std.proofs.lemmas.Bool.{eqb-false, not-true}
use Rattle.literal.specs.Literal.{variable, wanted, is_literal, value}
use Rattle.literal.specs.Slots.{slot, is_at, wanted_bit, slot-literal}
use Rattle.formula.specs.Formula.{any, all, contains, clauses}
use Rattle.formula.specs.Laws.{slot_clause}
use Rattle.rule_list.specs.Sound.{SoundList}
use Rattle.rule_list_soundness.specs.Flat.{joining}
use Rattle.rule_list_soundness.specs.Laws.{Joined, joined, all_weaken}
use Rattle.rule_list_soundness.specs.Soundness.{sound}
use Rattle.choices.proofs.Lists.{any_false}
use Rattle.walk.specs.State.{is_unset, has_variable}
use Rattle.walk.specs.Branching.{fewest, offers, is_candidate, clause_weight, weight_of, score_of, score, better, best, branching_variable}
use Rattle.walk_weighing.specs.Weights.{weight_at, weights_of, marks_of, distinct, is_clean, WeighableList, Totals}
use Rattle.walk_weighing.specs.ClauseLaws.{weight-most}
use Rattle.walk_weighing.specs.PartLaws.{weights_length}
use Rattle.walk_pick.specs.Branch.{score_by, candidate_by, Scorable, UpTo}

-- the weight at a literal's slot is that of the clauses that hold it
slot-weight : (a : List ℕ) (v b : ℕ) → b < 2 → (f : List (List ℤ)) → weight_at a (2 * v + b) f ≡ weight_of a v b f
slot-weight a v b h [] = refl
slot-weight a v b h (c ∷ f) = ap₂ (λ (t : Bool) (k : ℕ). cond t (clause_weight a c) 0 + k) (slot_clause v b h c) (slot-weight a v b h f)

-- the weights and the marks of a formula are its scores and candidates
module _ (row a : List ℕ) (size : Option ℕ) (f : List (List ℤ)) (weights : List ℕ) (t : Totals row a size f weights) where
  scores : (v : ℕ) → score_by (weights_of (length a) weights) v ≡ score a f v
  scores v =
      let even : 2 * v ≡ 2 * v + 0 = omega arith in
      ap₂ score_of
      (t.sums (2 * v + 1) ∙ slot-weight a v 1 (lit< tt) f)
      (t.sums (2 * v) ∙ ap (λ (i : ℕ). weight_at a i f) even ∙ slot-weight a v 0 (lit< tt) f)

  candidates : size ≡ fewest row a f → (v : ℕ) → candidate_by a (marks_of (length a) weights) v ≡ is_candidate row a f v
  candidates e v =
      ap (λ (b : Bool). is_unset (value a v) && b)
      (t.marked v ∙ ap (λ (o : Option ℕ). any (offers row a o v) f) e)

  -- so that the best by the former is the branching variable
  pub totals_branch : size ≡ fewest row a f → best (candidate_by a (marks_of (length a) weights)) (score_by (weights_of (length a) weights)) (length a) ≡ branching_variable row a f
  totals_branch e = ap₂ (λ (p : ℕ → Bool) (s : ℕ → ℕ). best p s (length a)) (fun_ext (candidates e)) (fun_ext scores)

module _ (candidate : ℕ → Bool) (score : ℕ → ℕ) (v : ℕ) where
  -- the next variable: no candidate, the first, a better one, and one that is not better
  pub better-other : candidate v ≡ false → (o : Option ℕ) → better candidate score o v ≡ o
  better-other e None = rw e
  better-other e (Some u) = rw e

  pub better_first : candidate v ≡ true → better candidate score None v ≡ Some v
  better_first e = rw e

  pub better_next : candidate v ≡ true → (u p q : ℕ) → p ≡ score u → q ≡ score v → p < q → better candidate score (Some u) v ≡ Some v
  better_next e u p q f g h = rw (e, lt-ltb (score u) (score v) (omega arith))

  pub better_kept : candidate v ≡ true → (u p q : ℕ) → p ≡ score u → q ≡ score v → q ≤ p → better candidate score (Some u) v ≡ Some u
  better_kept e u p q f g h = rw (e, le-ltb (score u) (score v) (omega arith))

-- the leader after the variables 1 to i
pub record Leads (candidate : ℕ → Bool) (score : ℕ → ℕ) (n i : ℕ) (o : Option ℕ) : Type 0 where
  pub passed : i ≤ n
  pub leads : o ≡ best candidate score i
  pub inside : UpTo n o

module _ (candidate : ℕ → Bool) (score : ℕ → ℕ) (n : ℕ) where
  inside_next : (v : ℕ) (o : Option ℕ) → UpTo n o → v ≤ n → UpTo n (better candidate score o v)
  inside_next v None u h = go (candidate v)
    where
      go : (b : Bool) → UpTo n (cond b (Some v) None)
      go true = h
      go false = tt
  inside_next v (Some w) u h = go (candidate v && ltb (score w) (score v))
    where
      go : (b : Bool) → UpTo n (cond b (Some v) (Some w))
      go true = h
      go false = u

  pub leads_next : (i : ℕ) (o r : Option ℕ) → Leads candidate score n i o → i < n → r ≡ better candidate score o (i + 1) → Leads candidate score n (i + 1) r
  leads_next i o r s h e =
      record {
        passed = omega arith;
        leads = e ∙ ap₂ (better candidate score) s.leads (add-one i) ∙ sym (ap (best candidate score) (add-one i));
        inside = subst (UpTo n) (sym e) (inside_next (i + 1) o s.inside (omega arith));
      }

-- a later literal of a well-formed clause is another one
apart : (n : ℕ) (x : ℤ) (read c : List ℤ) → joining n read c ≡ true → Memᴰ x read → any (is_at (slot x)) c ≡ false
apart n x read [] e m = refl
apart n x read (y ∷ c) e m =
    let j : Joined n read y c = joined n read y c e in
    let new : contains (variable y) (wanted y) read ≡ false = not-true (contains (variable y) (wanted y) read) j.apart in
    let differs : is_at (slot y) x ≡ false = slot-literal (variable y) (wanted y) (wanted_bit y) x ∙ any_false (is_literal (variable y) (wanted y)) new m in
    ap₂ ◌||◌ (ne_eqb (slot y) (slot x) (λ q. eqb-false (slot x) (slot y) differs (sym q))) (apart n x (y ∷ read) c j.rest (Memᴰ.tail m))

clean : (n : ℕ) (read c : List ℤ) → joining n read c ≡ true → (all (has_variable n) c ≡ true) × (distinct c ≡ true)
clean n read [] e = (refl, refl)
clean n read (x ∷ c) e =
    let j : Joined n read x c = joined n read x c e in
    let rest = clean n (x ∷ read) c j.rest in
    let ne : variable x ≡ 0 → ⊥ = eqb-false (variable x) 0 j.literal in
    let within : has_variable n x ≡ true = (and-eq-true_iff (ltb 0 (variable x)) (leb (variable x) n)).1 (lt-ltb 0 (variable x) (omega arith), le-leb (variable x) n j.range) in (
      (and-eq-true_iff (has_variable n x) (all (has_variable n) c)).1 (within, rest.0),
      (and-eq-true_iff (not (any (is_at (slot x)) c)) (distinct c)).1 (ap not (apart n x (x ∷ read) c j.rest (Memᴰ.head refl)), rest.1),
    )

-- a sound list can be weighed
pub sound_weighable : (n : ℕ) (rules : List ℤ) (weights : List ℕ) → SoundList n rules → 3 * n + 2 < length weights → WeighableList n rules weights
sound_weighable n rules weights e h =
    let s = sound n rules e in
    record {
      clean = all_weaken (joining n []) (is_clean n) (λ c q. let r = clean n [] c q in (and-eq-true_iff (all (has_variable n) c) (distinct c)).1 (r.0, r.1)) (clauses rules) s.formed;
      few = omega (arith, s.few);
      wide = h;
    }

-- and what was weighed can be scored
pub totals_scorable : (row a : List ℕ) (size : Option ℕ) (rules : List ℤ) (before weights : List ℕ) → WeighableList (length a) rules before → length weights ≡ length before → Totals row a size (clauses rules) weights
    → (3 * length a + 2 < length weights) × Scorable (length a) (weights_of (length a) weights) (marks_of (length a) weights)
totals_scorable row a size rules before weights r p t =
    let wide : 3 * length a + 2 < length weights = omega (arith, r.wide) in (
      wide,
      record {
        slots = omega (arith, weights_length (length a) weights wide);
        places = omega (arith, length-drop (2 * length a + 2) weights);
        small = λ i. omega (arith, t.sums i, weight-most a i (clauses rules), r.few);
      },
    )
