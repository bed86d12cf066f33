-- The laws of weighing a list, clause by clause.
use Rattle.std.specs.Prelude.{◌≡◌, refl, Bool, true, false, ◌&&◌, ◌||◌, List, [], ◌∷◌, ℕ, zero, suc, ◌+◌, ◌*◌, ◌≤◌, ◌<◌, ltb, leb, ℤ, pos, length, get_or, take, drop, Option}
use Rattle.std.proofs.Common.{sym, ap, ◌∙◌, true≢false, not-suc-le-zero, le_of_suc-le-suc, add-one, arith, drop_of_length-le, drop-cons, get_or-drop, leb-true, ne_eqb}
use Rattle.std.proofs.Math.Bool.{and-false, or-false, or_assoc, and-eq-true_iff}
use Rattle.literal.specs.Literal.{variable}
use Rattle.formula.specs.Formula.{any, all, clauses}
use Rattle.walk.specs.State.{has_variable}
use Rattle.walk.specs.Branching.{is_opposed, offers}
use Rattle.walk_witnesses.specs.Witnesses.{Witnesses}
use Rattle.walk_weighing.specs.Weights.{is_marked, weight_at, weights_of, marks_of, distinct, is_clean, Weighable, Weighed, WeighableList, Totals}
use Rattle.walk_weighing.specs.ClauseLaws.{weight-most}

-- a test that every element passes, at an index
all_index : {A : Type 0} (z : A) (p : A → Bool) (l : List A) (k : ℕ) → all p l ≡ true → k < length l → p (get_or l k z) ≡ true
all_index z p [] k e h = absurd (not-suc-le-zero h)
all_index z p (x ∷ l) zero e h = ((and-eq-true_iff (p x) (all p l)).0 e).0
all_index z p (x ∷ l) (suc k) e h = all_index z p l k ((and-eq-true_iff (p x) (all p l)).0 e).1 (le_of_suc-le-suc h)

-- a part of a list of zeros
take-zero : (m : ℕ) (l : List ℕ) → ((j : ℕ) → get_or l j 0 ≡ 0) → (j : ℕ) → get_or (take m l) j 0 ≡ 0
take-zero zero l z j = refl
take-zero (suc m) [] z j = refl
take-zero (suc m) (x ∷ l) z zero = z 0
take-zero (suc m) (x ∷ l) z (suc j) = take-zero m l (λ i. z (suc i)) j

-- the first k clauses have been weighed; where the limit is spent, none of them makes a dead end
pub record Weighing (row a : List ℕ) (size : Option ℕ) (spent : Bool) (rules : List ℤ) (before witnesses weights : List ℕ) (k : ℕ) : Type 0 where
  pub wide : length weights ≡ length before
  pub known : Witnesses rules witnesses
  pub alive : spent && any (is_opposed row a) (clauses rules) ≡ spent && any (is_opposed row a) (drop k (clauses rules))
  pub sums : (j : ℕ) → get_or (weights_of (length a) weights) j 0 + weight_at a j (drop k (clauses rules)) ≡ weight_at a j (clauses rules)
  pub marked : (v : ℕ) → is_marked (marks_of (length a) weights) v || any (offers row a size v) (drop k (clauses rules)) ≡ any (offers row a size v) (clauses rules)

module _ (row a : List ℕ) (size : Option ℕ) (spent : Bool) (rules : List ℤ) (before : List ℕ) (weighable : WeighableList (length a) rules before) where
  -- nothing has been weighed
  pub weighing_start : (witnesses weights : List ℕ) → Witnesses rules witnesses → length weights ≡ length before → ((j : ℕ) → get_or weights j 0 ≡ 0) → Weighing row a size spent rules before witnesses weights 0
  weighing_start witnesses weights t p z =
      record {
        wide = p;
        known = t;
        alive = refl;
        sums = λ j. omega (arith, take-zero (2 * length a + 2) weights z j);
        marked = λ v. ap (λ (b : Bool). b || any (offers row a size v) (clauses rules)) (ne_eqb (get_or (marks_of (length a) weights) v 0) 1 (λ e. omega (arith, e, get_or-drop (2 * length a + 2) weights v 0, z (2 * length a + 2 + v))));
      }

  module _ (witnesses weights : List ℕ) (k : ℕ) (s : Weighing row a size spent rules before witnesses weights k) where
    module _ (h : k < length (clauses rules)) where
      abbrev c : List ℤ
      c = get_or (clauses rules) k []

      abbrev f : List (List ℤ)
      f = drop (k + 1) (clauses rules)

      split : drop k (clauses rules) ≡ c ∷ f
      split = rw (drop-cons (clauses rules) k [] h, add-one k)

      -- the next clause can be weighed
      pub weighing_clause : Weighable (length a) c weights
      weighing_clause =
          let good = (and-eq-true_iff (all (has_variable (length a)) c) (distinct c)).0 (all_index [] (is_clean (length a)) (clauses rules) k weighable.clean h) in
          record {
            wide = omega (arith, s.wide, weighable.wide);
            within = λ i l. inside i good.0 l;
            once = good.1;
            fits = λ j. omega (arith, s.sums j, weight-most a j (clauses rules), weighable.few);
          }
        where
          inside : (i : ℕ) → all (has_variable (length a)) c ≡ true → i < length c → variable (get_or c i (pos 0)) ≤ length a
          inside i good l =
              let x : ℤ = get_or c i (pos 0) in
              leb-true (variable x) (length a) ((and-eq-true_iff (ltb 0 (variable x)) (leb (variable x) (length a))).0 (all_index (pos 0) (has_variable (length a)) c i good l)).1

      -- and then it has been
      pub weighing_next : (witnesses' weights' : List ℕ) → Witnesses rules witnesses' → length weights' ≡ length weights → spent && is_opposed row a c ≡ false → Weighed row a size c weights weights'
          → Weighing row a size spent rules before witnesses' weights' (k + 1)
      weighing_next witnesses' weights' t p u w =
          record {
            wide = p ∙ s.wide;
            known = t;
            alive = s.alive ∙ ap (λ (g : List (List ℤ)). spent && any (is_opposed row a) g) split ∙ passed spent (is_opposed row a c) (any (is_opposed row a) f) u;
            sums = λ j. omega (arith, w.sums j, s.sums j, ap (weight_at a j) split);
            marked = λ v.
                ap (λ (b : Bool). b || any (offers row a size v) f) (w.marked v)
                ∙ or_assoc (is_marked (marks_of (length a) weights) v) (offers row a size v c) (any (offers row a size v) f)
                ∙ sym (ap (λ (g : List (List ℤ)). is_marked (marks_of (length a) weights) v || any (offers row a size v) g) split)
                ∙ s.marked v;
          }
        where
          passed : (x y z : Bool) → x && y ≡ false → x && (y || z) ≡ x && z
          passed true true z e = absurd (true≢false e)
          passed true false z e = refl
          passed false y z e = refl

      -- or it makes a dead end
      pub weighing_dead : spent && is_opposed row a c ≡ true → spent && any (is_opposed row a) (clauses rules) ≡ true
      weighing_dead u = s.alive ∙ ap (λ (g : List (List ℤ)). spent && any (is_opposed row a) g) split ∙ found spent (is_opposed row a c) (any (is_opposed row a) f) u
        where
          found : (x y z : Bool) → x && y ≡ true → x && (y || z) ≡ true
          found true true z e = refl
          found true false z e = absurd (true≢false (sym e))
          found false y z e = absurd (true≢false (sym e))

    -- all have been weighed
    module _ (h : length (clauses rules) ≤ k) where
      pub weighing_alive : spent && any (is_opposed row a) (clauses rules) ≡ false
      weighing_alive = s.alive ∙ ap (λ (g : List (List ℤ)). spent && any (is_opposed row a) g) (drop_of_length-le (clauses rules) h) ∙ and-false spent

      pub weighing_end : Totals row a size (clauses rules) weights
      weighing_end =
          record {
            sums = λ j. omega (arith, s.sums j, ap (weight_at a j) (drop_of_length-le (clauses rules) h));
            marked = λ v. sym (or-false (is_marked (marks_of (length a) weights) v)) ∙ sym (ap (λ (g : List (List ℤ)). is_marked (marks_of (length a) weights) v || any (offers row a size v) g) (drop_of_length-le (clauses rules) h)) ∙ s.marked v;
          }

-- only the length matters
pub weighable_kept : (n : ℕ) (rules : List ℤ) (weights weights' : List ℕ) → WeighableList n rules weights → length weights' ≡ length weights → WeighableList n rules weights'
weighable_kept n rules weights weights' r p = record { clean = r.clean; few = r.few; wide = omega (arith, r.wide) }
