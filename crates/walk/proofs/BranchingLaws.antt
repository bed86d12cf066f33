-- What follows from the definitions of specs/BranchingLaws.antt.
use Rattle.std.specs.Prelude.{◌≡◌, refl, Bool, true, false, cond, not, ◌&&◌, ◌||◌, ℕ, zero, suc, min, ◌≤◌, ◌<◌, eqb, ltb, leb, ℤ, length, Option, None, Some, option_map}
use Rattle.std.proofs.Common.{sym, ap, ap₂, subst, ◌∙◌, true≢false, arith, eqb-true, ltb-true, ltb-false, leb-true, leb-false, eq-eqb}
use Rattle.std.proofs.Math.Bool.{and-eq-true_iff}
use mathlib.Core.List.Memᴰ
use mathlib.Core.List.{List, [], ◌∷◌, Memᴰ}
use Rattle.std.proofs.lemmas.Bool.{eqb-false, not-true}
use Rattle.literal.specs.Literal.{variable, value}
use Rattle.formula.specs.Formula.{any, all, satisfied, models}
use Rattle.choices.proofs.Lists.{any_at, any_member, any_false, all_at, all_false}
use Rattle.walk.specs.State.{State, is_unset, is_unassigned, unassigned_in, is_open, is_falsified, fits}
use Rattle.wish.specs.Wish.{is_against}
use Rattle.walk.specs.Branching.{assigned_or_against, is_of, offers, is_opposed, shorter, shorter_of, shortest, fewest, is_source, mentions, is_candidate, score, better, best, branching_variable}
use Rattle.walk.specs.Walk.{complete}
use Rattle.walk.specs.Promises.{Branches}
use Rattle.walk.proofs.Extension.{satisfied_kept}
use Rattle.walk.proofs.Counting.{find_member, find-some}
use Rattle.walk.proofs.Fits.{fits_at}
use Rattle.walk.proofs.Completion.{complete_extends}
use Rattle.walk.specs.BranchingLaws.{Candidate, Fewest, IsFewest, SomeOpen, fewer}

module _ (candidate : ℕ → Bool) (score : ℕ → ℕ) where
  -- "Highest score wins, then lowest number"
  abbrev pub LosesTo : ℕ → ℕ → Type 0
  LosesTo v u = candidate u ≡ true → (score u ≤ score v) × (score u ≡ score v → v ≤ u)

  -- what it is to be the best of the variables 1 to k
  pub record Best (k v : ℕ) : Type 0 where
    pub passes : candidate v ≡ true
    pub above : 0 < v
    pub up_to : v ≤ k
    pub wins : (u : ℕ) → 0 < u → u ≤ k → LosesTo v u

  abbrev pub IsBest : ℕ → Option ℕ → Type 0
  IsBest k None = (u : ℕ) → 0 < u → u ≤ k → candidate u ≡ false
  IsBest k (Some v) = Best k v

  -- the next variable, or one of those before
  next_or_before {ℓ} : {P : ℕ → Type ℓ} (k : ℕ) → P (suc k) → ((u : ℕ) → 0 < u → u ≤ k → P u) → (u : ℕ) → 0 < u → u ≤ suc k → P u
  next_or_before {P} k here before u l h = go (eqb u (suc k)) refl
    where
      go : (t : Bool) → eqb u (suc k) ≡ t → P u
      go true e = subst P (sym (eqb-true u (suc k) e)) here
      go false e = let q : u ≡ suc k → ⊥ = eqb-false u (suc k) e in before u l (omega arith)

  best_step : (k : ℕ) (o : Option ℕ) → IsBest k o → IsBest (suc k) (better candidate score o (suc k))
  best_step k None h = go (candidate (suc k)) refl
    where
      go : (t : Bool) → candidate (suc k) ≡ t → IsBest (suc k) (cond t (Some (suc k)) None)
      go true e =
          record {
            passes = e;
            above = omega arith;
            up_to = omega arith;
            wins = next_or_before {P = LosesTo (suc k)} k (λ p. omega arith) (λ u l q p. absurd (true≢false (sym p ∙ h u l q)));
          }
      go false e = next_or_before {P = λ (u : ℕ). candidate u ≡ false} k e h
  best_step k (Some v) h = go (candidate (suc k)) refl (ltb (score v) (score (suc k))) refl
    where
      stays : LosesTo v (suc k) → Best (suc k) v
      stays here =
          record {
            passes = h.passes;
            above = h.above;
            up_to = omega (arith, h.up_to);
            wins = next_or_before {P = LosesTo v} k here (λ u l q p. h.wins u l q p);
          }

      go : (t : Bool) → candidate (suc k) ≡ t → (s : Bool) → ltb (score v) (score (suc k)) ≡ s → IsBest (suc k) (cond (t && s) (Some (suc k)) (Some v))
      go true e true q =
          record {
            passes = e;
            above = omega arith;
            up_to = omega arith;
            wins = next_or_before {P = LosesTo (suc k)} k (λ p. omega arith) (λ u l r p. omega (arith, (h.wins u l r p).0, ltb-true (score v) (score (suc k)) q));
          }
      go true e false q = stays (λ p. omega (arith, ltb-false (score v) (score (suc k)) q, h.up_to))
      go false e s q = stays (λ p. absurd (true≢false (sym p ∙ e)))

  pub best_is : (k : ℕ) → IsBest k (best candidate score k)
  best_is zero = λ u l h. absurd (omega arith)
  best_is (suc k) = best_step k (best candidate score k) (best_is k)

  pub best_found : (k : ℕ) {v : ℕ} → best candidate score k ≡ Some v → Best k v
  best_found k e = subst (IsBest k) e (best_is k)

  -- a candidate among them means that there is a best one
  pub best_exists : (k u : ℕ) → 0 < u → u ≤ k → candidate u ≡ true → (v : ℕ) × (best candidate score k ≡ Some v)
  best_exists k u l h p = go (best candidate score k) refl (best_is k)
    where
      go : (o : Option ℕ) → best candidate score k ≡ o → IsBest k o → (v : ℕ) × (o ≡ Some v)
      go None e q = absurd (true≢false (sym p ∙ q u l h))
      go (Some v) e q = (v, refl)

-- the branching variable is unassigned, and one of the state's
pub branching_sound : {n : ℕ} {a : List ℕ} → State n a → (row : List ℕ) (f : List (List ℤ)) {v : ℕ} → branching_variable row a f ≡ Some v → Branches a n v
branching_sound {n} {a} h row f {v} e =
    let r = best_found (is_candidate row a f) (score a f) (length a) e in
    let two = ((and-eq-true_iff (is_unset (value a v)) (any (offers row a (fewest row a f) v) f)).0 r.passes).0 in
    record { unset = eqb-true (value a v) 2 two; above = r.above; up_to = omega (arith, r.up_to, h.size) }

-- an opposed clause is open
pub opposed_open : (row a : List ℕ) (c : List ℤ) → is_opposed row a c ≡ true → satisfied a c ≡ false
opposed_open row a c h =
    not-true (satisfied a c) ((and-eq-true_iff (is_open a c) (all (assigned_or_against row a) c)).0 h).0

-- and its unassigned literals go against wishes
pub opposed_against : (row a : List ℕ) (c : List ℤ) → is_opposed row a c ≡ true → (x : ℤ) → Memᴰ x c → is_unassigned a x ≡ true → is_against row x ≡ true
opposed_against row a c h x m u =
    let every = ((and-eq-true_iff (is_open a c) (all (assigned_or_against row a) c)).0 h).1 in
    go (is_unassigned a x) u (all_at (assigned_or_against row a) every m)
  where
    go : (t : Bool) → t ≡ true → not t || is_against row x ≡ true → is_against row x ≡ true
    go true p q = q
    go false p q = absurd (true≢false (sym p))

-- the shorter of two clauses has the fewer unassigned literals
pub shorter-fewer : (a : List ℕ) (c e : List ℤ) → unassigned_in a (shorter a c e) ≡ min (unassigned_in a c) (unassigned_in a e)
shorter-fewer a c e = go (ltb (unassigned_in a e) (unassigned_in a c)) refl
  where
    go : (t : Bool) → ltb (unassigned_in a e) (unassigned_in a c) ≡ t → unassigned_in a (cond t e c) ≡ min (unassigned_in a c) (unassigned_in a e)
    go true q = omega (arith, ltb-true (unassigned_in a e) (unassigned_in a c) q)
    go false q = omega (arith, ltb-false (unassigned_in a e) (unassigned_in a c) q)

-- the fewest of a formula, clause by clause
pub fewest_opposed : (row a : List ℕ) (c : List ℤ) (f : List (List ℤ)) → is_opposed row a c ≡ true → fewest row a (c ∷ f) ≡ fewer (Some (unassigned_in a c)) (fewest row a f)
fewest_opposed row a c f e = rw e (go (shortest row a f))
  where
    go : (o : Option (List ℤ)) → option_map (unassigned_in a) (Some (shorter_of a c o)) ≡ fewer (Some (unassigned_in a c)) (option_map (unassigned_in a) o)
    go None = refl
    go (Some g) = ap {B = Option ℕ} Some (shorter-fewer a c g)

pub fewest-other : (row a : List ℕ) (c : List ℤ) (f : List (List ℤ)) → is_opposed row a c ≡ false → fewest row a (c ∷ f) ≡ fewest row a f
fewest-other row a c f e = rw e

module _ (row a : List ℕ) (c : List ℤ) (f : List (List ℤ)) where
  -- one more clause: opposed, or not
  with_opposed : is_opposed row a c ≡ true → (o : Option ℕ) → IsFewest row a f o → IsFewest row a (c ∷ f) (fewer (Some (unassigned_in a c)) o)
  with_opposed e None h = record { attained = (c, Memᴰ.head refl, e, refl); below = λ g m o. at g m o }
    where
      at : (g : List ℤ) → Memᴰ g (c ∷ f) → is_opposed row a g ≡ true → unassigned_in a c ≤ unassigned_in a g
      at g (Memᴰ.head z) o = omega (arith, ap (unassigned_in a) z)
      at g (Memᴰ.tail m) o = absurd (true≢false (sym o ∙ h g m))
  with_opposed e (Some k) h = record { attained = pick (leb (unassigned_in a c) k) refl; below = λ g m o. at g m o }
    where
      pick : (t : Bool) → leb (unassigned_in a c) k ≡ t → (g : List ℤ) × Memᴰ g (c ∷ f) × (is_opposed row a g ≡ true) × (unassigned_in a g ≡ min (unassigned_in a c) k)
      pick true q = let z : unassigned_in a c ≡ min (unassigned_in a c) k = omega (arith, leb-true (unassigned_in a c) k q) in (c, Memᴰ.head refl, e, z)
      pick false q =
          let r = h.attained in
          let z : unassigned_in a r.0 ≡ min (unassigned_in a c) k = omega (arith, r.3, leb-false (unassigned_in a c) k q) in
          (r.0, Memᴰ.tail r.1, r.2, z)

      at : (g : List ℤ) → Memᴰ g (c ∷ f) → is_opposed row a g ≡ true → min (unassigned_in a c) k ≤ unassigned_in a g
      at g (Memᴰ.head z) o = omega (arith, ap (unassigned_in a) z)
      at g (Memᴰ.tail m) o = omega (arith, h.below g m o)

  with_other : is_opposed row a c ≡ false → (o : Option ℕ) → IsFewest row a f o → IsFewest row a (c ∷ f) o
  with_other e None h = λ g m. at g m
    where
      at : (g : List ℤ) → Memᴰ g (c ∷ f) → is_opposed row a g ≡ false
      at g (Memᴰ.head z) = ap (is_opposed row a) z ∙ e
      at g (Memᴰ.tail m) = h g m
  with_other e (Some k) h = let r = h.attained in record { attained = (r.0, Memᴰ.tail r.1, r.2, r.3); below = λ g m o. at g m o }
    where
      at : (g : List ℤ) → Memᴰ g (c ∷ f) → is_opposed row a g ≡ true → k ≤ unassigned_in a g
      at g (Memᴰ.head z) o = absurd (true≢false (sym o ∙ ap (is_opposed row a) z ∙ e))
      at g (Memᴰ.tail m) o = h.below g m o

pub fewest_is : (row a : List ℕ) (f : List (List ℤ)) → IsFewest row a f (fewest row a f)
fewest_is row a [] = λ c m. absurd (Memᴰ.not-nil m)
fewest_is row a (c ∷ f) = go (is_opposed row a c) refl (fewest_is row a f)
  where
    go : (t : Bool) → is_opposed row a c ≡ t → IsFewest row a f (fewest row a f) → IsFewest row a (c ∷ f) (fewest row a (c ∷ f))
    go true e h = subst (IsFewest row a (c ∷ f)) (sym (fewest_opposed row a c f e)) (with_opposed row a c f e (fewest row a f) h)
    go false e h = subst (IsFewest row a (c ∷ f)) (sym (fewest-other row a c f e)) (with_other row a c f e (fewest row a f) h)

pub fewest_member : (row a : List ℕ) (f : List (List ℤ)) {k : ℕ} → fewest row a f ≡ Some k
    → (c : List ℤ) × Memᴰ c f × (is_opposed row a c ≡ true) × (unassigned_in a c ≡ k)
fewest_member row a f {k} e = let r : Fewest row a f k = subst (IsFewest row a f) e (fewest_is row a f) in r.attained

-- an unassigned literal of a clause that gives candidates gives one
source_candidate : (row a : List ℕ) (f : List (List ℤ)) (c : List ℤ) → Memᴰ c f → is_source row a (fewest row a f) c ≡ true
    → (x : ℤ) → Memᴰ x c → is_unassigned a x ≡ true → is_candidate row a f (variable x) ≡ true
source_candidate row a f c m s x w u =
    let named : mentions (variable x) c ≡ true = any_at (is_of (variable x)) w (eq-eqb (variable x) (variable x) refl) in
    (and-eq-true_iff (is_unset (value a (variable x))) (any (offers row a (fewest row a f) (variable x)) f)).1 (
      u,
      any_at (offers row a (fewest row a f) (variable x)) m
          ((and-eq-true_iff (is_source row a (fewest row a f) c) (mentions (variable x) c)).1 (s, named)),
    )

pub candidate_from : (row a : List ℕ) (f : List (List ℤ)) (v : ℕ) → is_candidate row a f v ≡ true → Candidate row a f v
candidate_from row a f v h =
    let r = (and-eq-true_iff (is_unset (value a v)) (any (offers row a (fewest row a f) v) f)).0 h in
    let c = any_member (offers row a (fewest row a f) v) f r.1 in
    let q = (and-eq-true_iff (is_source row a (fewest row a f) c.0) (mentions v c.0)).0 c.2 in
    let x = any_member (is_of v) c.0 q.1 in
    let e : variable x.0 ≡ v = eqb-true (variable x.0) v x.2 in
    record { clause = c.0; listed = c.1; source = q.0; literal = x.0; stands = x.1; named = e; unset = ap (λ (u : ℕ). is_unset (value a u)) e ∙ r.0 }

-- an open clause that is not falsified has an unassigned literal
open_unassigned : (a : List ℕ) (f : List (List ℤ)) → any (is_falsified a) f ≡ false → (c : List ℤ) → Memᴰ c f → satisfied a c ≡ false → 0 < unassigned_in a c
open_unassigned a f h c m e = go (unassigned_in a c) refl
  where
    go : (k : ℕ) → unassigned_in a c ≡ k → 0 < k
    go zero z =
        let falsified : is_falsified a c ≡ true = ap₂ (λ (s : Bool) (j : ℕ). not s && eqb j 0) e z in
        absurd (true≢false (sym falsified ∙ any_false (is_falsified a) h m))
    go (suc k) z = omega arith

-- where the completion is no model, some clause is open
pub undecided_open : (row a : List ℕ) (f : List (List ℤ)) → models (complete row a) f ≡ false → SomeOpen a f
undecided_open row a f h = let r = all_false (satisfied (complete row a)) f h in (r.0, r.1, go r.0 r.2 (satisfied a r.0) refl)
  where
    go : (c : List ℤ) → satisfied (complete row a) c ≡ false → (t : Bool) → satisfied a c ≡ t → t ≡ false
    go c q true e = absurd (true≢false (sym (satisfied_kept (complete_extends row a) c e) ∙ q))
    go c q false e = refl

-- a clause that gives candidates
source_exists : (row a : List ℕ) (f : List (List ℤ)) → SomeOpen a f
    → (c : List ℤ) × Memᴰ c f × (satisfied a c ≡ false) × (is_source row a (fewest row a f) c ≡ true)
source_exists row a f r = go (fewest row a f) refl
  where
    go : (o : Option ℕ) → fewest row a f ≡ o → (c : List ℤ) × Memᴰ c f × (satisfied a c ≡ false) × (is_source row a o c ≡ true)
    go None e = (r.0, r.1, r.2, ap not r.2)
    go (Some k) e =
        let r = fewest_member row a f e in
        (r.0, r.1, opposed_open row a r.0 r.2, (and-eq-true_iff (is_opposed row a r.0) (eqb (unassigned_in a r.0) k)).1 (r.2, eq-eqb (unassigned_in a r.0) k r.3))

-- where a clause is open and none is falsified there is a branching variable
pub branching_open : {n : ℕ} {a : List ℕ} → State n a → (row : List ℕ) (f : List (List ℤ)) → fits n f ≡ true
    → any (is_falsified a) f ≡ false → SomeOpen a f → (v : ℕ) × (branching_variable row a f ≡ Some v)
branching_open {n} {a} h row f fit alive some-open =
    let r = source_exists row a f some-open in
    let x = find-some (is_unassigned a) r.0 (open_unassigned a f alive r.0 r.1 r.2) in
    let w = find_member (is_unassigned a) r.0 x.1 in
    let b = fits_at n f fit r.1 w.0 in
    best_exists (is_candidate row a f) (score a f) (length a) (variable x.0) b.0 (omega (arith, h.size, b.1))
    (source_candidate row a f r.0 r.1 r.3 x.0 w.0 w.1)

pub branching_exists : {n : ℕ} {a : List ℕ} → State n a → (row : List ℕ) (f : List (List ℤ)) → fits n f ≡ true
    → any (is_falsified a) f ≡ false → models (complete row a) f ≡ false → (v : ℕ) × (branching_variable row a f ≡ Some v)
branching_exists {a = a} h row f fit alive incomplete = branching_open h row f fit alive (undecided_open row a f incomplete)
