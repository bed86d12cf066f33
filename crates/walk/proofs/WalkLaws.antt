-- The steps of the walk one by one: what each dead end rules out, where `decide` goes, and that the depth allowed does not matter where it is enough.
use Rattle.std.specs.Prelude.{◌≡◌, refl, Bool, true, false, cond, ◌||◌, ℕ, zero, suc, ◌-◌, ◌≤◌, ◌<◌, eqb, ltb, ℤ, length, Option, None, Some}
use Rattle.std.proofs.Common.{sym, ap, ap₂, subst, ◌∙◌, true≢false, not-suc-le-zero, arith, lit<, eqb-true, ltb-true, ltb-false, lt-ltb}
use Rattle.std.proofs.Math.Bool.{and-eq-true_iff, or-true}
use mathlib.Core.List.{List, Memᴰ}
use Rattle.literal.specs.Literal.{variable, wanted, value}
use Rattle.formula.specs.Formula.{any, satisfied, models}
use Rattle.wish.specs.Wish.{unwished_value, cost}
use Rattle.wish.specs.Laws.{unwished_bit, cost_unwished}
use Rattle.distance.specs.Distance.{disagreement}
use Rattle.choices.proofs.Lists.{any_at, any_member, all_at}
use Rattle.walk.specs.State.{State, unassigned, assign, satisfy, unassigned_in, is_falsified, fits}
use Rattle.walk.specs.Propagation.{propagate}
use Rattle.walk.specs.Branching.{is_opposed, fewest, is_source, is_candidate, score, branching_variable}
use Rattle.walk.specs.Walk.{Outcome, dead_end, is_dead_end, complete, completed, is_exhausted, first_value, either_of, fork_on, decide, walk_by, walk_from}
use Rattle.walk.specs.Promises.{Branches}
use Rattle.walk.specs.Extension.{Extends}
use Rattle.walk.proofs.Extension.{satisfied_by_unassigned, falsified_kept, falsified_never, disagreement_grows}
use Rattle.walk.proofs.Assignment.{assign_state, assign-fewer, assign-cost, extends_satisfy}
use Rattle.walk.proofs.Fits.{fits_at}
use Rattle.walk.proofs.PropagationLaws.{propagate_extends, propagate_state, propagate-fewer}
use Rattle.walk.specs.BranchingLaws.{Candidate}
use Rattle.walk.proofs.BranchingLaws.{best_found, branching_sound, candidate_from, opposed_open, opposed_against}

-- step 1's two causes
or_cases {ℓ} : {P : Type ℓ} (x y : Bool) → x || y ≡ true → (x ≡ true → P) → (y ≡ true → P) → P
or_cases true y h f g = f refl
or_cases false y h f g = g h

pub dead_causes : (f : List (List ℤ)) (row : List ℕ) (d : ℕ) (a : List ℕ) → is_dead_end f row d a ≡ false → (any (is_falsified a) f ≡ false) × (disagreement row a ≤ d)
dead_causes f row d a e = go (any (is_falsified a) f) e
  where
    go : (t : Bool) → t || ltb d (disagreement row a) ≡ false → (t ≡ false) × (disagreement row a ≤ d)
    go true q = absurd (true≢false q)
    go false q = (refl, ltb-false d (disagreement row a) q)

-- a dead end stays one however the state is extended, so that propagation may stop at the first sign of it
pub dead_kept : {b a : List ℕ} → Extends b a → (f : List (List ℤ)) (row : List ℕ) (d : ℕ) → is_dead_end f row d a ≡ true → is_dead_end f row d b ≡ true
dead_kept {b} {a} h f row d e = or_cases (any (is_falsified a) f) (ltb d (disagreement row a)) e falsified broken
  where
    falsified : any (is_falsified a) f ≡ true → is_dead_end f row d b ≡ true
    falsified q =
        let r = any_member (is_falsified a) f q in
        ap (λ (t : Bool). t || ltb d (disagreement row b)) (any_at (is_falsified b) r.1 (falsified_kept h r.0 r.2))

    broken : ltb d (disagreement row a) ≡ true → is_dead_end f row d b ≡ true
    broken q =
        let more : ltb d (disagreement row b) ≡ true = lt-ltb d (disagreement row b) (omega (arith, disagreement_grows row b a h, ltb-true d (disagreement row a) q)) in
        ap (λ (t : Bool). any (is_falsified b) f || t) more ∙ or-true (any (is_falsified b) f)

pub dead_early : (f : List (List ℤ)) (row : List ℕ) (d : ℕ) (a : List ℕ) → is_dead_end f row d a ≡ true → is_dead_end f row d (propagate f a) ≡ true
dead_early f row d a e = dead_kept (propagate_extends f a) f row d e

-- no model within d extends a dead end of step 1
pub dead_none : {c a : List ℕ} → Extends c a → (f : List (List ℤ)) (row : List ℕ) (d : ℕ) → is_dead_end f row d a ≡ true → models c f ≡ true → d < disagreement row c
dead_none {c} {a} h f row d e t = or_cases (any (is_falsified a) f) (ltb d (disagreement row a)) e falsified broken
  where
    falsified : any (is_falsified a) f ≡ true → d < disagreement row c
    falsified q =
        let r = any_member (is_falsified a) f q in
        absurd (true≢false (sym (all_at (satisfied c) t r.1) ∙ falsified_never h r.0 r.2))

    broken : ltb d (disagreement row a) ≡ true → d < disagreement row c
    broken q = omega (arith, disagreement_grows row c a h, ltb-true d (disagreement row a) q)

-- whatever makes an opposed clause true breaks one more wish
pub opposed_costs : {n : ℕ} {c a : List ℕ} → State n a → Extends c a → (f : List (List ℤ)) → fits n f ≡ true → (row : List ℕ) (g : List ℤ) → Memᴰ g f
    → is_opposed row a g ≡ true → satisfied c g ≡ true → disagreement row a < disagreement row c
opposed_costs {n} {c} {a} s h f fit row g m o t =
    let x = satisfied_by_unassigned h g (opposed_open row a g o) t in
    let b = fits_at n f fit m x.1 in
    let against = opposed_against row a g o x.0 x.1 x.3 in
    let dear = ltb-true 0 (cost (value row (variable x.0)) (wanted x.0)) against in
    let more = assign-cost s row (variable x.0) (wanted x.0) b.0 b.1 (eqb-true (value a (variable x.0)) 2 x.3) in
    omega (arith, disagreement_grows row c (satisfy a x.0) (extends_satisfy h x.0 x.2), dear, more)

-- no model within d extends a dead end of step 3
pub exhausted_none : {n : ℕ} {c a : List ℕ} → State n a → Extends c a → (f : List (List ℤ)) → fits n f ≡ true → (row : List ℕ) (d : ℕ)
    → is_exhausted f row d a ≡ true → models c f ≡ true → d < disagreement row c
exhausted_none {n} {c} {a} s h f fit row d e t =
    let r = (and-eq-true_iff (eqb (disagreement row a) d) (any (is_opposed row a) f)).0 e in
    let g = any_member (is_opposed row a) f r.1 in
    omega (arith, eqb-true (disagreement row a) d r.0, opposed_costs s h f fit row g.0 g.1 g.2 (all_at (satisfied c) t g.1))

-- where `decide` goes: the four ways, each with the tests that lead there
module _ (f : List (List ℤ)) (row : List ℕ) (d : ℕ) (try : List ℕ → Outcome) (a : List ℕ) where
  pub decide_dead : is_dead_end f row d a ≡ true → decide f row d try a ≡ dead_end
  decide_dead e = rw e

  pub decide-complete : is_dead_end f row d a ≡ false → models (complete row a) f ≡ true → decide f row d try a ≡ completed row a
  decide-complete e t = rw (e, t)

  pub decide_exhausted : is_dead_end f row d a ≡ false → models (complete row a) f ≡ false → is_exhausted f row d a ≡ true → decide f row d try a ≡ dead_end
  decide_exhausted e t x = rw (e, t, x)

  pub decide-fork : is_dead_end f row d a ≡ false → models (complete row a) f ≡ false → is_exhausted f row d a ≡ false
      → decide f row d try a ≡ fork_on try row a (fewest row a f) (branching_variable row a f)
  decide-fork e t x = rw (e, t, x)

-- the first value is off or on
pub first_bit : (row : List ℕ) (o : Option ℕ) (v : ℕ) → first_value row o v < 2
first_bit row None v = lit< tt
first_bit row (Some k) v = omega (arith, unwished_bit (value row v))

-- "against the wish first if step 4's first kind of rule existed": the first value breaks the wish of the branching variable
unwished_breaks : (w b : ℕ) → 0 < cost w b → 0 < cost w (unwished_value w)
unwished_breaks w b h = subst (λ (x : ℕ). 0 < cost w x) (cost_unwished w b h) h

pub first_against : (row a : List ℕ) (f : List (List ℤ)) {k v : ℕ} → fewest row a f ≡ Some k → branching_variable row a f ≡ Some v
    → 0 < cost (value row v) (first_value row (fewest row a f) v)
first_against row a f {k} {v} e b = rw e (unwished_breaks (value row v) (wanted r.literal) (subst (λ (u : ℕ). 0 < cost (value row u) (wanted r.literal)) r.named dear))
  where
    r : Candidate row a f v
    r = candidate_from row a f v (best_found (is_candidate row a f) (score a f) (length a) b).passes

    opposed : is_opposed row a r.clause ≡ true
    opposed = ((and-eq-true_iff (is_opposed row a r.clause) (eqb (unassigned_in a r.clause) k)).0 (subst (λ (o : Option ℕ). is_source row a o r.clause ≡ true) e r.source)).0

    dear : 0 < cost (value row (variable r.literal)) (wanted r.literal)
    dear = ltb-true 0 (cost (value row (variable r.literal)) (wanted r.literal)) (opposed_against row a r.clause opposed r.literal r.stands r.unset)

-- both branches of a fork are states with one unassigned variable fewer
pub branch_state : {n : ℕ} {a : List ℕ} → State n a → (v b : ℕ) → b < 2 → State n (assign a v b)
branch_state h v b k = assign_state h v b (omega arith)

pub branch_fewer : {n : ℕ} {a : List ℕ} → State n a → (v b : ℕ) → Branches a n v → b < 2 → unassigned (assign a v b) < unassigned a
branch_fewer h v b k l = omega (arith, assign-fewer h v b k.above k.up_to k.unset l)

-- two searches that agree on smaller states agree after a fork
pub fork_same : {n : ℕ} {a : List ℕ} → State n a → (f : List (List ℤ)) (row : List ℕ) (s t : List ℕ → Outcome)
    → ((b : List ℕ) → State n b → unassigned b < unassigned a → s b ≡ t b)
    → (m o : Option ℕ) → branching_variable row a f ≡ o → fork_on s row a m o ≡ fork_on t row a m o
fork_same h f row s t same m None e = refl
fork_same {n} {a} h f row s t same m (Some v) e =
    let k = branching_sound h row f e in
    let b : ℕ = first_value row m v in
    let l : b < 2 = first_bit row m v in
    let r : 1 - b < 2 = omega arith in
    ap₂ either_of
    (same (assign a v b) (branch_state h v b l) (branch_fewer h v b k l))
    (same (assign a v (1 - b)) (branch_state h v (1 - b) r) (branch_fewer h v (1 - b) k r))

decide_same : {n : ℕ} {a : List ℕ} → State n a → (f : List (List ℤ)) (row : List ℕ) (d : ℕ) (s t : List ℕ → Outcome)
    → ((b : List ℕ) → State n b → unassigned b < unassigned a → s b ≡ t b) → decide f row d s a ≡ decide f row d t a
decide_same {n} {a} h f row d s t same =
    ap (λ (r : Outcome). cond (is_dead_end f row d a) dead_end (cond (models (complete row a) f) (completed row a) (cond (is_exhausted f row d a) dead_end r)))
    (fork_same h f row s t same (fewest row a f) (branching_variable row a f) refl)

module _ (n : ℕ) (f : List (List ℤ)) (fit : fits n f ≡ true) (row : List ℕ) (d : ℕ) where
  -- any two depths that are enough give the same outcome
  pub walk_enough : (j k : ℕ) (a : List ℕ) → State n a → unassigned a < j → unassigned a < k → walk_by j f row d a ≡ walk_by k f row d a
  walk_enough zero k a h p q = absurd (not-suc-le-zero p)
  walk_enough (suc j) zero a h p q = absurd (not-suc-le-zero q)
  walk_enough (suc j) (suc k) a h p q =
      let l : unassigned (propagate f a) ≤ unassigned a = propagate-fewer n f fit h in
      decide_same (propagate_state f h) f row d (walk_by j f row d) (walk_by k f row d) (λ b s r. walk_enough j k b s (omega arith) (omega arith))

  -- the walk from a state: propagate, then decide, where a fork walks on from each of its two states
  pub walk_step : (a : List ℕ) → State n a → walk_from f row d a ≡ decide f row d (walk_from f row d) (propagate f a)
  walk_step a h =
      let l : unassigned (propagate f a) ≤ unassigned a = propagate-fewer n f fit h in
      decide_same (propagate_state f h) f row d (walk_by (unassigned a) f row d) (walk_from f row d)
      (λ b s r. walk_enough (unassigned a) (suc (unassigned b)) b s (omega arith) (omega arith))
