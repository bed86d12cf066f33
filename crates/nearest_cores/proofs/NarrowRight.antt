-- What follows from the definitions of specs/NarrowRight.antt.
pub use Rattle.nearest_cores.proofs.ScanRight.{left_unassigned, left_above, left_up_to}
use Rattle.std.specs.Prelude.{◌≡◌, refl, Bool, true, false, cond, List, [], ◌∷◌, ℕ, zero, suc, ◌+◌, ◌≤◌, ◌<◌, eqb, ltb, leb, ℤ, length, set, Option, None, Some}
use Rattle.std.proofs.Common.{ap, subst, ◌∙◌, zero-le, not-suc-le-zero, le_refl, arith, ltb-true, ltb-false, leb-true, leb-false, ne_eqb}
use Rattle.std.proofs.Math.Bool.{and-eq-true_iff}
use Rattle.std.proofs.lemmas.Option.{same_Some, none-some}
use Rattle.std.proofs.lemmas.Bool.{eqb-false}
use Rattle.literal.specs.Literal.{value}
use Rattle.wish.specs.Wish.{wished_value, weight}
use Rattle.wish.specs.Laws.{wished_bit}
use Rattle.distance.specs.Distance.{disagreement}
use Rattle.choices.specs.Choices.{Model}
use Rattle.walk.specs.State.{State, is_unset, unassigned, assign, fits}
use Rattle.walk.specs.Propagation.{propagate}
use Rattle.walk.specs.Walk.{is_dead_end}
use Rattle.walk.specs.Extension.{Extends}
use Rattle.walk.proofs.Extension.{extends_refl, extends_trans}
use Rattle.walk.proofs.Assignment.{extends_assign, assign_state, assign_other}
use Rattle.walk.proofs.PropagationLaws.{propagate_state, propagate_extends, propagate_forced, propagate-fewer}
use Rattle.walk.proofs.WalkLaws.{dead_none}
use Rattle.nearest_cores.specs.Cores.{Scan, is_left, keep_wish, scan}
use Rattle.nearest_cores.specs.Narrow.{must_keep, keep_if, keep_from, keep_all, unless_kept, by_cores, narrowed, narrow_by, narrow}
use Rattle.nearest_cores.proofs.Facts.{cores_add, must_keep_lem}
use Rattle.nearest_cores.specs.ScanRight.{Found}
use Rattle.nearest_cores.proofs.ScanRight.{scan_found}
use Rattle.nearest_cores.specs.NarrowRight.{Narrowed}

-- giving a variable a value leaves no more variables unassigned
store_no_more : (a : List ℕ) (j b : ℕ) → b < 2 → unassigned (set a j b) ≤ unassigned a
store_no_more [] j b k = zero-le
store_no_more (x ∷ a) zero b k = rw (ne_eqb b 2 (λ q. omega arith)) (go (is_unset x))
  where
    go : (t : Bool) → unassigned a ≤ cond t (suc (unassigned a)) (unassigned a)
    go true = omega arith
    go false = le_refl (unassigned a)
store_no_more (x ∷ a) (suc j) b k = go (is_unset x) (store_no_more a j b k)
  where
    go : (t : Bool) → unassigned (set a j b) ≤ unassigned a
        → cond t (suc (unassigned (set a j b))) (unassigned (set a j b)) ≤ cond t (suc (unassigned a)) (unassigned a)
    go true q = omega arith
    go false q = q

keep_no_more : (row a : List ℕ) (v : ℕ) → unassigned (keep_wish row a v) ≤ unassigned a
keep_no_more row a zero = le_refl (unassigned a)
keep_no_more row a (suc j) = store_no_more a j (wished_value (value row (suc j))) (wished_bit (value row (suc j)))

pub keep_wish_state : {n : ℕ} {a : List ℕ} → State n a → (row : List ℕ) (v : ℕ) → State n (keep_wish row a v)
keep_wish_state h row v = assign_state h v (wished_value (value row v)) (omega (arith, wished_bit (value row v)))

module _ (row : List ℕ) (d : ℕ) (taken : List ℕ) (bound : ℕ) where
  -- what every variable that must be kept keeps, all of them keep
  pub keeping_keeps : (Q : List ℕ → Type 0) → ((a : List ℕ) (v : ℕ) → must_keep row d taken bound v ≡ true → Q a → Q (keep_wish row a v))
      → (k : ℕ) (a : List ℕ) (v : ℕ) → Q a → Q (keep_from k row d taken bound a v)
  keeping_keeps Q step zero a v q = q
  keeping_keeps Q step (suc k) a v q = keeping_keeps Q step k (keep_if row d taken bound a v) (suc v) (go (must_keep row d taken bound v) refl)
    where
      go : (t : Bool) → must_keep row d taken bound v ≡ t → Q (cond t (keep_wish row a v) a)
      go true e = step a v e q
      go false e = q

  pub keep_state : {n : ℕ} {b : List ℕ} → State n b → State n (keep_all row d taken bound b)
  keep_state {n} {b} h = keeping_keeps (State n) (λ a v e s. keep_wish_state s row v) (length b) b 1 h

  pub keep-fewer : (b : List ℕ) → unassigned (keep_all row d taken bound b) ≤ unassigned b
  keep-fewer b =
      keeping_keeps (λ (a : List ℕ). unassigned a ≤ unassigned b) (λ a v e l. omega (arith, keep_no_more row a v)) (length b) b 1 (le_refl (unassigned b))

module _ (n : ℕ) (f : List (List ℤ)) (fit : fits n f ≡ true) (row : List ℕ) (d : ℕ) where
  -- what a round goes on with where it goes on: a state with fewer unassigned variables
  narrowed_same : (s t : List ℕ → Option (List ℕ)) (b : List ℕ) → State n b
      → ((a : List ℕ) → State n a → unassigned a < unassigned b → s a ≡ t a) → narrowed s f row d b ≡ narrowed t f row d b
  narrowed_same s t b h same =
      ap (λ (r : Option (List ℕ)). cond (is_dead_end f row d b) None (cond (ltb d found.bound) None r)) (go (eqb (unassigned a) (unassigned b)) refl)
    where
      found : Scan
      found = scan f row b

      a : List ℕ
      a = keep_all row d found.taken found.bound b

      go : (u : Bool) → eqb (unassigned a) (unassigned b) ≡ u → cond u (Some b) (s a) ≡ cond u (Some b) (t a)
      go true e = refl
      go false e =
          let l : unassigned a ≤ unassigned b = keep-fewer row d found.taken found.bound b in
          let q : unassigned a ≡ unassigned b → ⊥ = eqb-false (unassigned a) (unassigned b) e in
          same a (keep_state row d found.taken found.bound h) (omega arith)

  -- any two numbers of rounds that are enough come to the same
  pub narrow_enough : (j k : ℕ) (a : List ℕ) → State n a → unassigned a < j → unassigned a < k → narrow_by j f row d a ≡ narrow_by k f row d a
  narrow_enough zero k a h p q = absurd (not-suc-le-zero p)
  narrow_enough (suc j) zero a h p q = absurd (not-suc-le-zero q)
  narrow_enough (suc j) (suc k) a h p q =
      let l : unassigned (propagate f a) ≤ unassigned a = propagate-fewer n f fit h in
      narrowed_same (narrow_by j f row d) (narrow_by k f row d) (propagate f a) (propagate_state f h) (λ b s r. narrow_enough j k b s (omega arith) (omega arith))

  -- one round of narrowing, which goes on with what had to be kept
  pub narrow_step : (a : List ℕ) → State n a → narrow f row d a ≡ narrowed (narrow f row d) f row d (propagate f a)
  narrow_step a h =
      let l : unassigned (propagate f a) ≤ unassigned a = propagate-fewer n f fit h in
      narrowed_same (narrow_by (unassigned a) f row d) (narrow f row d) (propagate f a) (propagate_state f h)
      (λ b s r. narrow_enough (unassigned a) (suc (unassigned b)) b s (omega arith) (omega arith))

  -- the ways that narrowing can go, for a statement P of the state that it starts from and what it comes to
  pub record Rounds (P : List ℕ → Option (List ℕ) → Type 0) : Type 0 where
    pub propagates : (a : List ℕ) (o : Option (List ℕ)) → State n a → P (propagate f a) o → P a o
    pub dies : (b : List ℕ) → State n b → is_dead_end f row d b ≡ true → P b None
    pub overruns : (b : List ℕ) → State n b → d < (scan f row b).bound → P b None
    pub rests : (e : List ℕ) → State n e → is_dead_end f row d (propagate f e) ≡ false → P (propagate f e) (Some (propagate f e))
    pub goes_on : (b : List ℕ) (o : Option (List ℕ)) → State n b → (scan f row b).bound ≤ d → P (keep_all row d (scan f row b).taken (scan f row b).bound b) o → P b o

  -- one round
  narrowed_by : (P : List ℕ → Option (List ℕ) → Type 0) → Rounds P → (rest : List ℕ → Option (List ℕ)) (e : List ℕ) → State n e
      → ((a : List ℕ) → State n a → unassigned a < unassigned (propagate f e) → P a (rest a)) → P (propagate f e) (narrowed rest f row d (propagate f e))
  narrowed_by P ways rest e h ih = dead (is_dead_end f row d b) refl
    where
      b : List ℕ
      b = propagate f e

      found : Scan
      found = scan f row b

      a : List ℕ
      a = keep_all row d found.taken found.bound b

      kept : is_dead_end f row d b ≡ false → found.bound ≤ d → (t : Bool) → eqb (unassigned a) (unassigned b) ≡ t → P b (cond t (Some b) (rest a))
      kept p l true q = ways.rests e h p
      kept p l false q =
          let fewer : unassigned a ≤ unassigned b = keep-fewer row d found.taken found.bound b in
          let other : unassigned a ≡ unassigned b → ⊥ = eqb-false (unassigned a) (unassigned b) q in
          ways.goes_on b (rest a) (propagate_state f h) l (ih a (keep_state row d found.taken found.bound (propagate_state f h)) (omega arith))

      bounded : is_dead_end f row d b ≡ false → (t : Bool) → ltb d found.bound ≡ t → P b (cond t None (unless_kept rest b a))
      bounded p true q = ways.overruns b (propagate_state f h) (ltb-true d found.bound q)
      bounded p false q = kept p (ltb-false d found.bound q) (eqb (unassigned a) (unassigned b)) refl

      dead : (t : Bool) → is_dead_end f row d b ≡ t → P b (cond t None (by_cores rest row d b found))
      dead true p = ways.dies b (propagate_state f h) p
      dead false p = bounded p (ltb d found.bound) refl

  -- what holds in each way holds of every narrowing
  narrow_by_lem : (P : List ℕ → Option (List ℕ) → Type 0) → Rounds P → (k : ℕ) (a : List ℕ) → State n a → unassigned a < k → P a (narrow_by k f row d a)
  narrow_by_lem P ways zero a h p = absurd (not-suc-le-zero p)
  narrow_by_lem P ways (suc k) a h p =
      let l : unassigned (propagate f a) ≤ unassigned a = propagate-fewer n f fit h in
      ways.propagates a (narrow_by (suc k) f row d a) h
      (narrowed_by P ways (narrow_by k f row d) a h (λ b s r. narrow_by_lem P ways k b s (omega arith)))

  pub narrow_induction : (P : List ℕ → Option (List ℕ) → Type 0) → Rounds P → (a : List ℕ) → State n a → P a (narrow f row d a)
  narrow_induction P ways a h = narrow_by_lem P ways (suc (unassigned a)) a h (omega arith)

  -- the narrowed state is a state, with no more unassigned variables
  abbrev Smaller : List ℕ → Option (List ℕ) → Type 0
  Smaller a o = (b : List ℕ) → o ≡ Some b → State n b × (unassigned b ≤ unassigned a)

  smaller : Rounds Smaller
  smaller =
      record {
        propagates = λ a o h p b e. let r = p b e in (r.0, omega (arith, r.1, propagate-fewer n f fit h));
        dies = λ b h e c q. absurd (none-some c q);
        overruns = λ b h l c q. absurd (none-some c q);
        rests = λ e h q b z. let same = same_Some (propagate f e) b z in (subst (State n) same (propagate_state f h), omega (arith, ap unassigned same));
        goes_on = λ b o h l p c e. let r = p c e in (r.0, omega (arith, r.1, keep-fewer row d (scan f row b).taken (scan f row b).bound b));
      }

  pub narrow_smaller : (a : List ℕ) → State n a → (b : List ℕ) → narrow f row d a ≡ Some b → State n b × (unassigned b ≤ unassigned a)
  narrow_smaller a h = narrow_induction Smaller smaller a h

-- a variable that the state leaves unassigned may be given any value in an extension of it
extends_over : {a b : List ℕ} → Extends a b → (v x : ℕ) → value b v ≡ 2 → Extends (assign a v x) b
extends_over {a} {b} h v x e = record { keeps = λ i q. assign_other a v x (suc i) (λ z. q (ap (value b) z ∙ e)) ∙ h.keeps i q }

-- what must be kept is left, and costs more than is left of d
pub must_both : (row : List ℕ) (d : ℕ) (taken : List ℕ) (bound v : ℕ) → must_keep row d taken bound v ≡ true → (is_left taken v ≡ true) × (d < bound + weight (value row v))
must_both row d taken bound v e =
    let r = (and-eq-true_iff (is_left taken v) (ltb d (bound + weight (value row v)))).0 e in
    (r.0, ltb-true d (bound + weight (value row v)) r.1)

module _ (n : ℕ) (f : List (List ℤ)) (row : List ℕ) (d : ℕ) (b : List ℕ) (st : State n b) where
  found : Found n f row b (scan f row b)
  found = scan_found n f row b st

  abbrev kept_all : List ℕ
  kept_all = keep_all row d (scan f row b).taken (scan f row b).bound b

  abbrev must : ℕ → Type 0
  must v = must_keep row d (scan f row b).taken (scan f row b).bound v ≡ true

  -- keeping the wishes that must be kept extends the state
  pub keep_extends : Extends kept_all b
  keep_extends =
      keeping_keeps row d (scan f row b).taken (scan f row b).bound (λ (a : List ℕ). Extends a b)
      (λ a v e h. extends_over h v (wished_value (value row v)) (left_unassigned f row b v (must_both row d (scan f row b).taken (scan f row b).bound v e).0))
      (length b) b 1 (extends_refl b)

  -- and every model within d keeps them
  pub keep_forced : (c : List ℕ) → Model n f c → Extends c b → disagreement row c ≤ d → Extends c kept_all
  keep_forced c m h l =
      keeping_keeps row d (scan f row b).taken (scan f row b).bound (λ (a : List ℕ). Extends c a)
      (λ a v e k. extends_assign k v (wished_value (value row v)) (wished v e))
      (length b) b 1 h
    where
      wished : (v : ℕ) → must v → value c v ≡ wished_value (value row v)
      wished v e =
          must_keep_lem st found.are_cores v
          (record { above = left_above f row b v (must_both row d (scan f row b).taken (scan f row b).bound v e).0; up_to = left_up_to f row b st v (must_both row d (scan f row b).taken (scan f row b).bound v e).0; unset = left_unassigned f row b v (must_both row d (scan f row b).taken (scan f row b).bound v e).0 })
          (found.apart v (must_both row d (scan f row b).taken (scan f row b).bound v e).0) d (omega (arith, (must_both row d (scan f row b).taken (scan f row b).bound v e).1, found.sum)) c m h l

  -- every model that extends the state breaks at least the bound
  pub bound_broken : (c : List ℕ) → Model n f c → Extends c b → (scan f row b).bound ≤ disagreement row c
  bound_broken c m h = omega (arith, cores_add st found.are_cores c m h, found.sum)

module _ (n : ℕ) (f : List (List ℤ)) (fit : fits n f ≡ true) (row : List ℕ) (d : ℕ) where
  -- if every model within d that extends a extends b too, what is right of b is right of a
  carried : (a b : List ℕ) → Extends b a → unassigned b ≤ unassigned a → ((c : List ℕ) → Model n f c → Extends c a → disagreement row c ≤ d → Extends c b)
      → (o : Option (List ℕ)) → Narrowed n f row d b o → Narrowed n f row d a o
  carried a b h l forced None p = λ c m e. go c m e (leb (disagreement row c) d) refl
    where
      go : (c : List ℕ) → Model n f c → Extends c a → (t : Bool) → leb (disagreement row c) d ≡ t → d < disagreement row c
      go c m e true q = p c m (forced c m e (leb-true (disagreement row c) d q))
      go c m e false q = leb-false (disagreement row c) d q
  carried a b h l forced (Some x) p =
      record {
        state = p.state;
        fewer = omega (arith, p.fewer);
        extends = extends_trans p.extends h;
        keeps = λ c m e q. p.keeps c m (forced c m e q) q;
        alive = p.alive;
        propagated = p.propagated;
      }

  rounds : Rounds n f fit row d (Narrowed n f row d)
  rounds =
      record {
        propagates = λ a o h p. carried a (propagate f a) (propagate_extends f a) (propagate-fewer n f fit h) (λ c m e l. propagate_forced f m.satisfies e) o p;
        dies = λ b h e c m k. dead_none k f row d e m.satisfies;
        overruns = λ b h l c m k. omega (arith, bound_broken n f row d b h c m k);
        rests = λ e h q. record { state = propagate_state f h; fewer = le_refl (unassigned (propagate f e)); extends = extends_refl (propagate f e); keeps = λ c m k l. k; alive = q; propagated = (e, h, refl) };
        goes_on = λ b o h l p. carried b (keep_all row d (scan f row b).taken (scan f row b).bound b) (keep_extends n f row d b h) (keep-fewer row d (scan f row b).taken (scan f row b).bound b) (keep_forced n f row d b h) o p;
      }

  -- Narrowing is right: where it finds a dead end no model within d extends the state; else every such model extends the narrowed state too.
  pub narrow_right : (a : List ℕ) → State n a → Narrowed n f row d a (narrow f row d a)
  narrow_right a h = narrow_induction n f fit row d (Narrowed n f row d) rounds a h
