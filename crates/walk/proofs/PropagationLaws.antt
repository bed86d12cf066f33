-- Unit propagation: it ends, keeps every model that extends the state, and leaves no unit clause.
use Rattle.std.specs.Prelude.{◌≡◌, refl, Bool, true, false, cond, ℕ, zero, suc, ◌≤◌, ◌<◌, eqb, ℤ, Option, None, Some}
use Rattle.std.proofs.Common.{sym, ap, ◌∙◌, arith, eqb-true}
use Rattle.std.proofs.Math.Bool.{and-eq-true_iff}
use mathlib.Core.List.Memᴰ
use mathlib.Core.List.{List, [], ◌∷◌, Memᴰ}
use Rattle.std.proofs.lemmas.Option.{same_Some, none-some}
use Rattle.std.proofs.lemmas.Bool.{not-true}
use Rattle.literal.specs.Literal.{variable, wanted, value, holds}
use Rattle.literal.specs.Slots.{wanted_bit}
use Rattle.formula.specs.Formula.{satisfied, models}
use Rattle.choices.proofs.Lists.{all_at}
use Rattle.walk.specs.State.{State, find, unassigned, satisfy, is_unassigned, unassigned_in, is_open, is_unit, fits}
use Rattle.walk.specs.Propagation.{unit_literal, propagate_round, propagate_by, propagate}
use Rattle.walk.specs.Extension.{Extends}
use Rattle.walk.proofs.Extension.{extends_refl, extends_trans, satisfied_by_unassigned}
use Rattle.walk.proofs.Counting.{find_member, find-some, find_only}
use Rattle.walk.proofs.Fits.{fits_at}
use Rattle.walk.proofs.Assignment.{assign-fewer, extends_satisfy, satisfy_extends, satisfy_state}

-- the unit clause that gives the literal; and where there is none, no clause is unit
pub unit_clause : (a : List ℕ) (f : List (List ℤ)) {x : ℤ} → unit_literal a f ≡ Some x
    → (c : List ℤ) × Memᴰ c f × (is_unit a c ≡ true) × (find (is_unassigned a) c ≡ Some x)
unit_clause a [] {x} e = absurd (none-some x e)
unit_clause a (c ∷ f) {x} e = go (is_unit a c) refl e (λ q. unit_clause a f q)
  where
    go : (b : Bool) → is_unit a c ≡ b → cond b (find (is_unassigned a) c) (unit_literal a f) ≡ Some x
        → (unit_literal a f ≡ Some x → (g : List ℤ) × Memᴰ g f × (is_unit a g ≡ true) × (find (is_unassigned a) g ≡ Some x))
        → (g : List ℤ) × Memᴰ g (c ∷ f) × (is_unit a g ≡ true) × (find (is_unassigned a) g ≡ Some x)
    go true t q ih = (c, Memᴰ.head refl, t, q)
    go false t q ih = let r = ih q in (r.0, Memᴰ.tail r.1, r.2, r.3)

pub unit_one : (a : List ℕ) (c : List ℤ) → is_unit a c ≡ true → (satisfied a c ≡ false) × (unassigned_in a c ≡ 1)
unit_one a c h = let r = (and-eq-true_iff (is_open a c) (eqb (unassigned_in a c) 1)).0 h in (not-true (satisfied a c) r.0, eqb-true (unassigned_in a c) 1 r.1)

pub unit_none : (a : List ℕ) (f : List (List ℤ)) → unit_literal a f ≡ None → (c : List ℤ) → Memᴰ c f → is_unit a c ≡ false
unit_none a [] e c m = absurd (Memᴰ.not-nil m)
unit_none a (g ∷ f) e c m = go (is_unit a g) refl e (λ q w. unit_none a f q c w) m
  where
    at : is_unit a g ≡ false → (Memᴰ c f → is_unit a c ≡ false) → Memᴰ c (g ∷ f) → is_unit a c ≡ false
    at t ih (Memᴰ.head z) = ap (is_unit a) z ∙ t
    at t ih (Memᴰ.tail w) = ih w

    go : (b : Bool) → is_unit a g ≡ b → cond b (find (is_unassigned a) g) (unit_literal a f) ≡ None
        → (unit_literal a f ≡ None → Memᴰ c f → is_unit a c ≡ false) → Memᴰ c (g ∷ f) → is_unit a c ≡ false
    go true t q ih w =
        let r = find-some (is_unassigned a) g (omega (arith, (unit_one a g t).1)) in
        absurd (none-some r.0 (sym (sym r.1 ∙ q)))
    go false t q ih w = at t (ih q) w

-- the literal is unassigned, its variable is one of the formula's, and every model that extends the state makes it hold
unit_unassigned : (a : List ℕ) (f : List (List ℤ)) {x : ℤ} → unit_literal a f ≡ Some x → is_unassigned a x ≡ true
unit_unassigned a f e = let r = unit_clause a f e in (find_member (is_unassigned a) r.0 r.3).1

unit_within : (n : ℕ) (a : List ℕ) (f : List (List ℤ)) → fits n f ≡ true → {x : ℤ} → unit_literal a f ≡ Some x → (0 < variable x) × (variable x ≤ n)
unit_within n a f h e = let r = unit_clause a f e in fits_at n f h r.1 (find_member (is_unassigned a) r.0 r.3).0

pub unit_forced : {b a : List ℕ} → Extends b a → (f : List (List ℤ)) → models b f ≡ true → {x : ℤ} → unit_literal a f ≡ Some x → holds b x ≡ true
unit_forced {b} {a} h f t {x} e =
    let r = unit_clause a f e in
    let u = unit_one a r.0 r.2 in
    let y = satisfied_by_unassigned h r.0 u.0 (all_at (satisfied b) t r.1) in
    let same = same_Some y.0 x (sym (find_only (is_unassigned a) u.1 y.1 y.3) ∙ r.3) in
    ap (holds b) (sym same) ∙ y.2

-- what every round keeps, propagation keeps
pub propagation_keeps {ℓ} : (f : List (List ℤ)) (Q : List ℕ → Type ℓ) → ((a : List ℕ) (x : ℤ) → Q a → unit_literal a f ≡ Some x → Q (satisfy a x))
    → (k : ℕ) (a : List ℕ) → Q a → Q (propagate_by k f a)
propagation_keeps f Q h zero a q = q
propagation_keeps f Q h (suc k) a q = go (unit_literal a f) refl (λ b w. propagation_keeps f Q h k b w)
  where
    go : (o : Option ℤ) → unit_literal a f ≡ o → ((b : List ℕ) → Q b → Q (propagate_by k f b)) → Q (propagate_round (propagate_by k f) a o)
    go None e ih = q
    go (Some x) e ih = ih (satisfy a x) (h a x q e)

pub propagate_state : {n : ℕ} {a : List ℕ} (f : List (List ℤ)) → State n a → State n (propagate f a)
propagate_state {n} {a} f h = propagation_keeps f (State n) (λ b x q e. satisfy_state q x) (unassigned a) a h

pub propagate_extends : (f : List (List ℤ)) (a : List ℕ) → Extends (propagate f a) a
propagate_extends f a =
    propagation_keeps f (λ (b : List ℕ). Extends b a) (λ b x q e. extends_trans (satisfy_extends b x (unit_unassigned b f e)) q) (unassigned a) a (extends_refl a)

-- every model that extends the state extends the propagated state
pub propagate_forced : {c a : List ℕ} (f : List (List ℤ)) → models c f ≡ true → Extends c a → Extends c (propagate f a)
propagate_forced {c} {a} f t h =
    propagation_keeps f (λ (b : List ℕ). Extends c b) (λ b x q e. extends_satisfy q x (unit_forced q f t e)) (unassigned a) a h

-- where no clause is unit there is nothing to do
pub propagate-done : (f : List (List ℤ)) (a : List ℕ) → unit_literal a f ≡ None → propagate f a ≡ a
propagate-done f a e = go (unassigned a)
  where
    go : (k : ℕ) → propagate_by k f a ≡ a
    go zero = refl
    go (suc k) = rw e

module _ (n : ℕ) (f : List (List ℤ)) (fit : fits n f ≡ true) where
  -- a round assigns a variable
  round_fewer : {a : List ℕ} → State n a → {x : ℤ} → unit_literal a f ≡ Some x → suc (unassigned (satisfy a x)) ≡ unassigned a
  round_fewer {a} h {x} e =
      let r = unit_within n a f fit e in
      assign-fewer h (variable x) (wanted x) r.0 r.1 (eqb-true (value a (variable x)) 2 (unit_unassigned a f e)) (wanted_bit x)

  -- with no round left there is nothing to do
  no_round : {a : List ℕ} → State n a → unassigned a ≡ 0 → unit_literal a f ≡ None
  no_round {a} h z = go (unit_literal a f) refl
    where
      go : (o : Option ℤ) → unit_literal a f ≡ o → o ≡ None
      go None e = refl
      go (Some x) e = absurd (omega (arith, round_fewer h e))

  -- propagation leaves no unit clause
  quiet_from : (k : ℕ) {a : List ℕ} → State n a → unassigned a ≤ k → unit_literal (propagate_by k f a) f ≡ None
  quiet_from zero h l = no_round h (omega arith)
  quiet_from (suc k) {a} h l = go (unit_literal a f) refl (λ b s q. quiet_from k {a = b} s q)
    where
      go : (o : Option ℤ) → unit_literal a f ≡ o → ((b : List ℕ) → State n b → unassigned b ≤ k → unit_literal (propagate_by k f b) f ≡ None)
          → unit_literal (propagate_round (propagate_by k f) a o) f ≡ None
      go None e ih = e
      go (Some x) e ih = ih (satisfy a x) (satisfy_state h x) (omega (arith, round_fewer h e))

  pub propagate_quiet : {a : List ℕ} → State n a → unit_literal (propagate f a) f ≡ None
  propagate_quiet {a} h = quiet_from (unassigned a) h (omega arith)

  -- one round
  propagate_round_lem : {a : List ℕ} → State n a → {x : ℤ} → unit_literal a f ≡ Some x → propagate f a ≡ propagate f (satisfy a x)
  propagate_round_lem {a} h {x} e = rw (← round_fewer h e, e)

  -- it never unassigns a variable
  pub propagate-fewer : {a : List ℕ} → State n a → unassigned (propagate f a) ≤ unassigned a
  propagate-fewer {a} h =
      (propagation_keeps f (λ (b : List ℕ). State n b × (unassigned b ≤ unassigned a)) (λ b x q e. (satisfy_state q.0 x, omega (arith, q.1, round_fewer q.0 e))) (unassigned a) a (h, omega arith)).1

  -- more rounds than there are unassigned variables change nothing
  pub propagate_enough : (k : ℕ) {a : List ℕ} → State n a → unassigned a ≤ k → propagate_by k f a ≡ propagate f a
  propagate_enough zero {a} h l = sym (propagate-done f a (no_round h (omega arith)))
  propagate_enough (suc k) {a} h l = go (unit_literal a f) refl (λ b s q. propagate_enough k {a = b} s q)
    where
      go : (o : Option ℤ) → unit_literal a f ≡ o → ((b : List ℕ) → State n b → unassigned b ≤ k → propagate_by k f b ≡ propagate f b)
          → propagate_round (propagate_by k f) a o ≡ propagate f a
      go None e ih = sym (propagate-done f a e)
      go (Some x) e ih = ih (satisfy a x) (satisfy_state h x) (omega (arith, round_fewer h e)) ∙ sym (propagate_round_lem h e)
