-- What follows from the definitions of specs/Steps.antt.
use Rattle.std.specs.Prelude.{◌≡◌, refl, true, ℕ, zero, suc, ◌≤◌, ◌<◌, ℤ, Option, None, Some}
use Rattle.std.proofs.Common.{sym, ap, subst}
use mathlib.Core.List.{List, [], ◌∷◌, ◌++◌}
use Rattle.literal.specs.Literal.{variable}
use Rattle.walk.specs.State.{State, unassigned, satisfy, is_unassigned, fits}
use Rattle.walk.specs.Propagation.{unit_literal, propagate_round, propagate_by, propagate}
use Rattle.walk.proofs.PropagationLaws.{unit_clause, unit_none, propagate_quiet}
use Rattle.walk.specs.Extension.{Extends}
use Rattle.walk.proofs.Extension.{extends_refl, extends_trans}
use Rattle.walk.proofs.Counting.{find_member}
use Rattle.walk.proofs.Fits.{fits_at}
use Rattle.walk.proofs.Assignment.{satisfy_extends, satisfy_state}
use Rattle.walk_unit_queue.specs.Steps.{Quiet, Steps, UnitOf}

-- the literal is unassigned, and its variable one of the formula's
pub unit_free : {f : List (List ℤ)} {a : List ℕ} {x : ℤ} → UnitOf f a x → is_unassigned a x ≡ true
unit_free {f} {a} u = (find_member (is_unassigned a) u.clause u.literal).1

pub unit_inside : (n : ℕ) {f : List (List ℤ)} {a : List ℕ} {x : ℤ} → fits n f ≡ true → UnitOf f a x → (0 < variable x) × (variable x ≤ n)
unit_inside n {f} {a} fit u = fits_at n f fit u.stands (find_member (is_unassigned a) u.clause u.literal).0

-- steps extend the state, which stays one
pub steps_extend : (f : List (List ℤ)) (a : List ℕ) (xs : List ℤ) {b : List ℕ} → Steps f a xs b → Extends b a
steps_extend f a [] e = subst (λ (b : List ℕ). Extends b a) e (extends_refl a)
steps_extend f a (x ∷ xs) s = extends_trans (steps_extend f (satisfy a x) xs s.1) (satisfy_extends a x (unit_free s.0))

pub steps_state : {n : ℕ} (f : List (List ℤ)) (a : List ℕ) (xs : List ℤ) {b : List ℕ} → State n a → Steps f a xs b → State n b
steps_state {n} f a [] h e = subst (State n) e h
steps_state f a (x ∷ xs) h s = steps_state f (satisfy a x) xs (satisfy_state h x) s.1

-- one more
pub steps_more : {f : List (List ℤ)} (a : List ℕ) (xs : List ℤ) {b : List ℕ} {x : ℤ} → Steps f a xs b → UnitOf f b x → Steps f a (xs ++ (x ∷ [])) (satisfy b x)
steps_more {f} a [] {b} {x} e u = (subst (λ (c : List ℕ). UnitOf f c x) (sym e) u, ap (λ (c : List ℕ). satisfy c x) e)
steps_more a (y ∷ xs) s u = (s.0, steps_more (satisfy a y) xs s.1 u)

-- Unit propagation in document 01's order is one such way, and leaves no unit clause.
lowest : (f : List (List ℤ)) (a : List ℕ) {x : ℤ} → unit_literal a f ≡ Some x → UnitOf f a x
lowest f a e = let r = unit_clause a f e in record { clause = r.0; stands = r.1; unit = r.2; literal = r.3 }

rounds : (f : List (List ℤ)) (k : ℕ) (a : List ℕ) → (xs : List ℤ) × Steps f a xs (propagate_by k f a)
rounds f zero a = ([], refl)
rounds f (suc k) a = go (unit_literal a f) refl (λ b. rounds f k b)
  where
    go : (o : Option ℤ) → unit_literal a f ≡ o → ((b : List ℕ) → (xs : List ℤ) × Steps f b xs (propagate_by k f b)) → (xs : List ℤ) × Steps f a xs (propagate_round (propagate_by k f) a o)
    go None e ih = ([], refl)
    go (Some x) e ih = let r = ih (satisfy a x) in (x ∷ r.0, (lowest f a e, r.1))

pub propagate_steps : (f : List (List ℤ)) (a : List ℕ) → (xs : List ℤ) × Steps f a xs (propagate f a)
propagate_steps f a = rounds f (unassigned a) a

pub propagate_ends : (n : ℕ) (f : List (List ℤ)) → fits n f ≡ true → {a : List ℕ} → State n a → Quiet f (propagate f a)
propagate_ends n f fit {a} h = unit_none (propagate f a) f (propagate_quiet n f fit h)
