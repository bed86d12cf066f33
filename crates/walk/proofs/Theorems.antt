-- The theorems of the wish search, from its start; `walk_right` in Correctness is that from any state. Each holds for every n, every formula whose literals have their variables in 1 to n (`fits`), every wish row and every limit.
use Rattle.std.specs.Prelude.{◌≡◌, refl, ◌↔◌, true, ℕ, suc, ◌<◌, ℤ, replicate, Option, None, Some}
use Rattle.std.proofs.Common.{subst, arith}
use mathlib.Core.Logic.Iff
use mathlib.Core.List.{List, [], Memᴰ}
use Rattle.formula.specs.Formula.{clauses}
use Rattle.wish.specs.Wish.{free_byte}
use Rattle.distance.specs.Distance.{disagreement, within}
use Rattle.distance.specs.Laws.{disagreement_free}
use Rattle.choices.specs.Choices.{Model}
use Rattle.choices.proofs.Choices.{within_iff, within_none}
use Rattle.walk.specs.State.{State, unassigned, fits}
use Rattle.walk.specs.Branching.{branching_variable}
use Rattle.walk.specs.Walk.{Answer, walk_by, walk, plain_walk}
use Rattle.walk.specs.Promises.{ModelWithin, Undecided, Branches}
use Rattle.walk.proofs.WalkLaws.{walk_enough}
use Rattle.walk.proofs.Induction.{branching}
use Rattle.walk.specs.Correctness.{Right}
use Rattle.walk.proofs.Correctness.{start_state, start-unassigned, start_extends, start_right}

-- Soundness: what the walk finds is a choice that meets all rules, with the count that it breaks, and that is at most d.
pub walk_sound : (n : ℕ) (f : List (List ℤ)) → fits n f ≡ true → (row : List ℕ) (d : ℕ) (x : Answer) → (walk n f row d).answer ≡ Some x → ModelWithin n f row d x
walk_sound n f fit row d x e =
    let p : Right n f row d (replicate n 2) (Some x) = subst (Right n f row d (replicate n 2)) e (start_right n f fit row d) in
    p.0

-- Completeness: it finds nothing exactly when every choice that meets all rules breaks more than d wishes.
pub walk_none : (n : ℕ) (f : List (List ℤ)) → fits n f ≡ true → (row : List ℕ) (d : ℕ)
    → ((walk n f row d).answer ≡ None) ↔ ((a : List ℕ) → Model n f a → d < disagreement row a)
walk_none n f fit row d = (forth, λ g. back g (walk n f row d).answer (start_right n f fit row d))
  where
    forth : (walk n f row d).answer ≡ None → (a : List ℕ) → Model n f a → d < disagreement row a
    forth e a m =
        let p : Right n f row d (replicate n 2) None = subst (Right n f row d (replicate n 2)) e (start_right n f fit row d) in
        p a m (start_extends n a)

    back : ((a : List ℕ) → Model n f a → d < disagreement row a) → (o : Option Answer) → Right n f row d (replicate n 2) o → o ≡ None
    back g None p = refl
    back g (Some x) p =
        let r : ModelWithin n f row d x = p.0 in
        absurd (omega (arith, g x.choice r.model, r.own_count, r.limited))

-- The same of the choices that are listed.
pub walk_listed : (n : ℕ) (list : List ℤ) → fits n (clauses list) ≡ true → (row : List ℕ) (d : ℕ) (x : Answer)
    → (walk n (clauses list) row d).answer ≡ Some x → Memᴰ x.choice (within n list row d)
walk_listed n list fit row d x e =
    let r = walk_sound n (clauses list) fit row d x e in
    (within_iff n list row d x.choice).1 (r.model, omega (arith, r.own_count, r.limited))

pub walk-within : (n : ℕ) (list : List ℤ) → fits n (clauses list) ≡ true → (row : List ℕ) (d : ℕ)
    → ((walk n (clauses list) row d).answer ≡ None) ↔ (within n list row d ≡ [])
walk-within n list fit row d = Iff.trans (walk_none n (clauses list) fit row d) (Iff.symm (within_none n list row d))

-- Any depth above the number of variables gives the walk.
pub walk_depth : (n : ℕ) (f : List (List ℤ)) → fits n f ≡ true → (row : List ℕ) (d k : ℕ) → n < k → walk_by k f row d (replicate n 2) ≡ walk n f row d
walk_depth n f fit row d k h =
    walk_enough n f fit row d k (suc (unassigned (replicate n 2))) (replicate n 2) (start_state n) (omega (arith, start-unassigned n)) (omega arith)

-- Plain search finds a model, or nothing exactly when there is none.
pub plain_sound : (n : ℕ) (f : List (List ℤ)) → fits n f ≡ true → (x : Answer) → (plain_walk n f).answer ≡ Some x → Model n f x.choice
plain_sound n f fit x e = (walk_sound n f fit (replicate n free_byte) 0 x e).model

pub plain_none : (n : ℕ) (f : List (List ℤ)) → fits n f ≡ true → ((plain_walk n f).answer ≡ None) ↔ ((a : List ℕ) → Model n f a → ⊥)
plain_none n f fit =
    (λ e a m. omega (arith, (walk_none n f fit (replicate n free_byte) 0).0 e a m, disagreement_free n a), λ g. (walk_none n f fit (replicate n free_byte) 0).1 (λ a m. absurd (g a m)))

-- Where steps 1 to 3 decide nothing there is a branching variable; it is unassigned and one of 1 to n.
pub branching_variable_lem : (n : ℕ) (f : List (List ℤ)) → fits n f ≡ true → (row : List ℕ) (d : ℕ) (a : List ℕ) → State n a → Undecided f row d a
    → (v : ℕ) × (branching_variable row a f ≡ Some v) × Branches a n v
branching_variable_lem n f fit row d a h u = branching h f fit row d u
