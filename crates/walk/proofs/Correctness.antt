-- What follows from the definitions of specs/Correctness.antt.
use Rattle.std.specs.Prelude.{◌≡◌, refl, true, false, List, ℕ, zero, suc, ◌-◌, ◌<◌, ℤ, get_or, replicate, Option, None, Some}
use Rattle.std.proofs.Common.{ap, ⊎_elim, arith}
use Rattle.std.proofs.lemmas.List.{length-replicate}
use Rattle.formula.specs.Formula.{models}
use Rattle.walk.specs.State.{State, unassigned, assign, fits}
use Rattle.walk.specs.Propagation.{propagate}
use Rattle.walk.specs.Branching.{fewest}
use Rattle.walk.specs.Walk.{Answer, Outcome, is_dead_end, complete, completed, first_value, first_answer, walk_by, walk_from, walk}
use Rattle.walk.specs.Promises.{Branches}
use Rattle.walk.specs.Extension.{Extends}
use Rattle.walk.proofs.Extension.{extends_trans}
use Rattle.walk.proofs.Assignment.{extends_branch, assign_extends}
use Rattle.walk.proofs.PropagationLaws.{propagate_forced, propagate_extends}
use Rattle.walk.proofs.Completion.{complete_choice, complete-cost, complete_extends}
use Rattle.walk.proofs.WalkLaws.{dead_causes, dead_none, exhausted_none, first_bit}
use Rattle.walk.specs.Induction.{Ways}
use Rattle.walk.proofs.Induction.{walk_induction}
use Rattle.walk.specs.Correctness.{Right}

-- the state that the walk starts from: no variable is assigned
pub nothing_assigned : (n i : ℕ) → ◌≡◌ {A = ℕ} (get_or (replicate n 2) i 2) 2
nothing_assigned zero i = refl
nothing_assigned (suc n) zero = refl
nothing_assigned (suc n) (suc i) = nothing_assigned n i

pub start_state : (n : ℕ) → State n (replicate n 2)
start_state n = record { size = length-replicate n 2; bytes = λ i. omega (arith, nothing_assigned n i) }

pub start-unassigned : (n : ℕ) → unassigned (replicate n 2) ≡ n
start-unassigned zero = refl
start-unassigned (suc n) = ap suc (start-unassigned n)

pub start_extends : (n : ℕ) (c : List ℕ) → Extends c (replicate n 2)
start_extends n c = record { keeps = λ i q. absurd (q (nothing_assigned n i)) }

module _ (n : ℕ) (f : List (List ℤ)) (fit : fits n f ≡ true) (row : List ℕ) (d : ℕ) where
  after_settling : (a : List ℕ) (o : Option Answer) → Right n f row d (propagate f a) o → Right n f row d a o
  after_settling a None p = λ c m e. p c m (propagate_forced f m.satisfies e)
  after_settling a (Some x) p = (p.0, extends_trans p.1 (propagate_extends f a))

  of_completion : (a : List ℕ) → State n a → is_dead_end f row d a ≡ false → models (complete row a) f ≡ true → Right n f row d a (completed row a).answer
  of_completion a s e t = (
    record { model = record { choice = complete_choice row s; satisfies = t }; own_count = refl; limited = omega (arith, complete-cost row a, (dead_causes f row d a e).1) },
    complete_extends row a,
  )

  pub after-fork : (a : List ℕ) (v b : ℕ) → Branches a n v → b < 2 → (x y : Option Answer)
      → Right n f row d (assign a v b) x → Right n f row d (assign a v (1 - b)) y → Right n f row d a (first_answer x y)
  after-fork a v b k l (Some x) y p q = (p.0, extends_trans p.1 (assign_extends a v b k.unset))
  after-fork a v b k l None (Some y) p q = (q.0, extends_trans q.1 (assign_extends a v (1 - b) k.unset))
  after-fork a v b k l None None p q = λ c m e. ⊎_elim (p c m) (q c m) (extends_branch m.choice e v b k.above k.up_to l)

  ways : Ways n f row d (λ (a : List ℕ) (r : Outcome). Right n f row d a r.answer)
  ways =
      record {
        settles = λ a r s p. after_settling a r.answer p;
        dies = λ a s e c m h. dead_none h f row d e m.satisfies;
        completes = λ a s e t. of_completion a s.state e t;
        exhausts = λ a s e t x c m h. exhausted_none s.state h f fit row d x m.satisfies;
        forks = λ a v r s h u e k p q. after-fork a v (first_value row (fewest row a f) v) k (first_bit row (fewest row a f) v) r.answer s.answer p q;
      }

  by_depth : (k : ℕ) (a : List ℕ) → State n a → unassigned a < k → Right n f row d a (walk_by k f row d a).answer
  by_depth k a s l = walk_induction n f fit row d (λ (b : List ℕ) (r : Outcome). Right n f row d b r.answer) ways k a s l

  -- the walk from any state
  pub walk_right : (a : List ℕ) → State n a → Right n f row d a (walk_from f row d a).answer
  walk_right a s = by_depth (suc (unassigned a)) a s (omega arith)

  -- the walk from the start
  pub start_right : Right n f row d (replicate n 2) (walk n f row d).answer
  start_right = walk_right (replicate n 2) (start_state n)
