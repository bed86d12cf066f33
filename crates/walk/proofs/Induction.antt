-- What follows from the definitions of specs/Induction.antt.
use Rattle.std.specs.Prelude.{◌≡◌, refl, Bool, true, false, List, ℕ, zero, suc, ◌-◌, ◌≤◌, ◌<◌, ℤ, Option, None, Some}
use Rattle.std.proofs.Common.{sym, subst, ◌∙◌, not-suc-le-zero, arith}
use Rattle.std.proofs.lemmas.Option.{none-some}
use Rattle.formula.specs.Formula.{models}
use Rattle.walk.specs.State.{State, unassigned, assign, fits}
use Rattle.walk.specs.Propagation.{propagate}
use Rattle.walk.specs.Branching.{fewest, branching_variable}
use Rattle.walk.specs.Walk.{Outcome, is_dead_end, complete, is_exhausted, first_value, fork_on, decide, walk_by}
use Rattle.walk.specs.Promises.{Undecided, Branches}
use Rattle.walk.proofs.PropagationLaws.{propagate_state, propagate_quiet, propagate-fewer}
use Rattle.walk.proofs.BranchingLaws.{branching_sound, branching_exists}
use Rattle.walk.proofs.WalkLaws.{dead_causes, decide_dead, decide-complete, decide_exhausted, decide-fork, first_bit, branch_state, branch_fewer}
use Rattle.walk.specs.Induction.{Settled, Ways}

-- where steps 1 to 3 decide nothing there is a branching variable: unassigned, and one of 1 to n
pub branching : {n : ℕ} {a : List ℕ} → State n a → (f : List (List ℤ)) → fits n f ≡ true → (row : List ℕ) (d : ℕ) → Undecided f row d a
    → (v : ℕ) × (branching_variable row a f ≡ Some v) × Branches a n v
branching {n} {a} h f fit row d u =
    let r = branching_exists h row f fit (dead_causes f row d a u.alive).0 u.incomplete in
    (r.0, r.1, branching_sound h row f r.1)

module _ (n : ℕ) (f : List (List ℤ)) (fit : fits n f ≡ true) (row : List ℕ) (d : ℕ) (P : List ℕ → Outcome → Type 0) (w : Ways n f row d P) where
  -- a walk that goes on as `try` says, from a settled state
  decided : (try : List ℕ → Outcome) (a : List ℕ) → Settled n f a → ((b : List ℕ) → State n b → unassigned b < unassigned a → P b (try b)) → P a (decide f row d try a)
  decided try a s ih = at (is_dead_end f row d a) refl (models (complete row a) f) refl (is_exhausted f row d a) refl
    where
      fork : (o : Option ℕ) → branching_variable row a f ≡ o → Undecided f row d a → P a (fork_on try row a (fewest row a f) o)
      fork None e u = let r = branching s.state f fit row d u in absurd (none-some r.0 (sym (sym r.1 ∙ e)))
      fork (Some v) e u =
          let k = branching_sound s.state row f e in
          let b : ℕ = first_value row (fewest row a f) v in
          let l : b < 2 = first_bit row (fewest row a f) v in
          let m : 1 - b < 2 = omega arith in
          w.forks a v (try (assign a v b)) (try (assign a v (1 - b))) s u e k
          (ih (assign a v b) (branch_state s.state v b l) (branch_fewer s.state v b k l))
          (ih (assign a v (1 - b)) (branch_state s.state v (1 - b) m) (branch_fewer s.state v (1 - b) k m))

      at : (x : Bool) → is_dead_end f row d a ≡ x → (y : Bool) → models (complete row a) f ≡ y → (z : Bool) → is_exhausted f row d a ≡ z → P a (decide f row d try a)
      at true p y q z r = subst (P a) (sym (decide_dead f row d try a p)) (w.dies a s p)
      at false p true q z r = subst (P a) (sym (decide-complete f row d try a p q)) (w.completes a s p q)
      at false p false q true r = subst (P a) (sym (decide_exhausted f row d try a p q r)) (w.exhausts a s p q r)
      at false p false q false r =
          subst (P a) (sym (decide-fork f row d try a p q r)) (fork (branching_variable row a f) refl (record { alive = p; incomplete = q; unexhausted = r }))

  pub walk_induction : (k : ℕ) (a : List ℕ) → State n a → unassigned a < k → P a (walk_by k f row d a)
  walk_induction zero a h l = absurd (not-suc-le-zero l)
  walk_induction (suc k) a h l =
      let m : unassigned (propagate f a) ≤ unassigned a = propagate-fewer n f fit h in
      let s : Settled n f (propagate f a) = record { state = propagate_state f h; quiet = propagate_quiet n f fit h } in
      w.settles a (walk_by (suc k) f row d a) h (decided (walk_by k f row d) (propagate f a) s (λ b q r. walk_induction k b q (omega arith)))
