-- What follows from the definitions of specs/SearchRight.antt.
use Rattle.std.specs.Prelude.{◌≡◌, refl, Bool, true, false, cond, List, [], ◌∷◌, ℕ, zero, suc, ◌+◌, ◌-◌, ◌≤◌, ◌<◌, leb, ℤ, length, get_or, Option, None, Some}
use Rattle.std.proofs.Common.{sym, ap, ap₂, ◌∙◌, not-suc-le-zero, arith, eqb-true, leb-true, leb-false}
use Rattle.std.proofs.lemmas.Option.{none-some}
use Rattle.formula.specs.Formula.{models}
use Rattle.wish.specs.Wish.{free_byte, is_wish, wished_value, cost}
use Rattle.wish.specs.Laws.{cost_free, cost_wished, cost-unassigned}
use Rattle.distance.specs.Distance.{disagreement}
use Rattle.choices.specs.Choices.{Model}
use Rattle.walk.specs.State.{State, is_unset, unassigned, assign, fits}
use Rattle.walk.specs.Branching.{fewest, branching_variable}
use Rattle.walk.specs.Walk.{Answer, Outcome, dead_end, is_dead_end, complete_byte, complete, is_exhausted, first_value, fork_on}
use Rattle.walk.specs.Extension.{Extends}
use Rattle.walk.proofs.Extension.{extends_trans}
use Rattle.walk.proofs.Completion.{complete_choice, complete_extends}
use Rattle.walk.proofs.BranchingLaws.{undecided_open, branching_open, branching_sound}
use Rattle.walk.proofs.WalkLaws.{dead_causes, exhausted_none, first_bit, branch_state, branch_fewer, fork_same}
use Rattle.walk.specs.Correctness.{Right}
use Rattle.walk.proofs.Correctness.{after-fork}
use Rattle.nearest_cores.specs.Narrow.{narrow}
use Rattle.nearest_cores.specs.Search.{completed_by, onward, search_by, search_from}
use Rattle.nearest_cores.specs.NarrowRight.{NarrowedTo, Narrowed}
use Rattle.nearest_cores.proofs.NarrowRight.{narrow_smaller, narrow_right}
use Rattle.nearest_cores.specs.SearchRight.{Guides}

-- what it asks breaks no wish
guide_free : (w g : ℕ) → (is_wish w ≡ true → wished_value g ≡ wished_value w) → cost w (wished_value g) ≡ 0
guide_free w g h = go (is_wish w) refl
  where
    go : (t : Bool) → is_wish w ≡ t → cost w (wished_value g) ≡ 0
    go true e = ap (cost w) (h e) ∙ cost_wished w
    go false e = cost_free w (wished_value g) e

guide_byte : (w g b : ℕ) → (is_wish w ≡ true → wished_value g ≡ wished_value w) → cost w (complete_byte g b) ≡ cost w b
guide_byte w g b h = go (is_unset b) refl
  where
    go : (t : Bool) → is_unset b ≡ t → cost w (cond t (wished_value g) b) ≡ cost w b
    go true e = guide_free w g h ∙ sym (cost-unassigned w) ∙ ap (cost w) (sym (eqb-true b 2 e))
    go false e = refl

guide_costs : (row guide a : List ℕ) → ((i : ℕ) → i < length a → is_wish (get_or row i 2) ≡ true → wished_value (get_or guide i 2) ≡ wished_value (get_or row i 2))
    → disagreement row (complete guide a) ≡ disagreement row a
guide_costs [] guide a h = refl
guide_costs (w ∷ row) guide [] h = refl
guide_costs (w ∷ row) [] (b ∷ a) h = ap₂ ◌+◌ (guide_byte w free_byte b (h 0 (omega arith))) (guide_costs row [] a (λ i l. h (suc i) (omega arith)))
guide_costs (w ∷ row) (g ∷ guide) (b ∷ a) h = ap₂ ◌+◌ (guide_byte w g b (h 0 (omega arith))) (guide_costs row guide a (λ i l. h (suc i) (omega arith)))

-- the completion by a guide breaks the wishes that the state breaks
pub guide_cost : {n : ℕ} {row guide a : List ℕ} → Guides n row guide → State n a → disagreement row (complete guide a) ≡ disagreement row a
guide_cost {n} {row} {guide} {a} g s = guide_costs row guide a (λ i l. g.asks (suc i) (omega arith) (omega (arith, s.size)))

module _ (n : ℕ) (f : List (List ℤ)) (fit : fits n f ≡ true) (row guide : List ℕ) (d : ℕ) where
  -- two searches that agree on smaller states agree after a fork
  onward_same : (s t : List ℕ → Outcome) (a : List ℕ) → ((b : List ℕ) → State n b → unassigned b < unassigned a → s b ≡ t b)
      → (o : Option (List ℕ)) → ((b : List ℕ) → o ≡ Some b → State n b × (unassigned b ≤ unassigned a)) → onward f row guide d s o ≡ onward f row guide d t o
  onward_same s t a same None h = refl
  onward_same s t a same (Some b) h =
      let k = h b refl in
      ap (λ (r : Outcome). cond (models (complete guide b) f) (completed_by row guide b) (cond (is_exhausted f row d b) dead_end r))
      (fork_same k.0 f row s t (λ c q l. same c q (omega (arith, k.1))) (fewest row b f) (branching_variable row b f) refl)

  -- any two depths that are enough give the same outcome
  pub search_enough : (j k : ℕ) (a : List ℕ) → State n a → unassigned a < j → unassigned a < k → search_by j f row guide d a ≡ search_by k f row guide d a
  search_enough zero k a h p q = absurd (not-suc-le-zero p)
  search_enough (suc j) zero a h p q = absurd (not-suc-le-zero q)
  search_enough (suc j) (suc k) a h p q =
      onward_same (search_by j f row guide d) (search_by k f row guide d) a (λ b s l. search_enough j k b s (omega arith) (omega arith)) (narrow f row d a)
      (narrow_smaller n f fit row d a h)

  -- the search from a state: narrow, then steps 2 to 5, where a fork searches on from each of its two states
  pub search_step : (a : List ℕ) → State n a → search_from f row guide d a ≡ onward f row guide d (search_from f row guide d) (narrow f row d a)
  search_step a h =
      onward_same (search_by (unassigned a) f row guide d) (search_from f row guide d) a
      (λ b s l. search_enough (unassigned a) (suc (unassigned b)) b s (omega arith) (omega arith)) (narrow f row d a) (narrow_smaller n f fit row d a h)

module _ (n : ℕ) (f : List (List ℤ)) (fit : fits n f ≡ true) (row guide : List ℕ) (g : Guides n row guide) (d : ℕ) where
  -- what is right of the narrowed state is right of the state
  after_narrowing : (a b : List ℕ) → NarrowedTo n f row d a b → (o : Option Answer) → Right n f row d b o → Right n f row d a o
  after_narrowing a b k None p = λ c m e. go c m e (leb (disagreement row c) d) refl
    where
      go : (c : List ℕ) → Model n f c → Extends c a → (t : Bool) → leb (disagreement row c) d ≡ t → d < disagreement row c
      go c m e true q = p c m (k.keeps c m e (leb-true (disagreement row c) d q))
      go c m e false q = leb-false (disagreement row c) d q
  after_narrowing a b k (Some x) p = (p.0, extends_trans p.1 k.extends)

  of_guide : (b : List ℕ) → State n b → is_dead_end f row d b ≡ false → models (complete guide b) f ≡ true → Right n f row d b (completed_by row guide b).answer
  of_guide b s e t = (
    record { model = record { choice = complete_choice guide s; satisfies = t }; own_count = guide_cost g s; limited = (dead_causes f row d b e).1 },
    complete_extends guide b,
  )

  -- steps 2 to 5 at a narrowed state, where the search goes on as `try` says
  of_narrowed : (try : List ℕ → Outcome) (b : List ℕ) → State n b → is_dead_end f row d b ≡ false
      → ((c : List ℕ) → State n c → unassigned c < unassigned b → Right n f row d c (try c).answer) → Right n f row d b (onward f row guide d try (Some b)).answer
  of_narrowed try b s alive ih = meets (models (complete guide b) f) refl
    where
      forks : models (complete guide b) f ≡ false → (o : Option ℕ) → branching_variable row b f ≡ o → Right n f row d b (fork_on try row b (fewest row b f) o).answer
      forks t None e =
          let r = branching_open s row f fit (dead_causes f row d b alive).0 (undecided_open guide b f t) in
          absurd (none-some r.0 (sym (sym r.1 ∙ e)))
      forks t (Some v) e =
          let k = branching_sound s row f e in
          let x : ℕ = first_value row (fewest row b f) v in
          let l : x < 2 = first_bit row (fewest row b f) v in
          let m : 1 - x < 2 = omega arith in
          after-fork n f fit row d b v x k l (try (assign b v x)).answer (try (assign b v (1 - x))).answer
          (ih (assign b v x) (branch_state s v x l) (branch_fewer s v x k l))
          (ih (assign b v (1 - x)) (branch_state s v (1 - x) m) (branch_fewer s v (1 - x) k m))

      exhausts : models (complete guide b) f ≡ false → (t : Bool) → is_exhausted f row d b ≡ t
          → Right n f row d b (cond t dead_end (fork_on try row b (fewest row b f) (branching_variable row b f))).answer
      exhausts p true e = λ c m h. exhausted_none s h f fit row d e m.satisfies
      exhausts p false e = forks p (branching_variable row b f) refl

      meets : (t : Bool) → models (complete guide b) f ≡ t
          → Right n f row d b (cond t (completed_by row guide b) (cond (is_exhausted f row d b) dead_end (fork_on try row b (fewest row b f) (branching_variable row b f)))).answer
      meets true e = of_guide b s alive e
      meets false e = exhausts e (is_exhausted f row d b) refl

  by_depth : (k : ℕ) (a : List ℕ) → State n a → unassigned a < k → Right n f row d a (search_by k f row guide d a).answer
  by_depth zero a s l = absurd (not-suc-le-zero l)
  by_depth (suc k) a s l = go (λ c q r. by_depth k c q r) (narrow f row d a) (narrow_right n f fit row d a s)
    where
      go : ((c : List ℕ) → State n c → unassigned c < k → Right n f row d c (search_by k f row guide d c).answer)
          → (o : Option (List ℕ)) → Narrowed n f row d a o → Right n f row d a (onward f row guide d (search_by k f row guide d) o).answer
      go ih None p = p
      go ih (Some b) p =
          after_narrowing a b p (onward f row guide d (search_by k f row guide d) (Some b)).answer
          (of_narrowed (search_by k f row guide d) b p.state p.alive (λ c q r. ih c q (omega (arith, p.fewer))))

  -- The search from any state is right.
  pub search_right : (a : List ℕ) → State n a → Right n f row d a (search_from f row guide d a).answer
  search_right a s = by_depth (suc (unassigned a)) a s (omega arith)
