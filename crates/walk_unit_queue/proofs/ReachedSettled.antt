-- Steps of unit propagation and where settling ends.
use Rattle.std.specs.Prelude.{◌≡◌, refl, ◌⊎◌, Bool, true, false, ◌||◌, List, ℕ, ltb, ℤ}
use Rattle.std.proofs.Common.{sym, ap, ◌∙◌, inl, inr, true≢false}
use Rattle.formula.specs.Formula.{any}
use Rattle.distance.specs.Distance.{disagreement}
use Rattle.walk.specs.State.{State, is_falsified, fits}
use Rattle.walk.specs.Propagation.{propagate}
use Rattle.walk.proofs.PropagationLaws.{propagate_extends}
use Rattle.walk.specs.Walk.{is_dead_end}
use Rattle.walk.proofs.WalkLaws.{dead_kept, dead_causes}
use Rattle.walk_unit_queue.specs.Steps.{Steps, Quiet}
use Rattle.walk_unit_queue.proofs.Steps.{propagate_steps, propagate_ends}
use Rattle.walk_unit_queue.proofs.Order.{steps_within, order_irrelevant}

-- With the limit d on broken wishes: what steps from a state say of where settling in document 01's order ends. A dead end on the way is one there; and a state without a unit clause that is no dead end is the settled state.
module _ (n : ℕ) (f : List (List ℤ)) (fit : fits n f ≡ true) (row : List ℕ) (d : ℕ) (a : List ℕ) (h : State n a) (xs : List ℤ) (b : List ℕ) (steps : Steps f a xs b) where
  pub reached_dead : is_dead_end f row d b ≡ true → is_dead_end f row d (propagate f a) ≡ true
  reached_dead e = go (any (is_falsified (propagate f a)) f) refl
    where
      go : (t : Bool) → any (is_falsified (propagate f a)) f ≡ t → is_dead_end f row d (propagate f a) ≡ true
      go true q = ap (λ (t : Bool). t || ltb d (disagreement row (propagate f a))) q
      go false q = dead_kept (steps_within (propagate_ends n f fit h) q a xs steps (propagate_extends f a)) f row d e

  pub reached_settled : Quiet f b → is_dead_end f row d b ≡ false → b ≡ propagate f a
  reached_settled quiet e = go (order_irrelevant n f a h xs (propagate_steps f a).0 b (propagate f a) steps (propagate_steps f a).1 quiet (propagate_ends n f fit h))
    where
      go : ((any (is_falsified b) f ≡ true) × (any (is_falsified (propagate f a)) f ≡ true)) ⊎ (b ≡ propagate f a) → b ≡ propagate f a
      go (inl r) = absurd (true≢false (sym r.0 ∙ (dead_causes f row d b e).0))
      go (inr r) = r
