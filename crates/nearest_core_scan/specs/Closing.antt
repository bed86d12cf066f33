-- A core is closed: what the code does to the values, to the variables that are taken and to the bound.
use Rattle.std.specs.Prelude.{◌≡◌, refl, Bool, true, false, List, [], ◌∷◌, ◌++◌, ℕ, zero, suc, ◌+◌, ◌≤◌, ◌<◌, ltb, length, get_or, set, take}
use Rattle.std.proofs.Common.{ap, subst, ◌∙◌, not-suc-le-zero, add-one, arith, length-append, take-suc-set, ltb-true, ltb-false}
use Rattle.std.proofs.Math.ListN.{get_or-append}
use Rattle.std.proofs.Math.Seq.{slice, get_or-append_seam}
use Rattle.walk_tally.specs.declared.Tally.{Tally}
use Rattle.walk_propagation.specs.Trail.{undone}
use Rattle.nearest_cores.specs.Cores.{least_weight, take_each}
use Rattle.nearest_core_scan.specs.declared.progress.Progress.{Progress}

-- every number of a list is that of one of n variables
pub record Among (n : ℕ) (vs : List ℕ) : Type 0 where
  pub inside : (j : ℕ) → j < length vs → (0 < get_or vs j 0) × (get_or vs j 0 ≤ n)

-- A core is closed at the state with the tally base, from the values a, which have so many variables on the trail.
pub record Closed (row : List ℕ) (base : Tally) (to bound : ℕ) (core trail a taken : List ℕ) (r : Progress) (a' taken' : List ℕ) : Type 0 where
  pub result : r ≡ record { tally = base; assumed = 0; bound = bound + least_weight row core }
  pub values : a' ≡ undone (slice base.settled to trail) a
  pub takes : taken' ≡ take_each taken core

-- What is assumed stays so where nothing is broken, the number 0; else it is a core with the wish that is broken.
abbrev pub BrokenThen : List ℕ → Tally → ℕ → ℕ → Tally → List ℕ → List ℕ → List ℕ → List ℕ → Progress → List ℕ → List ℕ → List ℕ → ℕ → Type 0
BrokenThen row base count bound t trail a taken assumed r a' taken' assumed' zero =
    (r ≡ record { tally = t; assumed = count; bound = bound }) × (a' ≡ a) × (taken' ≡ taken) × (assumed' ≡ assumed)
BrokenThen row base count bound t trail a taken assumed r a' taken' assumed' (suc w) = Closed row base t.settled bound (take count assumed ++ (suc w ∷ [])) trail a taken r a' taken'

-- a wish more is assumed: the table has it at the end
pub assumed_more : (assumed : List ℕ) (k v : ℕ) → k < length assumed → take (k + 1) (set assumed k v) ≡ take k assumed ++ (v ∷ [])
assumed_more assumed k v h = ap (λ (m : ℕ). take m (set assumed k v)) (add-one k) ∙ take-suc-set assumed k v h

pub among_none : (n : ℕ) → Among n []
among_none n = record { inside = λ j h. absurd (not-suc-le-zero h) }

pub among_more : {n : ℕ} {vs : List ℕ} → Among n vs → (v : ℕ) → 0 < v → v ≤ n → Among n (vs ++ (v ∷ []))
among_more {n} {vs} h v low high = record { inside = λ j l. at j l (ltb j (length vs)) refl }
  where
    at : (j : ℕ) → j < length (vs ++ (v ∷ [])) → (t : Bool) → ltb j (length vs) ≡ t → (0 < get_or (vs ++ (v ∷ [])) j 0) × (get_or (vs ++ (v ∷ [])) j 0 ≤ n)
    at j l true e = rw (get_or-append vs (v ∷ []) 0 j (ltb-true j (length vs) e)) (h.inside j (ltb-true j (length vs) e))
    at j l false e =
        let last : j ≡ length vs = omega (arith, ltb-false j (length vs) e, length-append vs (v ∷ [])) in
        rw (last, get_or-append_seam vs v [] 0) (low, high)

-- by the number of the wish that is broken
module _ (row : List ℕ) (base : Tally) (count bound : ℕ) (t : Tally) (trail a taken assumed : List ℕ) (r : Progress) (a' taken' assumed' : List ℕ) where
  pub broken_none : (w : ℕ) → w ≡ 0 → (r ≡ record { tally = t; assumed = count; bound = bound }) × (a' ≡ a) × (taken' ≡ taken) × (assumed' ≡ assumed)
      → BrokenThen row base count bound t trail a taken assumed r a' taken' assumed' w
  broken_none zero e h = h
  broken_none (suc w) e h = absurd (omega arith)

  pub broken_closed : (x w : ℕ) → x ≡ w → (x ≡ 0 → ⊥) → count < length assumed → Closed row base t.settled bound (take (count + 1) (set assumed count x)) trail a taken r a' taken'
      → BrokenThen row base count bound t trail a taken assumed r a' taken' assumed' w
  broken_closed x zero q e l h = absurd (e q)
  broken_closed x (suc w) q e l h =
      subst (λ (core : List ℕ). Closed row base t.settled bound core trail a taken r a' taken') (assumed_more assumed count x l ∙ ap (λ (k : ℕ). take count assumed ++ (k ∷ [])) q) h
