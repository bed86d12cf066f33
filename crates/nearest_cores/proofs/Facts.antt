-- What follows from the definitions of specs/Facts.antt.
use Rattle.std.specs.Prelude.{◌≡◌, refl, Bool, true, false, ◌||◌, ℕ, ◌+◌, ◌≤◌, ◌<◌, ℤ}
use Rattle.std.proofs.Common.{sym, subst, ◌∙◌, true≢false, zero-le, arith, ltb-true}
use mathlib.Core.List.{List, [], ◌∷◌, ◌++◌, Memᴰ}
use Rattle.literal.specs.Literal.{value}
use Rattle.wish.specs.Wish.{is_wish, wished_value, weight, cost, breaks}
use Rattle.wish.specs.Laws.{weight_free, cost_broken, cost_kept, cost_unwished, kept_wished}
use Rattle.distance.specs.Distance.{disagreement}
use Rattle.choices.specs.Choices.{Choice, Model}
use Rattle.choices.proofs.Choices.{choice_value}
use Rattle.walk.specs.State.{State, assign}
use Rattle.walk.specs.Extension.{Extends}
use Rattle.walk.proofs.Extension.{disagreement_grows}
use Rattle.walk.proofs.Assignment.{assign_other, extends_assign, assign_state, assign-cost}
use Rattle.nearest_cores.specs.Cores.{least_weight}
use Rattle.nearest_cores.specs.Facts.{Core, Cores, Disjoint, Distinct, Unset, breaks_one, cost_all, least_sum, variables_of}

-- a broken wish costs its weight
broken_cost : (w b : ℕ) → breaks w b ≡ true → cost w b ≡ weight w
broken_cost w b h = cost_broken w b (cost_unwished w b (ltb-true 0 (cost w b) h))

-- wishes of which a choice breaks one cost it at least their least weight
pub core_costs : (row c vs : List ℕ) → breaks_one row c vs ≡ true → least_weight row vs ≤ cost_all row c vs
core_costs row c [] h = absurd (true≢false (sym h))
core_costs row c (v ∷ vs) h = go (breaks (value row v) (value c v)) refl h (λ q. core_costs row c vs q)
  where
    go : (t : Bool) → breaks (value row v) (value c v) ≡ t → t || breaks_one row c vs ≡ true
        → (breaks_one row c vs ≡ true → least_weight row vs ≤ cost_all row c vs) → least_weight row (v ∷ vs) ≤ cost_all row c (v ∷ vs)
    go true e q ih = omega (arith, broken_cost (value row v) (value c v) e)
    go false e q ih = omega (arith, ih q)

-- A core costs at least its least weight: every model that extends the state breaks so much of it.
pub core_least : (n : ℕ) (f : List (List ℤ)) (row a vs : List ℕ) → Core n f row a vs → (c : List ℕ) → Model n f c → Extends c a → least_weight row vs ≤ cost_all row c vs
core_least n f row a vs h c m e = core_costs row c vs (h c m e)

-- two lists of variables
cost-append : (row c vs us : List ℕ) → cost_all row c (vs ++ us) ≡ cost_all row c vs + cost_all row c us
cost-append row c [] us = omega arith
cost-append row c (v ∷ vs) us = omega (arith, cost-append row c vs us)

-- the cores cost at least the sum of their least weights
cores_cost : (n : ℕ) (f : List (List ℤ)) (row a : List ℕ) (cores : List (List ℕ)) → ((vs : List ℕ) → Memᴰ vs cores → Core n f row a vs)
    → (c : List ℕ) → Model n f c → Extends c a → least_sum row cores ≤ cost_all row c (variables_of cores)
cores_cost n f row a [] each c m e = zero-le
cores_cost n f row a (vs ∷ cores) each c m e =
    let here : least_weight row vs ≤ cost_all row c vs = core_least n f row a vs (each vs (Memᴰ.head refl)) c m e in
    let rest : least_sum row cores ≤ cost_all row c (variables_of cores) = cores_cost n f row a cores (λ us q. each us (Memᴰ.tail q)) c m e in
    omega (arith, cost-append row c vs (variables_of cores))

-- what a choice breaks of distinct unassigned variables adds to what the state breaks
pub costs_add : {n : ℕ} {c : List ℕ} → Choice n c → (row vs a : List ℕ) → State n a → Extends c a → Distinct vs → ((v : ℕ) → Memᴰ v vs → Unset n a v)
    → disagreement row a + cost_all row c vs ≤ disagreement row c
costs_add {n} {c} h row [] a s e apart unset = omega (arith, disagreement_grows row c a e)
costs_add {n} {c} h row (v ∷ vs) a s e apart unset =
    let u : Unset n a v = unset v (Memᴰ.head refl) in
    let bit : value c v < 2 = choice_value n c h v u.above u.up_to in
    let other : (w : ℕ) → Memᴰ w vs → w ≡ v → ⊥ = λ w m q. apart.0 (subst (λ (x : ℕ). Memᴰ x vs) q m) in
    let still : (w : ℕ) → Memᴰ w vs → Unset n (assign a v (value c v)) w
    = λ w m. (let r = unset w (Memᴰ.tail m) in record { above = r.above; up_to = r.up_to; unset = assign_other a v (value c v) w (other w m) ∙ r.unset }) in
    let rest = costs_add h row vs (assign a v (value c v)) (assign_state s v (value c v) (omega arith)) (extends_assign e v (value c v) refl) apart.1 still in
    omega (arith, rest, assign-cost s row v (value c v) u.above u.up_to u.unset)

-- Disjoint cores add to what the state breaks.
pub cores_add : {n : ℕ} {f : List (List ℤ)} {row a : List ℕ} {cores : List (List ℕ)} → State n a → Cores n f row a cores → (c : List ℕ) → Model n f c → Extends c a
    → disagreement row a + least_sum row cores ≤ disagreement row c
cores_add {n} {f} {row} {a} {cores} s k c m e =
    omega (arith, cores_cost n f row a cores k.each c m e, costs_add m.choice row (variables_of cores) a s e k.disjoint.distinct k.disjoint.open_variables)

-- a choice that does not break a wish has the wished value
pub kept_value : {n : ℕ} {c : List ℕ} → Choice n c → (row : List ℕ) (v : ℕ) → 0 < v → v ≤ n → is_wish (value row v) ≡ true → cost (value row v) (value c v) ≡ 0
    → value c v ≡ wished_value (value row v)
kept_value {n} {c} h row v l u w z = kept_wished (value row v) (value c v) w (choice_value n c h v l u) z

-- what weighs something is a wish, and what costs less than its weight costs nothing
heavy_wish : (w : ℕ) → 0 < weight w → is_wish w ≡ true
heavy_wish w h = go (is_wish w) refl
  where
    go : (t : Bool) → is_wish w ≡ t → t ≡ true
    go true e = refl
    go false e = absurd (omega (arith, weight_free w e))

cheap_kept : (w b : ℕ) → cost w b < weight w → cost w b ≡ 0
cheap_kept w b h = cost_kept w b (λ e. omega (arith, cost_broken w b e))

-- A wish that stands in no core, and whose weight is more than is left of d besides the cores, must be kept: every model within d that extends the state has the wished value.
pub must_keep_lem : {n : ℕ} {f : List (List ℤ)} {row a : List ℕ} {cores : List (List ℕ)} → State n a → Cores n f row a cores
    → (v : ℕ) → Unset n a v → (Memᴰ v (variables_of cores) → ⊥) → (d : ℕ) → d < disagreement row a + least_sum row cores + weight (value row v)
    → (c : List ℕ) → Model n f c → Extends c a → disagreement row c ≤ d → value c v ≡ wished_value (value row v)
must_keep_lem {n} {f} {row} {a} {cores} s k v u apart d dear c m e within =
    kept_value m.choice row v u.above u.up_to (heavy_wish (value row v) (omega (arith, cores_add s k c m e))) (cheap_kept (value row v) (value c v) cheap)
  where
    unset : (w : ℕ) → Memᴰ w (v ∷ variables_of cores) → Unset n a w
    unset w (Memᴰ.head q) = subst (Unset n a) (sym q) u
    unset w (Memᴰ.tail q) = k.disjoint.open_variables w q

    together : disagreement row a + cost_all row c (v ∷ variables_of cores) ≤ disagreement row c
    together = costs_add m.choice row (v ∷ variables_of cores) a s e (apart, k.disjoint.distinct) unset

    cheap : cost (value row v) (value c v) < weight (value row v)
    cheap = omega (arith, together, cores_cost n f row a cores k.each c m e)
