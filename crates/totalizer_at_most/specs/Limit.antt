-- The limit clause, and how long a list the clauses make.
use Rattle.std.specs.Prelude.{◌≡◌, refl, cond, List, [], ◌∷◌, ℕ, suc, ◌+◌, ◌*◌, ◌≤◌, ◌<◌, ltb, ℤ, pos, neg_ℤ, length, replicate}
use Rattle.std.proofs.Common.{ap, ap₂, ◌∙◌, mul-le-mul, le_refl, add-one, arith, length-append, lt-ltb, le-ltb}
use Rattle.std.proofs.lemmas.List.{length-replicate}
use Rattle.limits.specs.Limits.{max_variables, max_wishes}
use Rattle.rule_list_soundness.specs.Flat.{flat}
use Rattle.rule_list_soundness.specs.Laws.{length-flat, flat_append}
use Rattle.writing.specs.Wrote.{Wrote, wrote_as}
use Rattle.totalizer.specs.Totalizer.{tree, size, added, output, totalizer, limit, at_most}
use Rattle.totalizer.proofs.Trees.{tree-size}
use Rattle.totalizer.proofs.Sizes.{totalizer-length, totalizer-literals}
use Rattle.totalizer_adder.specs.Adder.{outputs, reach}
use Rattle.totalizer_adder.specs.Laws.{room_first, room_next, wrote_both}
use Rattle.totalizer_groups.specs.declared.Group.{Group}
use Rattle.totalizer_groups.specs.Groups.{LeavesFit, Written}
use Rattle.totalizer_groups.specs.Laws.{reach-most, added_bound}

-- "if d < m, one rule -s(d+1)", of a group with the outputs s1..sm
abbrev pub limiting : (ℕ → ℤ) → ℕ → ℕ → List (List ℤ)
limiting s m d = cond (ltb d m) ((neg_ℤ (s (suc d)) ∷ []) ∷ []) []

module _ (s : ℕ → ℤ) (m d : ℕ) where
  pub limiting_none : m ≤ d → [] ≡ flat (limiting s m d)
  limiting_none h = rw (le-ltb d m h)

  pub limiting_one : d < m → neg_ℤ (s (d + 1)) ∷ pos 0 ∷ [] ≡ flat (limiting s m d)
  limiting_one h = rw (lt-ltb d m h, add-one d)

-- the clauses of m leaves make a list of 4 m² + 6 added - 4 m elements
totalizer-flat : (n : ℕ) (l : List ℤ) → length (flat (totalizer n (tree l))) + 4 * length l ≡ 4 * (length l * length l) + 6 * added (tree l)
totalizer-flat n [] = refl
totalizer-flat n (x ∷ l) =
    let m : size (tree (x ∷ l)) ≡ length (x ∷ l) = tree-size (x ∷ l) (omega arith) in
    let squares : size (tree (x ∷ l)) * size (tree (x ∷ l)) ≡ length (x ∷ l) * length (x ∷ l) = ap₂ ◌*◌ m m in
    omega (
      arith,
      length-flat (totalizer n (tree (x ∷ l))),
      totalizer-length n (tree (x ∷ l)),
      totalizer-literals n (tree (x ∷ l)),
    )

-- so do those of any m leaves, if r is what they add
module _ (n : ℕ) (l : List ℤ) (m d r : ℕ) (few : length l ≡ m) (adds : r ≡ added (tree l)) where
  own : length (flat (totalizer n (tree l))) + 4 * m ≡ 4 * (m * m) + 6 * r
  own = rw (← few, adds) (totalizer-flat n l)

  own_most : 4 * m ≤ 4 * (m * m) + 6 * r
  own_most = omega (arith, own)

  whole : length (flat (at_most n l d)) ≡ length (flat (totalizer n (tree l))) + length (flat (limiting (output n (tree l)) m d))
  whole =
      ap length (flat_append (totalizer n (tree l)) (limiting (output n (tree l)) (length l) d))
      ∙ length-append (flat (totalizer n (tree l))) (flat (limiting (output n (tree l)) (length l) d))
      ∙ ap (λ (k : ℕ). length (flat (totalizer n (tree l))) + length (flat (limiting (output n (tree l)) k d))) few

  pub length_limited : d < m → length (flat (at_most n l d)) + 4 * m ≡ 4 * (m * m) + 6 * r + 2
  length_limited h = omega (arith, own, whole, ap length (limiting_one (output n (tree l)) m d h))

  pub length_unlimited : m ≤ d → length (flat (at_most n l d)) + 4 * m ≡ 4 * (m * m) + 6 * r
  length_unlimited h = omega (arith, own, whole, ap length (limiting_none (output n (tree l)) m d h))

-- what at most 64 leaves come to
pub sizes : (m r : ℕ) → m ≤ max_wishes → ((l : List ℤ) → length l ≡ m → r ≡ added (tree l)) → (m * m ≤ 4096) × (r ≤ 384) × (4 * m ≤ 4 * (m * m) + 6 * r)
sizes m r h adds =
    let l : List ℤ = replicate m (pos 0) in
    let long : length l ≡ m = length-replicate m (pos 0) in
    (mul-le-mul h h, omega (arith, added_bound m r h adds), own_most 0 l m 0 r long (adds l long))

-- the clauses of a group, and then its limit clause
module _ (n d : ℕ) (l out : List ℤ) (from : ℕ) (within : LeavesFit l) (small : n + added (tree l) ≤ max_variables) (room : from + length (flat (at_most n l d)) ≤ length out) where
  pub group_asks : LeavesFit l × (n + added (tree l) ≤ max_variables) × (from + length (flat (totalizer n (tree l))) ≤ length out)
  group_asks = (within, small, room_first (totalizer n (tree l)) (limit n l d) out from room)

  module _ {m : List ℤ} {g : Group} (wrote : Written n l out from m g) where
    same : limiting (outputs g.outputs) (length l) d ≡ limit n l d
    same = ap (λ (s : ℕ → ℤ). limiting s (length l) d) wrote.literals

    pub limit-asks : (reach g.outputs (length l) ≤ max_variables) × (g.at + length (flat (limiting (outputs g.outputs) (length l) d)) ≤ length m)
    limit-asks = (
      reach-most n (length l) l g.outputs within small (le_refl (length l)) wrote.literals,
      rw same (room_next (totalizer n (tree l)) (limit n l d) wrote.clauses room),
    )

    pub wrote_at_most : {o : List ℤ} {j : ℕ} → Wrote (flat (limiting (outputs g.outputs) (length l) d)) m g.at o j → Wrote (flat (at_most n l d)) out from o j
    wrote_at_most last = wrote_both (totalizer n (tree l)) (limit n l d) wrote.clauses (wrote_as (ap flat same) last)
