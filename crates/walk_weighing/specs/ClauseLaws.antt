-- What a clause weighs, and whether it gives candidates: a satisfied one, and an open one with so many unassigned literals.
use Rattle.std.specs.Prelude.{◌≡◌, refl, Bool, true, false, cond, not, ◌&&◌, ◌||◌, List, [], ◌∷◌, ℕ, zero, suc, ◌+◌, ◌-◌, ◌*◌, ◌%◌, ◌^◌, min, ◌≤◌, ◌<◌, eqb, ℤ, length, get_or, Option, None, Some}
use Rattle.std.proofs.Common.{sym, ap, ap₂, ◌∙◌, pow-suc, arith, lit<, shl_exact, eq-eqb, ne_eqb}
use Rattle.std.proofs.Math.Bool.{and-true, and-false, or-false}
use Rattle.std.proofs.Math.Nat.{pow-le-pow_right}
use Rattle.literal.specs.Slots.{is_at}
use Rattle.formula.specs.Formula.{any, all, satisfied}
use Rattle.walk.specs.State.{unassigned_in, is_open}
use Rattle.walk.specs.Branching.{assigned_or_against, is_opposed, is_source, mentions, offers, clause_weight}
use Rattle.walk_weighing.specs.Weights.{is_marked, weight_at, weights_of, marks_of, Weighed}

-- a power of 4 is a power of 2 with twice the exponent
even_power : (j : ℕ) → 2 ^ (j + j) ≡ 4 ^ j
even_power zero = refl
even_power (suc j) =
    let both : suc j + suc j ≡ suc (suc (j + j)) = omega arith in
    rw both (omega (arith, pow-suc 2 (suc (j + j)), pow-suc 2 (j + j), pow-suc 4 j, even_power j))

-- the power by a shift to the left, which loses no bit of 64
pub power_shifted : (k : ℕ) → k < 10 → 1 * 2 ^ (20 - 2 * k) % 2 ^ 64 ≡ 4 ^ (10 - min k 10)
power_shifted k h =
    let exponent : 20 - 2 * k ≡ (10 - min k 10) + (10 - min k 10) = omega arith in
    let exact : 1 * 2 ^ (20 - 2 * k) % 2 ^ 64 ≡ 1 * 2 ^ (20 - 2 * k) = shl_exact 1 (20 - 2 * k) 64 (lit< tt) (omega arith) in
    exact ∙ ap (λ (i : ℕ). 1 * 2 ^ i) exponent ∙ omega (arith, even_power (10 - min k 10))

pub power_past : (k : ℕ) → 10 ≤ k → 4 ^ (10 - min k 10) ≡ 1
power_past k h = let e : 10 - min k 10 ≡ 0 = omega arith in ap (λ (j : ℕ). 4 ^ j) e

pub power_top : (k : ℕ) → 4 ^ (10 - min k 10) ≤ 4 ^ 10
power_top k = pow-le-pow_right {n = 4} (lit< tt) {i = 10 - min k 10} {j = 10} (omega arith)

-- its weight, and the most that it can be
module _ (a : List ℕ) (c : List ℤ) where
  pub open_weight : (k : ℕ) → satisfied a c ≡ false → unassigned_in a c ≡ k → clause_weight a c ≡ 4 ^ (10 - min k 10)
  open_weight k s e = ap₂ (λ (b : Bool) (j : ℕ). cond (not b) (4 ^ (10 - min j 10)) 0) s e

  pub satisfied-weight : satisfied a c ≡ true → clause_weight a c ≡ 0
  satisfied-weight s = rw s

  pub weight_top : clause_weight a c ≤ 4 ^ 10
  weight_top = go (is_open a c)
    where
      go : (b : Bool) → cond b (4 ^ (10 - min (unassigned_in a c) 10)) 0 ≤ 4 ^ 10
      go true = power_top (unassigned_in a c)
      go false = omega arith

-- the sum over a formula
pub weight-most : (a : List ℕ) (i : ℕ) (f : List (List ℤ)) → weight_at a i f ≤ 4 ^ 10 * length f
weight-most a i [] = omega arith
weight-most a i (c ∷ f) = omega (arith, weight-most a i f, most (any (is_at i) c))
  where
    most : (b : Bool) → cond b (clause_weight a c) 0 ≤ 4 ^ 10
    most true = weight_top a c
    most false = omega arith

-- whether it gives candidates
module _ (row a : List ℕ) (c : List ℤ) where
  pub open_source : satisfied a c ≡ false → is_source row a None c ≡ true
  open_source s = ap not s

  pub size_source : (k : ℕ) → unassigned_in a c ≡ k → is_source row a (Some k) c ≡ is_opposed row a c
  size_source k e = ap (λ (b : Bool). is_opposed row a c && b) (eq-eqb (unassigned_in a c) k e) ∙ and-true (is_opposed row a c)

  pub other_source : (k : ℕ) → (unassigned_in a c ≡ k → ⊥) → is_source row a (Some k) c ≡ false
  other_source k e = ap (λ (b : Bool). is_opposed row a c && b) (ne_eqb (unassigned_in a c) k e) ∙ and-false (is_opposed row a c)

  pub satisfied_source : satisfied a c ≡ true → (size : Option ℕ) → is_source row a size c ≡ false
  satisfied_source s None = ap not s
  satisfied_source s (Some k) = ap (λ (b : Bool). (not b && all (assigned_or_against row a) c) && eqb (unassigned_in a c) k) s

  -- the marks that it leaves, by r, the verdict whether it gives candidates
  pub marked_source : (size : Option ℕ) (r : Bool) → r ≡ is_source row a size c → r ≡ true → (marks marks' : List ℕ)
      → ((v : ℕ) → is_marked marks' v ≡ is_marked marks v || mentions v c) → (v : ℕ) → is_marked marks' v ≡ is_marked marks v || offers row a size v c
  marked_source size r e t marks marks' h v = h v ∙ ap (λ (b : Bool). is_marked marks v || (b && mentions v c)) (sym t ∙ e)

  pub marked_other : (size : Option ℕ) (r : Bool) → r ≡ is_source row a size c → r ≡ false → (marks : List ℕ)
      → (v : ℕ) → is_marked marks v ≡ is_marked marks v || offers row a size v c
  marked_other size r e t marks v = sym (ap (λ (b : Bool). is_marked marks v || (b && mentions v c)) (sym e ∙ t) ∙ or-false (is_marked marks v))

  -- what weighing it does: a satisfied clause changes nothing
  pub weighed_satisfied : satisfied a c ≡ true → (size : Option ℕ) (weights : List ℕ) → Weighed row a size c weights weights
  weighed_satisfied s size weights =
      record {
        sums = λ i. omega (arith, nothing (any (is_at i) c));
        marked = marked_other size (is_source row a size c) refl (satisfied_source s size) (marks_of (length a) weights);
      }
    where
      nothing : (b : Bool) → cond b (clause_weight a c) 0 ≡ 0
      nothing true = satisfied-weight a c s
      nothing false = refl

  -- nor is it opposed
  pub satisfied_unopposed : satisfied a c ≡ true → is_opposed row a c ≡ false
  satisfied_unopposed s = ap (λ (b : Bool). not b && all (assigned_or_against row a) c) s

  -- an open one adds its weight, and its marks if it gives candidates
  pub weighed_open : (k w : ℕ) → satisfied a c ≡ false → unassigned_in a c ≡ k → w ≡ 4 ^ (10 - min k 10) → (size : Option ℕ) (weights weights' : List ℕ)
      → ((i : ℕ) → get_or (weights_of (length a) weights') i 0 ≡ get_or (weights_of (length a) weights) i 0 + cond (any (is_at i) c) w 0)
      → ((v : ℕ) → is_marked (marks_of (length a) weights') v ≡ is_marked (marks_of (length a) weights) v || offers row a size v c)
      → Weighed row a size c weights weights'
  weighed_open k w s e q size weights weights' h g =
      let weighs : w ≡ clause_weight a c = q ∙ sym (open_weight a c k s e) in
      record { sums = λ i. h i ∙ ap (λ (j : ℕ). get_or (weights_of (length a) weights) i 0 + cond (any (is_at i) c) j 0) weighs; marked = g }
