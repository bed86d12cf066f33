-- The equations by which proofs tell whether a clause is opposed.
use Rattle.std.specs.Prelude.{◌≡◌, refl, Bool, true, false, not, ◌&&◌, ◌||◌, List, [], ◌∷◌, ℕ, ◌+◌, ℤ, drop}
use Rattle.std.proofs.Common.{sym, ap, ap₂, ◌∙◌}
use Rattle.literal.specs.Literal.{holds}
use Rattle.formula.specs.Formula.{any, all, clause_length, satisfied}
use Rattle.wish.specs.Wish.{is_against}
use Rattle.walk.specs.State.{is_unassigned}
use Rattle.walk.specs.Branching.{assigned_or_against, is_opposed}
use Rattle.walk_clause_standing.specs.Clause.{clause_at, Tested}
use Rattle.walk_opposed.specs.Opposes.{opposes, spares}

-- a literal that holds, one that is unassigned, and one that is assigned and does not hold
pub opposes-held : (row a : List ℕ) (x : ℤ) → holds a x ≡ true → opposes row a x ≡ false
opposes-held row a x h = rw h

pub opposes-unassigned : (row a : List ℕ) (x : ℤ) → holds a x ≡ false → is_unassigned a x ≡ true → opposes row a x ≡ is_against row x
opposes-unassigned row a x h u = ap₂ (λ (s t : Bool). not s && (not t || is_against row x)) h u

pub opposes_assigned : (row a : List ℕ) (x : ℤ) → holds a x ≡ false → is_unassigned a x ≡ false → opposes row a x ≡ true
opposes_assigned row a x h u = ap₂ (λ (s t : Bool). not s && (not t || is_against row x)) h u

-- a clause is opposed if each of its literals opposes
pub opposed_all : (row a : List ℕ) (c : List ℤ) → is_opposed row a c ≡ all (opposes row a) c
opposed_all row a [] = refl
opposed_all row a (x ∷ c) = go (holds a x) (assigned_or_against row a x) (satisfied a c) ∙ ap (λ (b : Bool). opposes row a x && b) (opposed_all row a c)
  where
    go : (h p s : Bool) → not (h || s) && (p && all (assigned_or_against row a) c) ≡ (not h && p) && (not s && all (assigned_or_against row a) c)
    go true p s = refl
    go false true s = refl
    go false false true = refl
    go false false false = refl

-- or if none of them is one that does not, which is what reading it looks for
pub opposed_none : (row a : List ℕ) (c : List ℤ) → is_opposed row a c ≡ not (any (spares row a) c)
opposed_none row a c = opposed_all row a c ∙ each c
  where
    go : (b s : Bool) → b && not s ≡ not (not b || s)
    go true s = refl
    go false s = refl

    each : (c : List ℤ) → all (opposes row a) c ≡ not (any (spares row a) c)
    each [] = refl
    each (x ∷ c) = ap (λ (b : Bool). opposes row a x && b) (each c) ∙ go (opposes row a x) (any (spares row a) c)

-- so a clause that was read is opposed where no such literal was found
pub told_opposed : (row a : List ℕ) (l : List ℤ) (from end : ℕ) (r : Bool) → Tested (spares row a) l from end r → not r ≡ is_opposed row a (clause_at from l)
told_opposed row a l from end r t = sym (opposed_none row a (clause_at from l) ∙ ap not (sym t.verdict))

-- and it ends where it ends
pub read_opposed : (row a : List ℕ) (l : List ℤ) (from end : ℕ) (r : Bool) → Tested (spares row a) l from end r
    → (end ≡ from + clause_length (drop from l)) × (not r ≡ is_opposed row a (clause_at from l))
read_opposed row a l from end r t = (t.ends, told_opposed row a l from end r t)
