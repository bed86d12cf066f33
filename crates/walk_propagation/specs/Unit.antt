-- What a clause asks for: nothing, that its one unassigned literal holds, or what cannot be.
use Rattle.std.specs.Prelude.{◌≡◌, refl, Bool, true, false, cond, not, ◌&&◌, ◌||◌, List, [], ◌∷◌, ℕ, zero, suc, ◌+◌, ◌≤◌, ◌<◌, eqb, ℤ, pos, length, get_or, Option, None, Some, is_some}
use Rattle.std.proofs.Common.{sym, ap, ◌∙◌, arith, ne_eqb}
use Rattle.literal.specs.Literal.{holds, closes}
use Rattle.formula.specs.Formula.{satisfied}
use Rattle.walk.specs.State.{find, is_unassigned, unassigned_in, is_unit, is_falsified}
use Rattle.walk_clause_standing.specs.Clause.{clause_at, at_literal, at_closed, at_past}
use Rattle.walk_propagation.specs.declared.unit.Unit as U
use Rattle.walk_propagation.specs.declared.unit.Unit.{Unit}

abbrev pub unit_of : Option ℤ → Unit
unit_of None = U.TheVariants.Nothing
unit_of (Some x) = U.TheVariants.Literal x

abbrev pub asks : List ℕ → List ℤ → Unit
asks a c = cond (is_falsified a c) U.TheVariants.Conflict (cond (is_unit a c) (unit_of (find (is_unassigned a) c)) U.TheVariants.Nothing)

-- at the end of an open clause with one unassigned literal, or with none
abbrev pub unit_by : Option ℤ → Unit
unit_by None = U.TheVariants.Conflict
unit_by (Some y) = U.TheVariants.Literal y

-- the same read from the first literal on: y is the unassigned one that was met, if one was
abbrev pub asks_after : List ℕ → Option ℤ → List ℤ → Unit
asks_after a y [] = unit_by y
asks_after a y (x ∷ c) =
    cond (holds a x) U.TheVariants.Nothing (cond (is_unassigned a x) (cond (is_some y) U.TheVariants.Nothing (asks_after a (Some x) c)) (asks_after a y c))

-- one more than a number is not 0, and is 1 if that number is 0
not-zero : (m : ℕ) → eqb (suc m) 0 ≡ false
not-zero m = ne_eqb (suc m) 0 (λ e. omega arith)

one_more : (m : ℕ) → eqb (suc m) 1 ≡ eqb m 0
one_more zero = refl
one_more (suc m) = ne_eqb (suc (suc m)) 1 (λ e. omega arith) ∙ sym (not-zero m)

-- after one unassigned literal
after_one : (a : List ℕ) (y : ℤ) (c : List ℤ) → asks_after a (Some y) c ≡ cond (not (satisfied a c) && eqb (unassigned_in a c) 0) (U.TheVariants.Literal y) U.TheVariants.Nothing
after_one a y [] = refl
after_one a y (x ∷ c) = go (holds a x) (is_unassigned a x) (satisfied a c) (after_one a y c)
  where
    go : (h u s : Bool) → asks_after a (Some y) c ≡ cond (not s && eqb (unassigned_in a c) 0) (U.TheVariants.Literal y) U.TheVariants.Nothing
        → cond h U.TheVariants.Nothing (cond u U.TheVariants.Nothing (asks_after a (Some y) c))
        ≡ cond (not (h || s) && eqb (cond u (suc (unassigned_in a c)) (unassigned_in a c)) 0) (U.TheVariants.Literal y) U.TheVariants.Nothing
    go true u s e = refl
    go false true true e = refl
    go false true false e = rw (not-zero (unassigned_in a c))
    go false false s e = e

pub asks_all : (a : List ℕ) (c : List ℤ) → asks_after a None c ≡ asks a c
asks_all a [] = refl
asks_all a (x ∷ c) = go (holds a x) (is_unassigned a x) (satisfied a c) (unassigned_in a c) (find (is_unassigned a) c) (asks_all a c) (after_one a x c)
  where
    -- with s, m and o for what is left of the clause
    go : (h u s : Bool) (m : ℕ) (o : Option ℤ) → asks_after a None c ≡ cond (not s && eqb m 0) U.TheVariants.Conflict (cond (not s && eqb m 1) (unit_of o) U.TheVariants.Nothing)
        → asks_after a (Some x) c ≡ cond (not s && eqb m 0) (U.TheVariants.Literal x) U.TheVariants.Nothing
        → cond h U.TheVariants.Nothing (cond u (asks_after a (Some x) c) (asks_after a None c))
        ≡ cond (not (h || s) && eqb (cond u (suc m) m) 0) U.TheVariants.Conflict (cond (not (h || s) && eqb (cond u (suc m) m) 1) (unit_of (cond u (Some x) o)) U.TheVariants.Nothing)
    go true u s m o e q = refl
    go false true true m o e q = q
    go false true false m o e q = q ∙ sym (rw (not-zero m, one_more m))
    go false false s m o e q = e

-- a clause of a list, read by its index
module _ (a : List ℕ) (l : List ℤ) (i : ℕ) (y : Option ℤ) where
  pub asks-closed : i < length l → closes (get_or l i (pos 0)) ≡ true → asks_after a y (clause_at i l) ≡ unit_by y
  asks-closed h e = ap (asks_after a y) (at_closed l i h e)

  pub asks_past : length l ≤ i → asks_after a y (clause_at i l) ≡ unit_by y
  asks_past h = ap (asks_after a y) (at_past l i h)

  module _ (h : i < length l) (e : closes (get_or l i (pos 0)) ≡ false) where
    pub asks-holds : holds a (get_or l i (pos 0)) ≡ true → asks_after a y (clause_at i l) ≡ U.TheVariants.Nothing
    asks-holds t = ap (asks_after a y) (at_literal l i h e) ∙ rw t

    pub asks_first : holds a (get_or l i (pos 0)) ≡ false → is_unassigned a (get_or l i (pos 0)) ≡ true → is_some y ≡ false → asks_after a y (clause_at i l) ≡ asks_after a (Some (get_or l i (pos 0))) (clause_at (i + 1) l)
    asks_first t u z = ap (asks_after a y) (at_literal l i h e) ∙ rw (t, u, z)

    pub asks_second : holds a (get_or l i (pos 0)) ≡ false → is_unassigned a (get_or l i (pos 0)) ≡ true → is_some y ≡ true → asks_after a y (clause_at i l) ≡ U.TheVariants.Nothing
    asks_second t u z = ap (asks_after a y) (at_literal l i h e) ∙ rw (t, u, z)

    pub asks-false : holds a (get_or l i (pos 0)) ≡ false → is_unassigned a (get_or l i (pos 0)) ≡ false → asks_after a y (clause_at i l) ≡ asks_after a y (clause_at (i + 1) l)
    asks-false t u = ap (asks_after a y) (at_literal l i h e) ∙ rw (t, u)
