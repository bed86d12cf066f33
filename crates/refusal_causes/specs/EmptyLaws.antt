-- The equations by which proofs look for a clause without literals, and what it is that there is none.
use Rattle.std.specs.Prelude.{◌≡◌, refl, ◌↔◌, Bool, true, false, cond, ℕ, suc, ◌+◌, ◌-◌, ◌≤◌, ◌<◌, eqb, ℤ, length, take, drop, None, Some}
use Rattle.std.proofs.Common.{sym, ap, ◌∙◌, arith, drop_of_length-le, eq-eqb, ne_eqb}
use mathlib.Core.List.Memᴰ
use mathlib.Core.List.{List, [], ◌∷◌, Memᴰ}
use Rattle.std.proofs.lemmas.Option.{none-some}
use Rattle.std.proofs.lemmas.Bool.{eqb-false}
use Rattle.formula.specs.Formula.{clauses, clause_length}
use Rattle.formula.specs.Laws.{clauses_step, clause_long}
use Rattle.refusal_causes.specs.Empty.{empty_clause}

-- from index i on: the clause there ends at e
module _ (l : List ℤ) (i e : ℕ) (h : i < length l) (q : e ≡ i + clause_length (drop i l)) where
  long : length (take (e - i) (drop i l)) ≡ e - i
  long = clause_long l i e (omega arith) q

  abbrev step : empty_clause i (clauses (drop i l)) ≡ empty_clause i (take (e - i) (drop i l) ∷ clauses (drop (e + 1) l))
  step = ap (empty_clause i) (clauses_step l i e h q)

  pub here_empty : e ≡ i → empty_clause i (clauses (drop i l)) ≡ Some i
  here_empty z = step ∙ rw (eq-eqb (length (take (e - i) (drop i l))) 0 (omega (arith, long)))

  pub here_filled : (e ≡ i → ⊥) → empty_clause i (clauses (drop i l)) ≡ empty_clause (e + 1) (clauses (drop (e + 1) l))
  here_filled z =
      let next : suc (i + length (take (e - i) (drop i l))) ≡ e + 1 = omega (arith, long) in
      step ∙ rw (ne_eqb (length (take (e - i) (drop i l))) 0 (λ f. absurd (z (omega (arith, long)))), next)

pub empty_past : (l : List ℤ) (i : ℕ) → length l ≤ i → empty_clause i (clauses (drop i l)) ≡ None
empty_past l i h = rw (drop_of_length-le l h)

-- no clause without literals was found: every clause has one
pub filled_iff : (i : ℕ) (f : List (List ℤ)) → (empty_clause i f ≡ None) ↔ ((c : List ℤ) → Memᴰ c f → 0 < length c)
filled_iff i f = (forth i f, back i f)
  where
    forth : (i : ℕ) (f : List (List ℤ)) → empty_clause i f ≡ None → (c : List ℤ) → Memᴰ c f → 0 < length c
    forth i [] e c m = absurd (Memᴰ.not-nil m)
    forth i (b ∷ f) e c m = go (eqb (length b) 0) refl e m (forth (suc (i + length b)) f)
      where
        go : (t : Bool) → eqb (length b) 0 ≡ t → cond t (Some i) (empty_clause (suc (i + length b)) f) ≡ None → Memᴰ c (b ∷ f)
            → (empty_clause (suc (i + length b)) f ≡ None → (c : List ℤ) → Memᴰ c f → 0 < length c) → 0 < length c
        go true z e m ih = absurd (none-some i (sym e))
        go false z e (Memᴰ.head s) ih = let n : length b ≡ 0 → ⊥ = eqb-false (length b) 0 z in omega (arith, ap length s)
        go false z e (Memᴰ.tail m) ih = ih e c m

    back : (i : ℕ) (f : List (List ℤ)) → ((c : List ℤ) → Memᴰ c f → 0 < length c) → empty_clause i f ≡ None
    back i [] g = refl
    back i (b ∷ f) g =
        rw (ne_eqb (length b) 0 (λ z. omega (arith, g b (Memᴰ.head refl)))) (back (suc (i + length b)) f (λ c m. g c (Memᴰ.tail m)))
