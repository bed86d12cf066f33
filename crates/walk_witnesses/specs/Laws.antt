-- The first literals are witnesses, and so is any literal that is read in its clause.
use Rattle.std.specs.Prelude.{◌≡◌, Bool, true, false, List, [], ℕ, ◌+◌, ◌-◌, ◌≤◌, ◌<◌, ℤ, pos, length, get_or, drop, set, take}
use Rattle.std.proofs.Common.{sym, ap, ◌∙◌, arith, length-set, length-drop, get_or-set_same, get_or-set_other, get_or-take, get_or-drop, length-take-le, eqb-true}
use Rattle.std.proofs.Math.Decide.{ℕ_discrete}
use Rattle.literal.specs.Literal.{variable, wanted, value, closes, holds}
use Rattle.literal.specs.Slots.{wanted_bit}
use Rattle.formula.specs.Formula.{clauses, clause_length, satisfied}
use Rattle.formula.specs.Laws.{length-literal, end_inside}
use Rattle.choices.proofs.Lists.{member_at, any_at}
use Rattle.walk_clause_standing.specs.Clause.{clause_at}
use Rattle.walk_occurrences.specs.Layout.{begins_of}
use Rattle.walk_occurrences.proofs.Reading.{beside_located, count_read}
use Rattle.walk_occurrences.specs.Table.{Located, Beside}
use Rattle.walk_occurrences.proofs.Table.{begins_inside, begins_clause}
use Rattle.walk_witnesses.specs.Witnesses.{Witnesses}

-- a literal of the clause that begins at `from`, which stands at an index of the list
module _ (l : List ℤ) (from at : ℕ) (after : from ≤ at) (inside : at < from + clause_length (drop from l)) where
  -- where it holds the clause is satisfied
  pub held_satisfies : from < length l → (a : List ℕ) → holds a (get_or l at (pos 0)) ≡ true → satisfied a (clause_at from l) ≡ true
  held_satisfies h a t =
      let far : from + clause_length (drop from l) ≤ length l = end_inside l from (from + clause_length (drop from l)) (omega arith) (λ i. from + clause_length (drop from l)) in
      let long : length (clause_at from l) ≡ clause_length (drop from l) = length-take-le (clause_length (drop from l)) (drop from l) (omega (arith, length-drop from l)) in
      let back : from + (at - from) ≡ at = omega arith in
      let same : get_or (clause_at from l) (at - from) (pos 0) ≡ get_or l at (pos 0) =
      get_or-take (clause_length (drop from l)) (drop from l) (at - from) (pos 0) (omega arith) ∙ get_or-drop from l (at - from) (pos 0) ∙ ap (λ (j : ℕ). get_or l j (pos 0)) back in
      any_at (holds a) (member_at (pos 0) (clause_at from l) (at - from) (omega (arith, long))) (ap (holds a) same ∙ t)

-- 0 is no literal, and does not hold
zero_fails : (a : List ℕ) (x : ℤ) → closes x ≡ true → holds a x ≡ true → ⊥
zero_fails a x e t =
    let two : value a (variable x) ≡ 2 = ap (value a) (eqb-true (variable x) 0 e) in
    omega (arith, two, eqb-true (value a (variable x)) (wanted x) t, wanted_bit x)

-- what stands where a clause begins: its first literal, or the 0 that closes it
first_satisfies : (l : List ℤ) (from : ℕ) → from < length l → (a : List ℕ) → holds a (get_or l from (pos 0)) ≡ true → satisfied a (clause_at from l) ≡ true
first_satisfies l from h a t = go (closes (get_or l from (pos 0))) (λ i. closes (get_or l from (pos 0)))
  where
    go : (b : Bool) → closes (get_or l from (pos 0)) ≡ b → satisfied a (clause_at from l) ≡ true
    go true e = absurd (zero_fails a (get_or l from (pos 0)) e t)
    go false e = held_satisfies l from from (omega arith) (omega (arith, length-literal l from h e)) h a t

-- so where the m clauses begin there are witnesses
first_witnesses : {rules : List ℤ} {begins : List ℕ} → Located rules begins → (m : ℕ) → m ≡ length (clauses rules) → Witnesses rules (take m begins)
first_witnesses {rules} {begins} h m n =
    record {
      many = length-take-le m begins (omega (arith, h.many)) ∙ n;
      inside = λ k l. omega (arith, same k l, begins_inside h k l);
      satisfies = λ k l a t.
          ap (satisfied a) (sym (begins_clause h k l)) ∙ first_satisfies rules (get_or begins k 0) (begins_inside h k l) a (sym (ap (λ (j : ℕ). holds a (get_or rules j (pos 0))) (same k l)) ∙ t);
    }
  where
    same : (k : ℕ) → k < length (clauses rules) → get_or (take m begins) k 0 ≡ get_or begins k 0
    same k l = get_or-take m begins k 0 (omega arith)

-- so the begins in an arrangement, as many as there are clauses, are witnesses
module _ {n : ℕ} {rules : List ℤ} {t : List ℕ} (h : Beside n rules t) where
  pub count_inside : get_or t 1 0 ≤ length (begins_of t)
  count_inside = omega (arith, count_read h, (beside_located h).many)

  pub count_witnesses : Witnesses rules (take (get_or t 1 0) (begins_of t))
  count_witnesses = first_witnesses (beside_located h) (get_or t 1 0) (count_read h)

-- and a literal of clause k, read from where that begins, may be its witness
pub new_witness : {rules : List ℤ} {begins witnesses : List ℕ} → Located rules begins → Witnesses rules witnesses → (k at : ℕ) → k < length (clauses rules)
    → get_or begins k 0 ≤ at → at < get_or begins k 0 + clause_length (drop (get_or begins k 0) rules) → Witnesses rules (set witnesses k at)
new_witness {rules} {begins} {witnesses} h w k at l after inside =
    record {
      many = length-set witnesses k at ∙ w.many;
      inside = λ j m. elim (ℕ_discrete j k) [ yes e ↦ omega (arith, stored j e, far) | no e ↦ omega (arith, get_or-set_other witnesses k j at 0 e, w.inside j m) ];
      satisfies = λ j m a t. elim (ℕ_discrete j k) [ yes e ↦ here j e a t | no e ↦ w.satisfies j m a (sym (ap (λ (i : ℕ). holds a (get_or rules i (pos 0))) (get_or-set_other witnesses k j at 0 e)) ∙ t) ];
    }
  where
    far : at < length rules
    far = omega (arith, inside, end_inside rules (get_or begins k 0) (get_or begins k 0 + clause_length (drop (get_or begins k 0) rules)) (omega (arith, begins_inside h k l)) (λ i. get_or begins k 0 + clause_length (drop (get_or begins k 0) rules)))

    stored : (j : ℕ) → j ≡ k → get_or (set witnesses k at) j 0 ≡ at
    stored j e = ap (λ (i : ℕ). get_or (set witnesses k at) i 0) e ∙ get_or-set_same witnesses k at 0 (omega (arith, w.many))

    here : (j : ℕ) → j ≡ k → (a : List ℕ) → holds a (get_or rules (get_or (set witnesses k at) j 0) (pos 0)) ≡ true → satisfied a (get_or (clauses rules) j []) ≡ true
    here j e a t =
        ap (λ (i : ℕ). satisfied a (get_or (clauses rules) i [])) e
        ∙ ap (satisfied a) (sym (begins_clause h k l))
        ∙ held_satisfies rules (get_or begins k 0) at after inside (begins_inside h k l) a (sym (ap (λ (i : ℕ). holds a (get_or rules i (pos 0))) (stored j e)) ∙ t)
