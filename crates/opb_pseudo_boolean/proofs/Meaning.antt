-- What the exported constraints say of a choice (document 02, L2).
use Rattle.std.specs.Prelude.{◌≡◌, refl, ◌↔◌, Bool, true, false, cond, ℕ, ◌+◌, ◌≤◌, ◌<◌, ltb, ℤ, length}
use Rattle.std.proofs.Common.{sym, ap, subst, ◌∙◌, ⊎_elim, true≢false, arith, ltb-true, ltb-false}
use mathlib.Core.Logic.Iff
use mathlib.Core.List.Memᴰ
use mathlib.Core.List.{List, [], ◌∷◌, ◌++◌, map, Memᴰ}
use Rattle.std.proofs.lemmas.List.{length-map}
use Rattle.literal.specs.Literal.{variable}
use Rattle.formula.specs.Formula.{clauses, satisfied, models}
use Rattle.wish.specs.Wish.{wish_count, wished_on}
use Rattle.distance.specs.Distance.{disagreement, within}
use Rattle.choices.proofs.Lists.{all_at, all_false}
use Rattle.choices.specs.Choices.{Choice}
use Rattle.choices.proofs.Choices.{choice_value, within_iff}
use Rattle.refusal_causes.specs.Lent.{wished_problem, exported_problem}
use Rattle.refusal_causes.specs.Admitted.{Admitted}
use Rattle.refusal_causes.specs.EmptyLaws.{filled_iff}
use Rattle.opb_pseudo_boolean.specs.PseudoBoolean.{Constraint, Satisfies, SatisfiesAll}
use Rattle.opb_pseudo_boolean.specs.Export.{term, negatives, rule_constraint, wish_constraint, wish_constraints, exported}
use Rattle.opb_pseudo_boolean.specs.Variables.{Over}
use Rattle.opb_pseudo_boolean.proofs.Variables.{sound_over}
use Rattle.opb_pseudo_boolean.proofs.Differences.{difference_le}
use Rattle.opb_pseudo_boolean.specs.Sums.{held}
use Rattle.opb_pseudo_boolean.proofs.Sums.{satisfied-held, clause_sum, wishes_sum, wishes_terms, wishes_none}

-- A choice satisfies the constraint of a clause exactly when it satisfies the clause.
pub satisfies_rule : (n : ℕ) (a : List ℕ) (c : List ℤ) → Choice n a → Over n c → Satisfies a (rule_constraint c) ↔ (satisfied a c ≡ true)
satisfies_rule n a c ch o =
    let enough : (1 + negatives c ≤ held a c + negatives c) ↔ (0 < held a c) = omega arith in
    rw (clause_sum a c (λ x m. choice_value n a ch (variable x) (o x m).0 (o x m).1))
    (Iff.trans (difference_le 1 (negatives c) (held a c) (negatives c)) (Iff.trans enough (Iff.symm (satisfied-held a c))))

-- A choice satisfies the constraint of the wishes exactly when it breaks at most d of them.
pub satisfies_wishes : (n : ℕ) (a row : List ℕ) (d : ℕ) → Choice n a → length row ≡ n → Satisfies a (wish_constraint row d) ↔ (disagreement row a ≤ d)
satisfies_wishes n a row d ch long =
    let few : (wished_on row + disagreement row a ≤ wished_on row + d) ↔ (disagreement row a ≤ d) = omega arith in
    rw (wishes_sum 0 row a (record { size = omega (arith, ch.size); bytes = ch.bytes }))
    (Iff.trans (difference_le (wished_on row) d (wished_on row) (disagreement row a)) few)

-- and so where there is that constraint only if there are wishes
satisfies_last_line : (n : ℕ) (a row : List ℕ) (d : ℕ) → Choice n a → length row ≡ n → SatisfiesAll a (wish_constraints row d) ↔ (disagreement row a ≤ d)
satisfies_last_line n a row d ch long = go (ltb 0 (wish_count row)) refl
  where
    go : (t : Bool) → ltb 0 (wish_count row) ≡ t → SatisfiesAll a (cond t (wish_constraint row d ∷ []) []) ↔ (disagreement row a ≤ d)
    go true e =
        let own : Satisfies a (wish_constraint row d) ↔ (disagreement row a ≤ d) = satisfies_wishes n a row d ch long in
        (λ h. own.0 (h (wish_constraint row d) (Memᴰ.head refl)), λ h c m. subst (Satisfies a) (sym (Memᴰ.eq_of_singleton m)) (own.1 h))
    go false e = (
      λ h. omega (arith, wishes_none row a (omega (arith, ltb-false 0 (wish_count row) e))),
      λ h c m. absurd (Memᴰ.not-nil m),
    )

-- it satisfies those of a formula exactly when it is a model
satisfies_rules : (n : ℕ) (a : List ℕ) (f : List (List ℤ)) → Choice n a → ((c : List ℤ) → Memᴰ c f → Over n c)
    → SatisfiesAll a (map rule_constraint f) ↔ (models a f ≡ true)
satisfies_rules n a f ch o = (λ h. forth (models a f) refl h, λ h b m. back h b (Memᴰ.of_map rule_constraint f m))
  where
    forth : (t : Bool) → models a f ≡ t → SatisfiesAll a (map rule_constraint f) → t ≡ true
    forth true e h = refl
    forth false e h =
        let r = all_false (satisfied a) f e in
        absurd (true≢false (sym ((satisfies_rule n a r.0 ch (o r.0 r.1)).0 (h (rule_constraint r.0) (Memᴰ.map rule_constraint r.1))) ∙ r.2))

    back : models a f ≡ true → (b : Constraint) → (c : List ℤ) × Memᴰ c f × (rule_constraint c ≡ b) → Satisfies a b
    back h b r = subst (Satisfies a) r.2 ((satisfies_rule n a r.0 ch (o r.0 r.1)).1 (all_at (satisfied a) h r.1))

-- to satisfy constraints and others after them is to satisfy both
satisfies_append : (a : List ℕ) (f g : List Constraint) → SatisfiesAll a (f ++ g) ↔ (SatisfiesAll a f × SatisfiesAll a g)
satisfies_append a f g = (
  λ h. (λ c m. h c (Memᴰ.append_left g m), λ c m. h c (Memᴰ.append_right f m)),
  λ h c m. ⊎_elim (λ q. h.0 c q) (λ q. h.1 c q) (Memᴰ.append_cases f m),
)

-- "A choice satisfies the lines exactly when it meets the rules within d."
pub satisfies_exported : (n : ℕ) (rules : List ℤ) (row : List ℕ) (d : ℕ) → Admitted (wished_problem n rules row d) → (a : List ℕ) → Choice n a
    → SatisfiesAll a (exported rules row d) ↔ ((models a (clauses rules) ≡ true) × (disagreement row a ≤ d))
satisfies_exported n rules row d ok a ch =
    Iff.trans (satisfies_append a (map rule_constraint (clauses rules)) (wish_constraints row d))
    (Iff.and (satisfies_rules n a (clauses rules) ch (sound_over n rules ok.sound_rules)) (satisfies_last_line n a row d ch ok.long_row))

-- So the choices that satisfy the lines are those that meet the rules within d, and no others.
pub exported-within : (n : ℕ) (rules : List ℤ) (row : List ℕ) (d : ℕ) → Admitted (wished_problem n rules row d) → (a : List ℕ)
    → (Choice n a × SatisfiesAll a (exported rules row d)) ↔ Memᴰ a (within n rules row d)
exported-within n rules row d ok a = (
  λ h. let r = (satisfies_exported n rules row d ok a h.0).0 h.1 in (within_iff n rules row d a).1 (record { choice = h.0; satisfies = r.0 }, r.1),
  λ m.
      let r = (within_iff n rules row d a).0 m in
      (r.0.choice, (satisfies_exported n rules row d ok a r.0.choice).1 (r.0.satisfies, r.1)),
)

-- No line is without a term.
pub lines_have_terms : (n : ℕ) (rules : List ℤ) (row : List ℕ) (d : ℕ) → Admitted (exported_problem n rules row d)
    → (c : Constraint) → Memᴰ c (exported rules row d) → 0 < length c.terms
lines_have_terms n rules row d ok c m =
    ⊎_elim (λ q. rule (Memᴰ.of_map rule_constraint (clauses rules) q)) (λ q. last (ltb 0 (wish_count row)) refl q) (Memᴰ.append_cases (map rule_constraint (clauses rules)) m)
  where
    size : Constraint → ℕ
    size b = length b.terms

    rule : (x : List ℤ) × Memᴰ x (clauses rules) × (rule_constraint x ≡ c) → 0 < size c
    rule r = omega (arith, (filled_iff 0 (clauses rules)).0 ok.entries r.0 r.1, length-map r.0 (term 1), ap size r.2)

    last : (t : Bool) → ltb 0 (wish_count row) ≡ t → Memᴰ c (cond t (wish_constraint row d ∷ []) []) → 0 < size c
    last true e q = omega (arith, ltb-true 0 (wish_count row) e, wishes_terms 1 row, ap size (Memᴰ.eq_of_singleton q))
    last false e q = absurd (Memᴰ.not-nil q)
