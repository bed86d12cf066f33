-- The equations by which proofs count and put the rules' lines: the terms of a clause one by one, and the clauses of a list one by one.
use Rattle.std.specs.Prelude.{◌≡◌, refl, cond, ◌==◌, count_by, List, [], ◌∷◌, ◌++◌, map, ℕ, suc, ◌+◌, ◌-◌, ◌≤◌, ◌<◌, ℤ, pos, negsuc, ◌-ℤ◌, length, get_or, take, drop}
use Rattle.std.proofs.Common.{sym, ap, ◌∙◌, add-one, arith, length-append, drop_of_length-le, drop-cons}
use Rattle.std.proofs.lemmas.List.Recursion.{is_count_by}
use Rattle.literal.specs.Literal.{wanted}
use Rattle.formula.specs.Formula.{clauses, clause_length}
use Rattle.formula.specs.Laws.{clauses_step, clause_long, end_inside}
use Rattle.opb_pseudo_boolean.specs.Export.{term, negatives, rule_constraint}
use Rattle.opb_format.specs.Opb.{term_text, terms_text, bound_text, line_text, lines_text}

-- the negative literals of a clause are those that want off
pub negatives-count : (c : List ℤ) → count_by (λ x. wanted x == 0) c ≡ negatives c
negatives-count c = sym (is_count_by negatives (λ x. wanted x == 0) refl step c)
  where
    step : (x : ℤ) (c : List ℤ) → negatives (x ∷ c) ≡ cond (wanted x == 0) (1 + negatives c) (negatives c)
    step (pos v) c = refl
    step (negsuc k) c = omega arith

-- the negative literals of a clause from index i on: one more, or as many as behind it
first_negative : (x : ℤ) (c : List ℤ) (w : ℕ) → w ≡ wanted x → w ≡ 0 → negatives (x ∷ c) ≡ suc (negatives c)
first_negative (pos v) c w e z = absurd (omega arith)
first_negative (negsuc k) c w e z = refl

first_positive : (x : ℤ) (c : List ℤ) (w : ℕ) → w ≡ wanted x → (w ≡ 0 → ⊥) → negatives (x ∷ c) ≡ negatives c
first_positive (pos v) c w e z = refl
first_positive (negsuc k) c w e z = absurd (z e)

module _ (c : List ℤ) (i : ℕ) (h : i < length c) (w : ℕ) (e : w ≡ wanted (get_or c i (pos 0))) where
  pub negatives_more : w ≡ 0 → negatives (drop i c) ≡ suc (negatives (drop (i + 1) c))
  negatives_more z =
      rw (drop-cons c i (pos 0) h, add-one i) (first_negative (get_or c i (pos 0)) (drop (suc i) c) w e z)

  pub negatives_same : (w ≡ 0 → ⊥) → negatives (drop i c) ≡ negatives (drop (i + 1) c)
  negatives_same z =
      rw (drop-cons c i (pos 0) h, add-one i) (first_positive (get_or c i (pos 0)) (drop (suc i) c) w e z)

pub negatives_past : (c : List ℤ) (i : ℕ) → length c ≤ i → negatives (drop i c) ≡ 0
negatives_past c i h = rw (drop_of_length-le c h)

-- the terms of a clause from index i on: one and the rest, or nothing
abbrev pub clause_terms : List ℤ → List ℕ
clause_terms c = terms_text (map (term 1) c)

pub terms_split : (c : List ℤ) (i : ℕ) → i < length c → clause_terms (drop i c) ≡ term_text (term 1 (get_or c i (pos 0))) ++ clause_terms (drop (i + 1) c)
terms_split c i h = rw (drop-cons c i (pos 0) h, add-one i)

pub terms_step : (c : List ℤ) (i : ℕ) → i < length c
    → length (clause_terms (drop i c)) ≡ length (term_text (term 1 (get_or c i (pos 0)))) + length (clause_terms (drop (i + 1) c))
terms_step c i h =
    ap length (terms_split c i h) ∙ length-append (term_text (term 1 (get_or c i (pos 0)))) (clause_terms (drop (i + 1) c))

pub terms_past : (c : List ℤ) (i : ℕ) → length c ≤ i → clause_terms (drop i c) ≡ []
terms_past c i h = rw (drop_of_length-le c h)

-- a clause's line: its terms, and its bound
pub line-size : (c : List ℤ) → length (line_text (rule_constraint c)) ≡ length (clause_terms c) + length (bound_text (pos 1 -ℤ pos (negatives c)))
line-size c = length-append (clause_terms c) (bound_text (pos 1 -ℤ pos (negatives c)))

-- the lines of a list from index i on, where the clause there ends at e: its line and the rest, or nothing
abbrev pub rule_lines : List ℤ → List ℕ
rule_lines l = lines_text (map rule_constraint (clauses l))

module _ (l : List ℤ) (i e : ℕ) (h : i < length l) (q : e ≡ i + clause_length (drop i l)) where
  abbrev pub clause_at : List ℤ
  clause_at = take (e - i) (drop i l)

  pub lines_split : rule_lines (drop i l) ≡ line_text (rule_constraint clause_at) ++ rule_lines (drop (e + 1) l)
  lines_split = ap (λ (f : List (List ℤ)). lines_text (map rule_constraint f)) (clauses_step l i e h q)

  pub lines_step : length (rule_lines (drop i l)) ≡ length (line_text (rule_constraint clause_at)) + length (rule_lines (drop (e + 1) l))
  lines_step = ap length lines_split ∙ length-append (line_text (rule_constraint clause_at)) (rule_lines (drop (e + 1) l))

  pub clause_size : (length clause_at ≡ e - i) × (i ≤ e) × (e ≤ length l)
  clause_size = (clause_long l i e (omega arith) q, omega arith, end_inside l i e (omega arith) q)

pub lines_past : (l : List ℤ) (i : ℕ) → length l ≤ i → rule_lines (drop i l) ≡ []
lines_past l i h = rw (drop_of_length-le l h)
