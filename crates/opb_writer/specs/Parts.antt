-- The file in its three parts: the first line, the rules' lines and the wishes' line.
use Rattle.std.specs.Prelude.{◌≡◌, refl, Bool, true, false, cond, List, [], ◌∷◌, ◌++◌, map, ℕ, ◌+◌, ltb, ℤ, length}
use Rattle.std.proofs.Common.{sym, ap, ap₂, ◌∙◌, append_assoc, arith, length-append}
use Rattle.std.proofs.lemmas.List.{length-map}
use Rattle.formula.specs.Formula.{clauses}
use Rattle.wish.specs.Wish.{wish_count}
use Rattle.opb_pseudo_boolean.specs.Export.{rule_constraint, wish_constraint, wish_constraints, exported}
use Rattle.opb_pseudo_boolean.specs.PseudoBoolean.{Constraint}
use Rattle.opb_format.specs.Opb.{line_text, lines_text, header_text, opb_of}
use Rattle.opb_rules.specs.Lines.{rule_lines}

-- how many lines follow the first, from the number of clauses and that of wishes
abbrev pub line_count : ℕ → ℕ → ℕ
line_count clauses wishes = cond (ltb 0 wishes) (clauses + 1) clauses

-- the lines of some constraints, and of others behind them
lines_append : (f g : List Constraint) → lines_text (f ++ g) ≡ lines_text f ++ lines_text g
lines_append [] g = refl
lines_append (c ∷ f) g = ap (λ (l : List ℕ). line_text c ++ l) (lines_append f g) ∙ sym (append_assoc (line_text c) (lines_text f) (lines_text g))

module _ (rules : List ℤ) (row : List ℕ) (d : ℕ) where
  abbrev pub wish_lines : List ℕ
  wish_lines = lines_text (wish_constraints row d)

  -- "C counts all lines after the first"
  count : (k m : ℕ) → k ≡ length (clauses rules) → m ≡ wish_count row → line_count k m ≡ length (exported rules row d)
  count k m e f =
      ap₂ line_count e f ∙ go (ltb 0 (wish_count row))
      ∙ sym (length-append (map rule_constraint (clauses rules)) (wish_constraints row d) ∙ ap (λ (j : ℕ). j + length (wish_constraints row d)) (length-map (clauses rules) rule_constraint))
    where
      go : (t : Bool) → cond t (length (clauses rules) + 1) (length (clauses rules)) ≡ length (clauses rules) + length (cond t (wish_constraint row d ∷ []) [])
      go true = refl
      go false = omega arith

  module _ (n k m : ℕ) (e : k ≡ length (clauses rules)) (f : m ≡ wish_count row) where
    abbrev pub head : List ℕ
    head = header_text n (line_count k m)

    pub file_parts : head ++ (rule_lines rules ++ wish_lines) ≡ opb_of n rules row d
    file_parts =
        ap₂ (λ (c : ℕ) (l : List ℕ). header_text n c ++ l) (count k m e f) (sym (lines_append (map rule_constraint (clauses rules)) (wish_constraints row d)))

    pub file_size_lem : length head + length (rule_lines rules) + length wish_lines ≡ length (opb_of n rules row d)
    file_size_lem = omega (arith, ap length file_parts, length-append head (rule_lines rules ++ wish_lines), length-append (rule_lines rules) wish_lines)
