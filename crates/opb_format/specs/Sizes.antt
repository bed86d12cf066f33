-- How long the file of an admitted problem can be.
use Rattle.std.specs.Prelude.{◌≡◌, refl, Bool, true, false, cond, ℕ, zero, suc, ◌+◌, ◌-◌, ◌*◌, ◌/◌, ◌^◌, ◌≤◌, ◌<◌, ltb, ℤ, pos, negsuc, ◌-ℤ◌, length}
use Rattle.std.proofs.Common.{ap, zero-le, not-suc-le-zero, arith, length-append, ltb-true, ltb-false}
use mathlib.Core.List.{List, [], ◌∷◌, ◌++◌, map, Memᴰ}
use Rattle.std.proofs.lemmas.List.{length-map}
use Rattle.literal.specs.Literal.{variable}
use Rattle.formula.specs.Formula.{clauses, literals}
use Rattle.wish.specs.Laws.{weight_wish, weight-most, keeping-variable}
use Rattle.wish.specs.RowLaws.{count-weight, on-most}
use Rattle.wish.specs.Wish.{is_wish, weight, keeping, wish_count, total_weight, wished_on}
use Rattle.decimal.specs.Decimal.{decimal}
use Rattle.decimal.specs.Laws.{count_one, count_more, count_most}
use Rattle.text.specs.Text.{numeral}
use Rattle.limits.specs.Limits.{max_wish_variables, max_wishes, max_limit}
use Rattle.refusal_causes.specs.Admitted.{Admitted}
use Rattle.refusal_causes.specs.Laws.{sound_weight}
use Rattle.refusal_causes.specs.Lent.{wished_problem}
use Rattle.opb_pseudo_boolean.specs.Export.{term, negatives, rule_constraint, wish_terms, wish_constraint, wish_constraints, exported}
use Rattle.opb_pseudo_boolean.specs.PseudoBoolean.{Constraint}
use Rattle.opb_pseudo_boolean.specs.Variables.{Over}
use Rattle.opb_pseudo_boolean.proofs.Variables.{sound_over}
use Rattle.opb_format.specs.Laws.{term-size, difference_less, difference_more, bound_size, header-size}
use Rattle.opb_format.specs.Opb.{term_text, terms_text, bound_text, line_text, lines_text, header_text, opb_of}

-- no file is longer
abbrev pub longest : ℕ
longest = 165306

-- a number of m digits is 0 or at least 9 * (m - 1) + 1
count_ninth : (k v : ℕ) → v < k → 0 < v → 9 * length (decimal v) ≤ 8 + v
count_ninth zero v h p = absurd (not-suc-le-zero h)
count_ninth (suc k) v h p = go (ltb v 10) refl (count_ninth k (v / 10))
  where
    go : (t : Bool) → ltb v 10 ≡ t → (v / 10 < k → 0 < v / 10 → 9 * length (decimal (v / 10)) ≤ 8 + v / 10) → 9 * length (decimal v) ≤ 8 + v
    go true e ih = omega (arith, count_one v (ltb-true v 10 e))
    go false e ih =
        let big : 10 ≤ v = ltb-false v 10 e in
        omega (arith, count_more v big, ih (omega arith) (omega arith))

-- the numeral of the bound of a clause with k negative literals
clause_bound : (k : ℕ) → 9 * length (numeral (pos 1 -ℤ pos k)) ≤ 16 + k
clause_bound zero = omega (arith, count_one 1 (omega arith))
clause_bound (suc zero) = omega (arith, count_one 0 (omega arith))
clause_bound (suc (suc k)) =
    omega (arith, ap length (difference_less 1 (suc (suc k)) (omega arith)), count_ninth (suc (suc k)) (suc (suc k) - 1) (omega arith) (omega arith))

-- the numeral of a number less another, where neither has more than k + 1 digits
difference_most : (k a b : ℕ) → a < 10 ^ suc k → b < 10 ^ suc k → length (numeral (pos a -ℤ pos b)) ≤ suc (suc k)
difference_most k a b h l = go (ltb a b) refl
  where
    go : (t : Bool) → ltb a b ≡ t → length (numeral (pos a -ℤ pos b)) ≤ suc (suc k)
    go true e = omega (arith, ap length (difference_less a b (ltb-true a b e)), count_most k (b - a) (omega arith))
    go false e = omega (arith, ap length (difference_more a b (ltb-false a b e)), count_most k (a - b) (omega arith))

-- a term whose weight has one digit, and its variable at most three
term-most : (w : ℕ) (x : ℤ) → 0 < w → w < 10 → variable x ≤ max_wish_variables → length (term_text (term w x)) ≤ 8
term-most w x p h l = omega (arith, term-size w x (variable x) p refl, count_one w h, count_most 2 (variable x) (omega arith))

-- the terms of a clause, and of the wishes from variable k + 1 on
clause_terms_lem : (n : ℕ) (c : List ℤ) → n ≤ max_wish_variables → Over n c → length (terms_text (map (term 1) c)) ≤ 8 * length c
clause_terms_lem n [] h o = zero-le
clause_terms_lem n (x ∷ c) h o =
    let within : variable x ≤ n = (o x (Memᴰ.head refl)).1 in
    omega (
      arith,
      length-append (term_text (term 1 x)) (terms_text (map (term 1) c)),
      term-most 1 x (omega arith) (omega arith) (omega arith),
      clause_terms_lem n c h (λ y m. o y (Memᴰ.tail m)),
    )

wish_terms_lem : (k : ℕ) (row : List ℕ) → k + length row ≤ max_wish_variables → length (terms_text (wish_terms (suc k) row)) ≤ 8 * wish_count row
wish_terms_lem k [] h = zero-le
wish_terms_lem k (w ∷ row) h = go (is_wish w) refl (wish_terms_lem (suc k) row (omega arith))
  where
    go : (t : Bool) → is_wish w ≡ t → length (terms_text (wish_terms (suc (suc k)) row)) ≤ 8 * wish_count row
        → length (terms_text (cond t (term (weight w) (keeping (suc k) w) ∷ wish_terms (suc (suc k)) row) (wish_terms (suc (suc k)) row)))
        ≤ 8 * cond t (suc (wish_count row)) (wish_count row)
    go true e ih =
        omega (
          arith,
          length-append (term_text (term (weight w) (keeping (suc k) w))) (terms_text (wish_terms (suc (suc k)) row)),
          term-most (weight w) (keeping (suc k) w) (weight_wish w e) (omega (arith, weight-most w)) (omega (arith, keeping-variable k w)),
        )
    go false e ih = ih

-- a clause has no more negative literals than literals
negatives-most : (c : List ℤ) → negatives c ≤ length c
negatives-most [] = zero-le
negatives-most (pos v ∷ c) = omega (arith, negatives-most c)
negatives-most (negsuc k ∷ c) = omega (arith, negatives-most c)

-- the line of a clause
pub clause_line : (n : ℕ) (c : List ℤ) → n ≤ max_wish_variables → Over n c → 9 * length (line_text (rule_constraint c)) ≤ 73 * length c + 70
clause_line n c h o =
    let k : ℤ = pos 1 -ℤ pos (negatives c) in
    omega (
      arith,
      length-append (terms_text (map (term 1) c)) (bound_text k),
      clause_terms_lem n c h o,
      bound_size k,
      clause_bound (negatives c),
      negatives-most c,
    )

-- the lines of clauses, and of what stands behind them
clause_lines : (n : ℕ) (f : List (List ℤ)) (rest : List Constraint) → n ≤ max_wish_variables → ((c : List ℤ) → Memᴰ c f → Over n c)
    → 9 * length (lines_text (map rule_constraint f ++ rest)) ≤ 73 * literals f + 70 * length f + 9 * length (lines_text rest)
clause_lines n [] rest h o = omega arith
clause_lines n (c ∷ f) rest h o =
    omega (
      arith,
      length-append (line_text (rule_constraint c)) (lines_text (map rule_constraint f ++ rest)),
      clause_line n c h (o c (Memᴰ.head refl)),
      clause_lines n f rest h (λ b m. o b (Memᴰ.tail m)),
    )

-- the line of the wishes: its length, and that it is the only one
wish_line : (row : List ℕ) (d : ℕ) → length row ≤ max_wish_variables → total_weight row ≤ max_wishes → d ≤ max_limit
    → (length (lines_text (wish_constraints row d)) ≤ 8 * wish_count row + 9) × (length (wish_constraints row d) ≤ 1)
wish_line row d h l q = go (ltb 0 (wish_count row))
  where
    k : ℤ
    k = pos (wished_on row) -ℤ pos d

    go : (t : Bool)
        → (length (lines_text (cond t (wish_constraint row d ∷ []) [])) ≤ 8 * wish_count row + 9) × (length (cond t (wish_constraint row d ∷ []) []) ≤ 1)
    go true = (
      omega (
        arith,
        length-append (line_text (wish_constraint row d)) [],
        length-append (terms_text (wish_terms 1 row)) (bound_text k),
        wish_terms_lem 0 row (omega arith),
        bound_size k,
        difference_most 1 (wished_on row) d (omega (arith, on-most row)) (omega arith),
      ),
      omega arith,
    )
    go false = (zero-le, zero-le)

module _ (n : ℕ) (rules : List ℤ) (row : List ℕ) (d : ℕ) (a : Admitted (wished_problem n rules row d)) where
  -- nine times the length, for nine negative literals make a clause's bound longer by at most a digit
  ninefold : 9 * length (opb_of n rules row d) ≤ 396 + 73 * literals (clauses rules) + 70 * length (clauses rules) + 72 * wish_count row
  ninefold =
      let f : List (List ℤ) = clauses rules in
      let rest : List Constraint = wish_constraints row d in
      let lines : ℕ = length (exported rules row d) in
      let last = wish_line row d (omega (arith, a.long_row, a.small.variables)) (sound_weight row a.sound_row) a.limited in
      omega (
        arith,
        length-append (header_text n lines) (lines_text (exported rules row d)),
        header-size n lines,
        count_most 2 n (omega (arith, a.small.variables)),
        count_most 3 lines (omega (arith, length-append (map rule_constraint f) rest, length-map f rule_constraint, a.small.few, last.1)),
        clause_lines n f rest a.small.variables (sound_over n rules a.sound_rules),
        last.0,
      )

  -- the length, by what a book holds
  pub opb_bound : length (opb_of n rules row d) ≤ 44 + 9 * literals (clauses rules) + 8 * length (clauses rules) + 8 * wish_count row
  opb_bound = omega (arith, ninefold)

  -- no file has more bytes than `longest`
  pub opb_most : length (opb_of n rules row d) ≤ longest
  opb_most = omega (arith, ninefold, a.small.few, a.small.short, sound_weight row a.sound_row, count-weight row)
