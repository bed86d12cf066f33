-- The equations by which proofs put the values of a choice, one after the other, and how long a text can be.
use Rattle.std.specs.Prelude.{◌≡◌, refl, Bool, true, false, cond, ◌&&◌, List, [], ◌∷◌, ◌++◌, ℕ, zero, suc, ◌+◌, ◌*◌, ◌%◌, ◌^◌, ◌≤◌, ◌<◌, eqb, ltb, length, get_or, drop, Some}
use Rattle.std.proofs.Common.{add-one, arith, length-append, drop_of_length-le, drop-cons, eq-eqb, ne_eqb, lt-ltb, le-ltb}
use Rattle.literal.specs.Literal.{variable, literal}
use Rattle.decimal.specs.Decimal.{decimal}
use Rattle.text.specs.Laws.{digits-most, numeral-most}
use Rattle.program_solution_text.specs.Lines.{longest, line_break, signed_number, entry, values, optimum, opening, closing, solution}

-- where a line begins
pub break_first : (i : ℕ) → i ≡ 0 → line_break i ≡ []
break_first i e = rw (le-ltb 0 i (omega arith))

pub break_inside : (i : ℕ) → (i % 16 ≡ 0 → ⊥) → line_break i ≡ []
break_inside i h = go (ltb 0 i)
  where
    go : (b : Bool) → cond {A = List ℕ} (b && eqb (i % 16) 0) (10 ∷ 118 ∷ []) [] ≡ []
    go true = rw (ne_eqb (i % 16) 0 h)
    go false = refl

pub break_new : (i : ℕ) → (i ≡ 0 → ⊥) → i % 16 ≡ 0 → line_break i ≡ 10 ∷ 118 ∷ []
break_new i h e = rw (lt-ltb 0 i (omega arith), eq-eqb (i % 16) 0 e)

-- what is left of a choice to put: a value and the rest, or nothing
pub values_split : (choice : List ℕ) (i : ℕ) → i < length choice → values i (drop i choice) ≡ entry i (get_or choice i 0) ++ values (i + 1) (drop (i + 1) choice)
values_split choice i h = rw (drop-cons choice i 0 h, add-one i)

pub values_past : (choice : List ℕ) (i : ℕ) → length choice ≤ i → values i (drop i choice) ≡ []
values_past choice i h = rw (drop_of_length-le choice h)

-- a value takes at most seven bytes: those of a line's beginning, a space, a minus and three digits
literal-variable : (v : ℕ) (b : Bool) → variable (literal v b) ≡ v
literal-variable v true = refl
literal-variable zero false = refl
literal-variable (suc k) false = refl

break_most : (i : ℕ) → length (line_break i) ≤ 2
break_most i = go (ltb 0 i && eqb (i % 16) 0)
  where
    go : (b : Bool) → length (cond {A = List ℕ} b (10 ∷ 118 ∷ []) []) ≤ 2
    go true = omega arith
    go false = omega arith

entry-most : (i b : ℕ) → i < 256 → length (entry i b) ≤ 7
entry-most i b h =
    omega (
      arith,
      length-append (line_break i) (signed_number (suc i) b),
      break_most i,
      numeral-most 2 (literal (suc i) (eqb b 1)) (omega (arith, literal-variable (suc i) (eqb b 1))),
    )

values-most : (choice : List ℕ) (i : ℕ) → i + length choice ≤ 256 → length (values i choice) ≤ 7 * length choice
values-most [] i h = omega arith
values-most (b ∷ choice) i h =
    omega (
      arith,
      length-append (entry i b) (values (suc i) choice),
      entry-most i b (omega arith),
      values-most choice (suc i) (omega arith),
    )

-- the lines of a choice, in their parts
pub solution-length : (broken : ℕ) (choice : List ℕ)
    → length (solution (Some broken) choice) ≡ length opening + (length (decimal broken) + (length optimum + (length (values 0 choice) + length closing)))
solution-length broken choice =
    omega (
      arith,
      length-append opening (decimal broken ++ (optimum ++ (values 0 choice ++ closing))),
      length-append (decimal broken) (optimum ++ (values 0 choice ++ closing)),
      length-append optimum (values 0 choice ++ closing),
      length-append (values 0 choice) closing,
    )

pub solution-most : (broken : ℕ) (choice : List ℕ) → broken < 2 ^ 64 → length choice ≤ 256 → length (solution (Some broken) choice) ≤ longest
solution-most broken choice h k =
    omega (arith, solution-length broken choice, digits-most broken h, values-most choice 0 (omega arith))
