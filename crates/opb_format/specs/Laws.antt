-- The equations by which proofs count and put the parts of a line.
use Rattle.std.specs.Prelude.{◌≡◌, refl, List, [], ◌∷◌, ◌++◌, ℕ, zero, suc, ◌+◌, ◌-◌, ◌≤◌, ◌<◌, ℤ, pos, negsuc, ◌-ℤ◌, length}
use Rattle.std.proofs.Common.{sym, ap, ◌∙◌, not-suc-le-zero, arith, length-append, lt-ltb, le-ltb}
use Rattle.literal.specs.Literal.{variable, wanted}
use Rattle.decimal.specs.Decimal.{decimal}
use Rattle.text.specs.Text.{numeral}
use Rattle.opb_pseudo_boolean.specs.Export.{coefficient, term}
use Rattle.opb_format.specs.Opb.{signed, term_text, bound_text, constraint_word, header_text}

-- the sign of a literal's coefficient
abbrev pub sign_of : ℤ → ℕ
sign_of (pos v) = 43
sign_of (negsuc k) = 45

pub sign_off : (x : ℤ) (w : ℕ) → w ≡ wanted x → w ≡ 0 → 45 ≡ sign_of x
sign_off (pos v) w e z = absurd (omega arith)
sign_off (negsuc k) w e z = refl

pub sign_on : (x : ℤ) (w : ℕ) → w ≡ wanted x → (w ≡ 0 → ⊥) → 43 ≡ sign_of x
sign_on (pos v) w e z = refl
sign_on (negsuc k) w e z = absurd (z e)

-- a weight that is not 0, with the sign
pub signed-coefficient : (w : ℕ) (x : ℤ) → 0 < w → signed (coefficient w x) ≡ sign_of x ∷ decimal w
signed-coefficient zero x h = absurd (not-suc-le-zero h)
signed-coefficient (suc k) (pos v) h = refl
signed-coefficient (suc k) (negsuc j) h = refl

-- a term, as it is put
pub term_parts : (w : ℕ) (x : ℤ) (v : ℕ) → 0 < w → v ≡ variable x
    → (sign_of x ∷ []) ++ (decimal w ++ ((32 ∷ 120 ∷ []) ++ (decimal v ++ (32 ∷ [])))) ≡ term_text (term w x)
term_parts w x v h e =
    ap (λ (k : ℕ). sign_of x ∷ (decimal w ++ 32 ∷ 120 ∷ (decimal k ++ (32 ∷ [])))) e
    ∙ sym (ap (λ (l : List ℕ). l ++ 32 ∷ 120 ∷ (decimal (variable x) ++ (32 ∷ []))) (signed-coefficient w x h))

pub term-size : (w : ℕ) (x : ℤ) (v : ℕ) → 0 < w → v ≡ variable x → length (term_text (term w x)) ≡ length (decimal w) + length (decimal v) + 4
term-size w x v h e =
    omega (
      arith,
      ap length (term_parts w x v h e),
      length-append (decimal w) (32 ∷ 120 ∷ (decimal v ++ 32 ∷ [])),
      length-append (decimal v) (32 ∷ []),
    )

-- a number less another: its digits, or a minus and those of what is lacking
pub difference_less : (a b : ℕ) → a < b → numeral (pos a -ℤ pos b) ≡ 45 ∷ decimal (b - a)
difference_less a zero h = absurd (not-suc-le-zero h)
difference_less a (suc b) h =
    let back : suc (suc b - suc a) ≡ suc b - a = omega arith in
    rw (lt-ltb a (suc b) h) (ap (λ (k : ℕ). 45 ∷ decimal k) back)

pub difference_more : (a b : ℕ) → b ≤ a → numeral (pos a -ℤ pos b) ≡ decimal (a - b)
difference_more a zero h = let same : a + 0 ≡ a - 0 = omega arith in ap decimal same
difference_more a (suc b) h = rw (le-ltb a (suc b) h)

pub bound_size : (k : ℤ) → length (bound_text k) ≡ length (numeral k) + 6
bound_size k = omega (arith, length-append (numeral k) (32 ∷ 59 ∷ 10 ∷ []))

-- the first line
pub header-size : (n c : ℕ) → length (header_text n c) ≡ length (decimal n) + length (decimal c) + 28
header-size n c =
    omega (
      arith,
      length-append (decimal n) (constraint_word ++ (decimal c ++ 10 ∷ [])),
      length-append (decimal c) (10 ∷ []),
    )
