-- `rule_file::class_of` meets its contract: the numbers and the ranges of each arm have the definition's class.
use mathlib.Core.Path.{◌≡◌, refl, sym}
use mathlib.Core.Bool.{Bool, true, false}
use mathlib.Core.Logic.{inl, inr}
use Prim.Native.Nat.{ℕ, ◌≤◌, ◌<◌}
use native.Mathlib.Omega.{arith}
use lib.Dec.{eqb}
use borrow.Author.Tests.{eqb-true, eqb-false, le-leb, lt-leb, ne_eqb}
use Rattle.decimal.specs.Decimal.{is_digit}
use Rattle.rule_file.specs.Class.{blank, digit, other, class_of}
use Rattle.rule_file.proofs.Laws.{digit_class}
use Rattle.rule_file.proofs.class_of.Goals as goal

-- where the byte is one number, the definition computes
at : {k b : ℕ} → b ≡ k → class_of k ≡ class_of b
at e = rw (e)

carriage_return_or_space : (b : ℕ) → ((b ≡ 13 → ⊥) → b ≡ 32) → blank ≡ class_of b
unfolding class_of
carriage_return_or_space b h = go (eqb b 13) refl
  where
    go : (t : Bool) → eqb b 13 ≡ t → blank ≡ class_of b
    go true e = at (eqb-true b 13 e)
    go false e = at (h (eqb-false b 13 e))

tab_or_line_feed : (b : ℕ) → 9 ≤ b → b < 11 → blank ≡ class_of b
unfolding class_of
tab_or_line_feed b l h = go (eqb b 9) refl
  where
    go : (t : Bool) → eqb b 9 ≡ t → blank ≡ class_of b
    go true e = at (eqb-true b 9 e)
    go false e =
        let feed : b ≡ 10 = omega (arith, eqb-false b 9 e) in
        at feed

digits : (b : ℕ) → 48 ≤ b → b < 58 → digit ≡ class_of b
digits b l h = sym (digit_class b (rw (le-leb 48 b l, le-leb b 57 (omega arith))))

-- a byte that is none of the numbers that the definition names
others : (b : ℕ) → (b ≡ 9 → ⊥) → (b ≡ 10 → ⊥) → (b ≡ 13 → ⊥) → (b ≡ 32 → ⊥) → is_digit b ≡ false → (b ≡ 45 → ⊥) → (b ≡ 99 → ⊥) → other ≡ class_of b
unfolding class_of
others b t n r s d m c = rw (ne_eqb b 9 t, ne_eqb b 10 n, ne_eqb b 13 r, ne_eqb b 32 s, d, ne_eqb b 45 m, ne_eqb b 99 c)

below-digits : (b : ℕ) → b < 48 → is_digit b ≡ false
below-digits b h = rw (lt-leb 48 b h)

above_digits : (b : ℕ) → 58 ≤ b → is_digit b ≡ false
above_digits b l = rw (le-leb 48 b (omega arith), lt-leb b 57 l)

before_blanks : (b : ℕ) → b < 9 → other ≡ class_of b
before_blanks b h =
    others b (omega arith) (omega arith) (omega arith) (omega arith) (below-digits b (omega arith)) (omega arith) (omega arith)

before-digits : (b : ℕ) → 11 ≤ b → b < 48 → (b ≡ 13 → ⊥) → (b ≡ 32 → ⊥) → (b ≡ 45 → ⊥) → other ≡ class_of b
before-digits b l h r s m = others b (omega arith) (omega arith) r s (below-digits b h) m (omega arith)

after-digits : (b : ℕ) → 58 ≤ b → (b ≡ 99 → ⊥) → other ≡ class_of b
after-digits b l c =
    others b (omega arith) (omega arith) (omega arith) (omega arith) (above_digits b l) (omega arith) c

pub returns-in-45 : goal.returns-in-45
unfolding class_of
returns-in-45 c = at c.in-45.is

pub returns-in-99 : goal.returns-in-99
unfolding class_of
returns-in-99 c = at c.in-99.is

pub returns-in-48-to-57 : goal.returns-in-48-to-57
returns-in-48-to-57 c = digits _ (omega arith) (omega arith)

pub returns-in_default : goal.returns-in_default
returns-in_default c = before_blanks _ (omega arith)

pub returns-in_default-2 : goal.returns-in_default-2
returns-in_default-2 c = before-digits _ (omega arith) (omega arith) (λ e. c.in_default.in_default-own.rest.0.0.1 (inl e)) (λ e. c.in_default.in_default-own.rest.0.0.1 (inr e)) c.in_default.in_default-own.rest.0.1

pub returns-in_default-3 : goal.returns-in_default-3
returns-in_default-3 c = after-digits _ (omega arith) c.in_default.in_default-own.rest.1

pub returns-in-9-to-10 : goal.returns-in-9-to-10
returns-in-9-to-10 c = carriage_return_or_space _ (λ e. omega arith)

pub returns-in-9-to-10-2 : goal.returns-in-9-to-10-2
returns-in-9-to-10-2 c = tab_or_line_feed _ (omega arith) (omega arith)
