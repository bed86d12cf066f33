-- The laws of a byte of the wish row. Proofs elsewhere go by these, and not by the numbers that stand for a wish.
use Rattle.std.specs.Prelude.{◌≡◌, refl, Bool, true, false, cond, ℕ, zero, suc, ◌+◌, ◌-◌, ◌*◌, ◌≤◌, ◌<◌, eqb}
use Rattle.std.proofs.Common.{sym, ap, ◌∙◌, zero-le, le_refl, not-suc-le-zero, le_of_suc-le-suc, arith, lit<, lt-ltb, le-leb, ltb-true, ltb-false, leb-true, eq-eqb, ne_eqb, eqb-true}
use Rattle.literal.specs.Literal.{variable, wanted, literal}
use Rattle.wish.specs.Wish.{is_row_byte, free_byte, is_wish, wish_for, wished_value, unwished_value, weight, max_weight, cost, breaking, keeping, on_weight}

-- the byte of a free variable, and the only one that is no wish
pub free_byte_lem : is_row_byte free_byte ≡ true
free_byte_lem = refl

pub free_no_wish : is_wish free_byte ≡ false
free_no_wish = refl

pub no_wish_free : (w : ℕ) → is_row_byte w ≡ true → is_wish w ≡ false → w ≡ free_byte
no_wish_free w h e = omega (arith, leb-true w 2 h, ltb-false w 2 e)

-- the byte of a wish asks its value, and is known by it
pub for_byte : (b : ℕ) → b < 2 → is_row_byte (wish_for b) ≡ true
for_byte b h = le-leb b 2 (omega arith)

pub for_wish : (b : ℕ) → b < 2 → is_wish (wish_for b) ≡ true
for_wish b h = lt-ltb b 2 h

pub for_wished : (b : ℕ) → b < 2 → wished_value (wish_for b) ≡ b
for_wished b h = rw (lt-ltb b 2 h)

pub wished_for : (w : ℕ) → is_wish w ≡ true → wish_for (wished_value w) ≡ w
wished_for w e = rw e

-- both values are off or on
pub wished_bit : (w : ℕ) → wished_value w < 2
wished_bit w = go (is_wish w) refl
  where
    go : (t : Bool) → is_wish w ≡ t → cond t w 0 < 2
    go true e = ltb-true w 2 e
    go false e = lit< tt

pub unwished_bit : (w : ℕ) → unwished_value w < 2
unwished_bit w = go (is_wish w)
  where
    go : (t : Bool) → cond t (1 - w) 0 < 2
    go true = omega arith
    go false = lit< tt

-- a wish weighs something, a free variable nothing
pub weight_wish : (w : ℕ) → is_wish w ≡ true → 0 < weight w
weight_wish w e = rw e (lit< tt)

pub weight_free : (w : ℕ) → is_wish w ≡ false → weight w ≡ 0
weight_free w e = rw e

pub weight-most : (w : ℕ) → weight w ≤ max_weight
weight-most w = go (is_wish w)
  where
    go : (t : Bool) → cond t 1 0 ≤ max_weight
    go true = le_refl 1
    go false = zero-le

-- the value against a wish costs the wish's weight, and nothing else costs anything
pub cost_broken : (w b : ℕ) → b ≡ unwished_value w → cost w b ≡ weight w
cost_broken w b e = rw (eq-eqb b (unwished_value w) e)

pub cost_kept : (w b : ℕ) → (b ≡ unwished_value w → ⊥) → cost w b ≡ 0
cost_kept w b e = rw (ne_eqb b (unwished_value w) e)

pub cost-weight : (w b : ℕ) → cost w b ≤ weight w
cost-weight w b = go (eqb b (unwished_value w))
  where
    go : (t : Bool) → cond t (weight w) 0 ≤ weight w
    go true = le_refl (weight w)
    go false = zero-le

pub cost-most : (w b : ℕ) → cost w b ≤ max_weight
cost-most w b = omega (arith, cost-weight w b, weight-most w)

pub cost_free : (w b : ℕ) → is_wish w ≡ false → cost w b ≡ 0
cost_free w b e = omega (arith, cost-weight w b, weight_free w e)

-- a free variable, by its byte
pub free_cost : (b : ℕ) → cost free_byte b ≡ 0
free_cost b = cost_free free_byte b free_no_wish

-- an unassigned variable breaks no wish
pub cost-unassigned : (w : ℕ) → cost w 2 ≡ 0
cost-unassigned w = cost_kept w 2 (λ e. omega (arith, unwished_bit w))

-- the wished value costs nothing
pub cost_wished : (w : ℕ) → cost w (wished_value w) ≡ 0
cost_wished w = go (is_wish w) refl
  where
    go : (t : Bool) → is_wish w ≡ t → cost w (wished_value w) ≡ 0
    go true e = cost_kept w (wished_value w) (λ q. apart w e (sym (ap (λ (s : Bool). cond s w 0) e) ∙ q ∙ ap (λ (s : Bool). cond s (1 - w) 0) e))
      where
        apart : (w : ℕ) → is_wish w ≡ true → w ≡ 1 - w → ⊥
        apart w e q = omega (arith, ltb-true w 2 e)
    go false e = cost_free w (wished_value w) e

-- what costs something is the value against the wish
pub cost_unwished : (w b : ℕ) → 0 < cost w b → b ≡ unwished_value w
cost_unwished w b h = go (eqb b (unwished_value w)) refl h
  where
    go : (t : Bool) → eqb b (unwished_value w) ≡ t → 0 < cond t (weight w) 0 → b ≡ unwished_value w
    go true e h = eqb-true b (unwished_value w) e
    go false e h = absurd (not-suc-le-zero h)

-- the literal that asks a variable for a value has that variable, and wants the value
literal-variable : (k : ℕ) (t : Bool) → variable (literal (suc k) t) ≡ suc k
literal-variable k true = refl
literal-variable k false = refl

literal-wanted : (k b : ℕ) → b < 2 → wanted (literal (suc k) (eqb b 1)) ≡ b
literal-wanted k zero h = refl
literal-wanted k (suc zero) h = refl
literal-wanted k (suc (suc b)) h = absurd (not-suc-le-zero (le_of_suc-le-suc (le_of_suc-le-suc h)))

-- the literal that breaks a wish has the wish's variable, and wants the value against the wish
pub breaking-variable : (k w : ℕ) → variable (breaking (suc k) w) ≡ suc k
breaking-variable k w = literal-variable k (eqb (unwished_value w) 1)

pub breaking-wanted : (k w : ℕ) → wanted (breaking (suc k) w) ≡ unwished_value w
breaking-wanted k w = literal-wanted k (unwished_value w) (unwished_bit w)

-- the literal that keeps a wish has the wish's variable, and wants the wished value
pub keeping-variable : (k w : ℕ) → variable (keeping (suc k) w) ≡ suc k
keeping-variable k w = literal-variable k (eqb (wished_value w) 1)

pub keeping-wanted : (k w : ℕ) → wanted (keeping (suc k) w) ≡ wished_value w
keeping-wanted k w = literal-wanted k (wished_value w) (wished_bit w)

-- a wish is for one value and against the other
other : (w b : ℕ) → is_wish w ≡ true → wished_value w ≡ b → unwished_value w ≡ 1 - b
other w b e q = rw (e) (ap (λ (k : ℕ). 1 - k) (rw e at q))

-- a value of a wish that costs nothing is the wished one
pub kept_wished : (w b : ℕ) → is_wish w ≡ true → b < 2 → cost w b ≡ 0 → b ≡ wished_value w
kept_wished w b e h z =
    let kept : b ≡ unwished_value w → ⊥ = λ q. omega (arith, cost_broken w b q, weight_wish w e) in
    omega (arith, other w (wished_value w) e refl, wished_bit w)

-- of a wish for on, what a value breaks and what it keeps make up the weight; of a wish for off, what it breaks is the weight where it is on
pub cost-on : (w b : ℕ) → is_wish w ≡ true → wished_value w ≡ 1 → b < 2 → cost w b + weight w * b ≡ weight w
cost-on w zero e on h = omega (arith, cost_broken w 0 (sym (other w 1 e on)))
cost-on w (suc zero) e on h = omega (arith, cost_kept w 1 (λ q. (let z : ◌≡◌ {A = ℕ} 1 0 = q ∙ other w 1 e on in omega arith)))
cost-on w (suc (suc b)) e on h = absurd (not-suc-le-zero (le_of_suc-le-suc (le_of_suc-le-suc h)))

pub cost_off : (w b : ℕ) → is_wish w ≡ true → wished_value w ≡ 0 → b < 2 → cost w b ≡ weight w * b
cost_off w zero e off h = omega (arith, cost_kept w 0 (λ q. (let z : ◌≡◌ {A = ℕ} 0 1 = q ∙ other w 0 e off in omega arith)))
cost_off w (suc zero) e off h = omega (arith, cost_broken w 1 (sym (other w 0 e off)))
cost_off w (suc (suc b)) e off h = absurd (not-suc-le-zero (le_of_suc-le-suc (le_of_suc-le-suc h)))

-- what a byte adds to the number wished on: its weight if it wishes on, else nothing
pub on_wished : (w : ℕ) → wished_value w ≡ 1 → on_weight w ≡ weight w
on_wished w e = ap (λ (b : ℕ). cond (eqb b 1) (weight w) 0) e

pub on_unwished : (w : ℕ) → wished_value w ≡ 0 → on_weight w ≡ 0
on_unwished w e = ap (λ (b : ℕ). cond (eqb b 1) (weight w) 0) e

pub on_free : (w : ℕ) → is_wish w ≡ false → on_weight w ≡ 0
on_free w e = go (eqb (wished_value w) 1)
  where
    go : (t : Bool) → cond t (weight w) 0 ≡ 0
    go true = weight_free w e
    go false = refl

pub on-weight : (w : ℕ) → on_weight w ≤ weight w
on-weight w = go (eqb (wished_value w) 1)
  where
    go : (t : Bool) → cond t (weight w) 0 ≤ weight w
    go true = le_refl (weight w)
    go false = zero-le
