-- Reading and writing a number undo one another.
use Rattle.std.specs.Prelude.{◌≡◌, refl, Bool, true, false, cond, ◌&&◌, List, [], ◌∷◌, ◌++◌, ℕ, zero, suc, ◌+◌, ◌-◌, ◌*◌, ◌/◌, ◌%◌, ◌^◌, ◌≤◌, ◌<◌, eqb, leb, ltb, length, Option, None, Some}
use Rattle.std.proofs.Common.{sym, ap, ◌∙◌, append_assoc, append-nil, pow-suc, not-suc-le-zero, arith, length-append, lt-ltb, le-ltb, le-leb, ltb-true, ltb-false, leb-true, eqb-true}
use Rattle.std.proofs.Math.Bool.{and-false, and-true, and-eq-true_iff}
use Rattle.std.proofs.lemmas.Option.{same_Some, none-some}
use Rattle.std.proofs.Math.Nat.{one-le-pow, pow-le-pow_right}
use Rattle.std.proofs.lemmas.Bool.{lt-leb, eqb-false}
use Rattle.decimal.specs.Decimal.{digits, decimal, is_digit, only_digits, value_from, is_number, number}

-- a number below 10 is one digit, and any other is the digits of its tenth and one more
digits_one : (k v : ℕ) → v < 10 → digits (suc k) v ≡ (48 + v) ∷ []
unfolding digits
digits_one k v h = rw (lt-ltb v 10 h, digits)

digits_more : (k v : ℕ) → 10 ≤ v → digits (suc k) v ≡ digits k (v / 10) ++ ((48 + v % 10) ∷ [])
unfolding digits
digits_more k v h = rw (le-ltb v 10 h, digits)

-- how many digits are allowed does not matter, if they are enough
digits_enough : (j k v : ℕ) → v < j → v < k → digits j v ≡ digits k v
digits_enough zero k v hj hk = absurd (not-suc-le-zero hj)
digits_enough (suc j) zero v hj hk = absurd (not-suc-le-zero hk)
digits_enough (suc j) (suc k) v hj hk = go (ltb v 10) refl (digits_enough j k (v / 10))
  where
    go : (b : Bool) → ltb v 10 ≡ b → (v / 10 < j → v / 10 < k → digits j (v / 10) ≡ digits k (v / 10)) → digits (suc j) v ≡ digits (suc k) v
    go true e ih = digits_one j v (ltb-true v 10 e) ∙ sym (digits_one k v (ltb-true v 10 e))
    go false e ih =
        digits_more j v (ltb-false v 10 e)
        ∙ ap (λ (w : List ℕ). w ++ ((48 + v % 10) ∷ [])) (ih (omega (arith, ltb-false v 10 e)) (omega (arith, ltb-false v 10 e)))
        ∙ sym (digits_more k v (ltb-false v 10 e))

pub decimal_one : (v : ℕ) → v < 10 → decimal v ≡ (48 + v) ∷ []
unfolding decimal
decimal_one v h = digits_one v v h

pub decimal_more : (v : ℕ) → 10 ≤ v → decimal v ≡ decimal (v / 10) ++ ((48 + v % 10) ∷ [])
unfolding decimal
decimal_more v h =
    digits_more v v h
    ∙ ap (λ (w : List ℕ). w ++ ((48 + v % 10) ∷ [])) (digits_enough v (suc (v / 10)) (v / 10) (omega arith) (omega arith))

decimal_next : (v d : ℕ) → 0 < v → d < 10 → decimal (v * 10 + d) ≡ decimal v ++ ((48 + d) ∷ [])
decimal_next v d h l =
    let tenth : (v * 10 + d) / 10 ≡ v = omega arith in
    let last : (v * 10 + d) % 10 ≡ d = omega arith in
    decimal_more (v * 10 + d) (omega arith) ∙ rw (tenth, last)

-- Reading digit by digit, as a loop does: after v, a digit may follow where v is above 0 and below 10,000.
abbrev pub number_after : ℕ → List ℕ → Option ℕ
number_after v [] = Some v
number_after v (b ∷ w) = cond (is_digit b && (ltb 0 v && ltb v 10000)) (number_after (v * 10 + (b - 48)) w) None

abbrev pub by_value : List ℕ → Option ℕ
by_value [] = None
by_value (b ∷ w) = cond (is_digit b) (number_after (b - 48) w) None

-- a digit's byte lies between those of 0 and 9
pub digit_low : (b : ℕ) → is_digit b ≡ true → 48 ≤ b
digit_low b e = leb-true 48 b ((and-eq-true_iff (leb 48 b) (leb b 57)).0 e).0

pub digit_high : (b : ℕ) → is_digit b ≡ true → b ≤ 57
digit_high b e = leb-true b 57 ((and-eq-true_iff (leb 48 b) (leb b 57)).0 e).1

is_digit_lem : (d : ℕ) → d < 10 → is_digit (48 + d) ≡ true
is_digit_lem d h = rw (le-leb 48 (48 + d) (omega arith), le-leb (48 + d) 57 (omega arith))

-- v has k digits
record Sized (k v : ℕ) : Type 0 where
  most : v < 10 ^ k
  least : 10 ^ k ≤ v * 10

sized_more : (k v d : ℕ) → d < 10 → Sized k v → Sized (suc k) (v * 10 + d)
sized_more k v d h s = record { most = omega (arith, pow-suc 10 k, s.most); least = omega (arith, pow-suc 10 k, s.least) }

-- digits after a number of k digits that is not 0
after_long : (w : List ℕ) (k v : ℕ) → k ≤ 5 → Sized k v
    → number_after v w ≡ cond (leb (k + length w) 5 && only_digits w) (Some (value_from v w)) None
after_long [] k v h s = rw (le-leb (k + 0) 5 (omega arith))
after_long (b ∷ w) k v h s = go (is_digit b) refl (ltb k 5) refl (after_long w (suc k) (v * 10 + (b - 48)))
  where
    above : 0 < v
    above = omega (arith, one-le-pow k 10 (omega arith), s.least)

    go : (t : Bool) → is_digit b ≡ t → (u : Bool) → ltb k 5 ≡ u
        → (suc k ≤ 5 → Sized (suc k) (v * 10 + (b - 48)) → number_after (v * 10 + (b - 48)) w ≡ cond (leb (suc k + length w) 5 && only_digits w) (Some (value_from (v * 10 + (b - 48)) w)) None)
        → cond (is_digit b && (ltb 0 v && ltb v 10000)) (number_after (v * 10 + (b - 48)) w) None
        ≡ cond (leb (k + suc (length w)) 5 && (is_digit b && only_digits w)) (Some (value_from (v * 10 + (b - 48)) w)) None
    go false e u f ih = rw (e, and-false (leb (k + suc (length w)) 5))
    go true e true f ih =
        let few : 10 ^ k ≤ 10000 = pow-le-pow_right {n = 10} (omega arith) {i = k} {j = 4} (omega (arith, ltb-true k 5 f)) in
        let same : k + suc (length w) ≡ suc k + length w = omega arith in
        rw (e, lt-ltb 0 v above, lt-ltb v 10000 (omega (arith, s.most)), same)
        (ih (ltb-true k 5 f) (sized_more k v (b - 48) (omega (arith, digit_high b e)) s))
    go true e false f ih =
        let many : 100000 ≤ 10 ^ k = pow-le-pow_right {n = 10} (omega arith) {i = 5} {j = k} (ltb-false k 5 f) in
        rw (e, lt-ltb 0 v above, le-ltb v 10000 (omega (arith, s.least)), lt-leb (k + suc (length w)) 5 (omega (arith, ltb-false k 5 f)))

-- the words of document 01 and the reading digit by digit agree
pub number_by_value : (w : List ℕ) → number w ≡ by_value w
number_by_value [] = refl
number_by_value (b ∷ w) = go (is_digit b) refl (eqb b 48) refl w
  where
    first : (b - 48) ≡ 0 * 10 + (b - 48)
    first = omega arith

    go : (t : Bool) → is_digit b ≡ t → (u : Bool) → eqb b 48 ≡ u → (w : List ℕ) → number (b ∷ w) ≡ by_value (b ∷ w)
    go false e u f w = rw (e, and-false (leb (suc (length w)) 5), and-false (leb 1 (suc (length w))))
    go true e true f [] = rw (e) (ap (λ (v : ℕ). Some v) (sym first))
    go true e false f [] = rw (e) (ap (λ (v : ℕ). Some v) (sym first))
    go true e true f (c ∷ w) =
        rw (
          e,
          f,
          and-false (is_digit c && only_digits w),
          and-false (leb (suc (suc (length w))) 5),
          and-false (leb 1 (suc (suc (length w)))),
          le-ltb 0 (b - 48) (omega (arith, eqb-true b 48 f)),
          and-false (is_digit c),
        )
    go true e false f (c ∷ w) =
        let one : Sized 1 (b - 48) = record { most = omega (arith, digit_high b e); least = omega (arith, digit_low b e, eqb-false b 48 f) } in
        let count : 1 + suc (length w) ≡ suc (suc (length w)) = omega arith in
        sym
        (rw (after_long (c ∷ w) 1 (b - 48) (omega arith) one, e, f, count, le-leb 1 (suc (suc (length w))) (omega arith), and-true (is_digit c && only_digits w), sym first))

-- one more digit after a number that reads as v
after_snoc : (w : List ℕ) (u v d : ℕ) → number_after u w ≡ Some v → 0 < v → v < 10000 → d < 10 → number_after u (w ++ ((48 + d) ∷ [])) ≡ Some (v * 10 + d)
after_snoc [] u v d e p q h =
    let same : u ≡ v = same_Some u v e in
    let back : 48 + d - 48 ≡ d = omega arith in
    rw (is_digit_lem d h, lt-ltb 0 u (omega arith), lt-ltb u 10000 (omega arith), back, same)
after_snoc (b ∷ w) u v d e p q h = go (is_digit b && (ltb 0 u && ltb u 10000)) e (after_snoc w (u * 10 + (b - 48)) v d)
  where
    go : (t : Bool) → cond t (number_after (u * 10 + (b - 48)) w) None ≡ Some v
        → (number_after (u * 10 + (b - 48)) w ≡ Some v → 0 < v → v < 10000 → d < 10 → number_after (u * 10 + (b - 48)) (w ++ ((48 + d) ∷ [])) ≡ Some (v * 10 + d))
        → cond t (number_after (u * 10 + (b - 48)) (w ++ ((48 + d) ∷ []))) None ≡ Some (v * 10 + d)
    go true f ih = ih f p q h
    go false f ih = absurd (none-some v f)

by_value_snoc : (w : List ℕ) (v d : ℕ) → by_value w ≡ Some v → 0 < v → v < 10000 → d < 10 → by_value (w ++ ((48 + d) ∷ [])) ≡ Some (v * 10 + d)
by_value_snoc [] v d e p q h = absurd (none-some v e)
by_value_snoc (b ∷ w) v d e p q h = go (is_digit b) e
  where
    go : (t : Bool) → cond t (number_after (b - 48) w) None ≡ Some v → cond t (number_after (b - 48) (w ++ ((48 + d) ∷ []))) None ≡ Some (v * 10 + d)
    go true f = after_snoc w (b - 48) v d f p q h
    go false f = absurd (none-some v f)

by_value_decimal : (k v : ℕ) → v < k → v < 100000 → by_value (decimal v) ≡ Some v
by_value_decimal zero v h l = absurd (not-suc-le-zero h)
by_value_decimal (suc k) v h l = go (ltb v 10) refl (by_value_decimal k (v / 10))
  where
    go : (t : Bool) → ltb v 10 ≡ t → (v / 10 < k → v / 10 < 100000 → by_value (decimal (v / 10)) ≡ Some (v / 10)) → by_value (decimal v) ≡ Some v
    go true e ih =
        let back : 48 + v - 48 ≡ v = omega arith in
        rw (decimal_one v (ltb-true v 10 e), is_digit_lem v (ltb-true v 10 e), back)
    go false e ih =
        let whole : v / 10 * 10 + v % 10 ≡ v = omega arith in
        let big : 10 ≤ v = ltb-false v 10 e in
        rw (decimal_more v big)
        (by_value_snoc (decimal (v / 10)) (v / 10) (v % 10) (ih (omega arith) (omega arith)) (omega arith) (omega arith) (omega arith)
        ∙ ap (λ (x : ℕ). Some x) whole)

-- the written digits of a number read as that number
pub number-decimal : (v : ℕ) → v < 100000 → number (decimal v) ≡ Some v
number-decimal v h = number_by_value (decimal v) ∙ by_value_decimal (suc v) v (omega arith) h

after-decimal : (w : List ℕ) (v x : ℕ) → number_after v w ≡ Some x → decimal x ≡ decimal v ++ w
after-decimal [] v x e = ap decimal (sym (same_Some v x e)) ∙ sym (append-nil (decimal v))
after-decimal (b ∷ w) v x e = go (is_digit b) refl (ltb 0 v) refl (ltb v 10000) refl e (after-decimal w (v * 10 + (b - 48)) x)
  where
    go : (t : Bool) → is_digit b ≡ t → (p : Bool) → ltb 0 v ≡ p → (q : Bool) → ltb v 10000 ≡ q
        → cond (t && (p && q)) (number_after (v * 10 + (b - 48)) w) None ≡ Some x
        → (number_after (v * 10 + (b - 48)) w ≡ Some x → decimal x ≡ decimal (v * 10 + (b - 48)) ++ w)
        → decimal x ≡ decimal v ++ b ∷ w
    go false e p f q g r ih = absurd (none-some x r)
    go true e false f q g r ih = absurd (none-some x r)
    go true e true f false g r ih = absurd (none-some x r)
    go true e true f true g r ih =
        let byte : 48 + (b - 48) ≡ b = omega (arith, digit_low b e) in
        ih r
        ∙ ap (λ (l : List ℕ). l ++ w) (decimal_next v (b - 48) (ltb-true 0 v f) (omega (arith, digit_high b e)))
        ∙ append_assoc (decimal v) ((48 + (b - 48)) ∷ []) w
        ∙ ap (λ (c : ℕ). decimal v ++ c ∷ w) byte

by_value_written : (w : List ℕ) (v : ℕ) → by_value w ≡ Some v → decimal v ≡ w
by_value_written [] v e = absurd (none-some v e)
by_value_written (b ∷ w) v e = go (is_digit b) refl e
  where
    go : (t : Bool) → is_digit b ≡ t → cond t (number_after (b - 48) w) None ≡ Some v → decimal v ≡ b ∷ w
    go false e r = absurd (none-some v r)
    go true e r =
        let byte : 48 + (b - 48) ≡ b = omega (arith, digit_low b e) in
        after-decimal w (b - 48) v r
        ∙ ap (λ (l : List ℕ). l ++ w) (decimal_one (b - 48) (omega (arith, digit_high b e)))
        ∙ ap (λ (c : ℕ). c ∷ w) byte

-- what reads as a number is how that number is written
pub decimal-number : (w : List ℕ) (v : ℕ) → number w ≡ Some v → decimal v ≡ w
decimal-number w v e = by_value_written w v (sym (number_by_value w) ∙ e)

-- a number has at most five digits, so it is below 100,000
after_small : (w : List ℕ) (v x : ℕ) → v < 100000 → number_after v w ≡ Some x → x < 100000
after_small [] v x h e = omega (arith, same_Some v x e)
after_small (b ∷ w) v x h e = go (is_digit b) refl (ltb 0 v) (ltb v 10000) refl e (after_small w (v * 10 + (b - 48)) x)
  where
    go : (t : Bool) → is_digit b ≡ t → (p q : Bool) → ltb v 10000 ≡ q
        → cond (t && (p && q)) (number_after (v * 10 + (b - 48)) w) None ≡ Some x
        → (v * 10 + (b - 48) < 100000 → number_after (v * 10 + (b - 48)) w ≡ Some x → x < 100000) → x < 100000
    go false e p q g r ih = absurd (none-some x r)
    go true e false q g r ih = absurd (none-some x r)
    go true e true false g r ih = absurd (none-some x r)
    go true e true true g r ih = ih (omega (arith, digit_high b e, ltb-true v 10000 g)) r

by_value_small : (w : List ℕ) (v : ℕ) → by_value w ≡ Some v → v < 100000
by_value_small [] v e = absurd (none-some v e)
by_value_small (b ∷ w) v e = go (is_digit b) refl e
  where
    go : (t : Bool) → is_digit b ≡ t → cond t (number_after (b - 48) w) None ≡ Some v → v < 100000
    go false e r = absurd (none-some v r)
    go true e r = after_small w (b - 48) v (omega (arith, digit_high b e)) r

pub number_small : (w : List ℕ) (v : ℕ) → number w ≡ Some v → v < 100000
number_small w v e = by_value_small w v (sym (number_by_value w) ∙ e)

-- a written number has only digits, and at least one
digits_append : (w : List ℕ) (d : ℕ) → d < 10 → only_digits w ≡ true → only_digits (w ++ ((48 + d) ∷ [])) ≡ true
digits_append [] d h e = rw (is_digit_lem d h)
digits_append (b ∷ w) d h e =
    let parts = (and-eq-true_iff (is_digit b) (only_digits w)).0 e in
    rw parts.0 (digits_append w d h parts.1)

only_digits_lem : (k v : ℕ) → v < k → only_digits (decimal v) ≡ true
only_digits_lem zero v h = absurd (not-suc-le-zero h)
only_digits_lem (suc k) v h = go (ltb v 10) refl (only_digits_lem k (v / 10))
  where
    go : (t : Bool) → ltb v 10 ≡ t → (v / 10 < k → only_digits (decimal (v / 10)) ≡ true) → only_digits (decimal v) ≡ true
    go true e ih = rw (decimal_one v (ltb-true v 10 e), is_digit_lem v (ltb-true v 10 e))
    go false e ih =
        rw (decimal_more v (ltb-false v 10 e))
        (digits_append (decimal (v / 10)) (v % 10) (omega arith) (ih (omega (arith, ltb-false v 10 e))))

pub decimal-digits : (v : ℕ) → only_digits (decimal v) ≡ true
decimal-digits v = only_digits_lem (suc v) v (omega arith)

-- Written digits have the value that they were written from, however many they are: if they read as a number at all, it is that one.
value_snoc : (w : List ℕ) (v d : ℕ) → value_from v (w ++ ((48 + d) ∷ [])) ≡ value_from v w * 10 + d
value_snoc [] v d = omega arith
value_snoc (b ∷ w) v d = value_snoc w (v * 10 + (b - 48)) d

value_decimal : (k v : ℕ) → v < k → value_from 0 (decimal v) ≡ v
value_decimal zero v h = absurd (not-suc-le-zero h)
value_decimal (suc k) v h = go (ltb v 10) refl (value_decimal k (v / 10))
  where
    go : (t : Bool) → ltb v 10 ≡ t → (v / 10 < k → value_from 0 (decimal (v / 10)) ≡ v / 10) → value_from 0 (decimal v) ≡ v
    go true e ih = let back : 0 * 10 + (48 + v - 48) ≡ v = omega arith in rw (decimal_one v (ltb-true v 10 e)) back
    go false e ih =
        let big : 10 ≤ v = ltb-false v 10 e in
        let tenth : value_from 0 (decimal (v / 10)) ≡ v / 10 = ih (omega arith) in
        let whole : v / 10 * 10 + v % 10 ≡ v = omega arith in
        rw (decimal_more v big, value_snoc (decimal (v / 10)) 0 (v % 10), tenth) whole

pub decimal_read : (v x : ℕ) → number (decimal v) ≡ Some x → x ≡ v
decimal_read v x e = go (is_number (decimal v)) e
  where
    go : (t : Bool) → cond t (Some (value_from 0 (decimal v))) None ≡ Some x → x ≡ v
    go true f = sym (same_Some (value_from 0 (decimal v)) x f) ∙ value_decimal (suc v) v (omega arith)
    go false f = absurd (none-some x f)

-- the number of digits: one, or one more than a tenth has
pub count_one : (v : ℕ) → v < 10 → length (decimal v) ≡ 1
count_one v h = ap length (decimal_one v h)

pub count_more : (v : ℕ) → 10 ≤ v → length (decimal v) ≡ length (decimal (v / 10)) + 1
count_more v h = ap length (decimal_more v h) ∙ length-append (decimal (v / 10)) ((48 + v % 10) ∷ [])

pub decimal-some : (v : ℕ) → 0 < length (decimal v)
decimal-some v = go (ltb v 10) refl
  where
    go : (t : Bool) → ltb v 10 ≡ t → 0 < length (decimal v)
    go true e = omega (arith, count_one v (ltb-true v 10 e))
    go false e = omega (arith, count_more v (ltb-false v 10 e))

pub count_most : (k v : ℕ) → v < 10 ^ suc k → length (decimal v) ≤ suc k
count_most zero v h = omega (arith, count_one v h)
count_most (suc k) v h = go (ltb v 10) refl (count_most k (v / 10) (omega (arith, pow-suc 10 (suc k))))
  where
    go : (t : Bool) → ltb v 10 ≡ t → length (decimal (v / 10)) ≤ suc k → length (decimal v) ≤ suc (suc k)
    go true e ih = omega (arith, count_one v (ltb-true v 10 e))
    go false e ih = omega (arith, count_more v (ltb-false v 10 e))
