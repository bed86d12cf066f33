-- The literals of a clause as members of a list: one is told by its variable and the value it wants, and a clause that repeats none is no longer than one that has them all.
use Rattle.std.specs.Prelude.{◌≡◌, refl, Bool, true, false, ◌||◌, ℕ, suc, ◌≤◌, eqb, ℤ, pos, negsuc, length}
use Rattle.std.proofs.Common.{sym, ap, ◌∙◌, true≢false, ⊎_elim, zero-le, arith, eq-eqb, eqb-true}
use mathlib.Core.List.Memᴰ
use mathlib.Core.List.{List, [], ◌∷◌, Memᴰ}
use Rattle.std.proofs.lemmas.Bool.{not-true}
use Rattle.literal.specs.Literal.{variable, wanted, is_literal}
use Rattle.formula.specs.Formula.{contains}
use Rattle.choices.proofs.Lists.{any_at}
use Rattle.rule_list_soundness.specs.Flat.{joining}
use Rattle.rule_list_soundness.specs.Laws.{and_left, and_right, Joined, joined}

-- a literal is the one of its variable that wants its value
pub is_itself : (x : ℤ) → is_literal (variable x) (wanted x) x ≡ true
is_itself x = rw (eq-eqb (variable x) (variable x) refl, eq-eqb (wanted x) (wanted x) refl)

pub told : (v b : ℕ) (x : ℤ) → is_literal v b x ≡ true → (variable x ≡ v) × (wanted x ≡ b)
told v b x e =
    (eqb-true (variable x) v (and_left (eqb (variable x) v) (eqb (wanted x) b) e), eqb-true (wanted x) b (and_right (eqb (variable x) v) (eqb (wanted x) b) e))

-- and no other literal is
pub same_literal : (x y : ℤ) → variable x ≡ variable y → wanted x ≡ wanted y → x ≡ y
same_literal (pos i) (pos j) e f = ap pos e
same_literal (pos i) (negsuc j) e f = absurd (omega arith)
same_literal (negsuc i) (pos j) e f = absurd (omega arith)
same_literal (negsuc i) (negsuc j) e f = ap negsuc (omega arith)

-- no literal of a clause is among those that were read before it
apart : (n : ℕ) (read c : List ℤ) {x : ℤ} → joining n read c ≡ true → Memᴰ x c → contains (variable x) (wanted x) read ≡ false
apart n read [] e m = absurd (Memᴰ.not-nil m)
apart n read (y ∷ c) {x} e m =
    let j : Joined n read y c = joined n read y c e in
    ⊎_elim
    (λ (q : x ≡ y). rw q (not-true (contains (variable y) (wanted y) read) j.apart))
    (λ (q : Memᴰ x c). right (is_literal (variable x) (wanted x) y) (apart n (y ∷ read) c j.rest q))
    (Memᴰ.cases_cons m)
  where
    right : (b : Bool) → b || contains (variable x) (wanted x) read ≡ false → contains (variable x) (wanted x) read ≡ false
    right true q = absurd (true≢false q)
    right false q = q

-- a list without one of its members
record Without (x : ℤ) (d : List ℤ) : Type 0 where
  rest : List ℤ
  one_less : length d ≡ suc (length rest)
  others : (y : ℤ) → (y ≡ x → ⊥) → Memᴰ y d → Memᴰ y rest

without : (x : ℤ) (d : List ℤ) → Memᴰ x d → Without x d
without x [] m = absurd (Memᴰ.not-nil m)
without x (z ∷ d) m = ⊎_elim here (λ (q : Memᴰ x d). later (without x d q)) (Memᴰ.cases_cons m)
  where
    here : x ≡ z → Without x (z ∷ d)
    here e =
        record {
          rest = d;
          one_less = refl;
          others = λ y ne q. ⊎_elim (λ (r : y ≡ z). absurd (ne (r ∙ sym e))) (λ (r : Memᴰ y d). r) (Memᴰ.cases_cons q);
        }

    later : Without x d → Without x (z ∷ d)
    later w =
        record {
          rest = z ∷ w.rest;
          one_less = ap suc w.one_less;
          others = λ y ne q. ⊎_elim (λ (r : y ≡ z). Memᴰ.head r) (λ (r : Memᴰ y d). Memᴰ.tail (w.others y ne r)) (Memᴰ.cases_cons q);
        }

-- a clause that repeats no literal is no longer than a list that has all its literals
pub no_longer : (n : ℕ) (c read d : List ℤ) → joining n read c ≡ true → ((x : ℤ) → Memᴰ x c → Memᴰ x d) → length c ≤ length d
no_longer n [] read d e f = zero-le
no_longer n (x ∷ c) read d e f =
    let j : Joined n read x c = joined n read x c e in
    let w : Without x d = without x d (f x (Memᴰ.head refl)) in
    let shorter : length c ≤ length w.rest = no_longer n c (x ∷ read) w.rest j.rest (λ y m. w.others y (differs j.rest y m) (f y (Memᴰ.tail m))) in
    omega (arith, w.one_less, shorter)
  where
    differs : joining n (x ∷ read) c ≡ true → (y : ℤ) → Memᴰ y c → y ≡ x → ⊥
    differs r y m q =
        let found : contains (variable y) (wanted y) (x ∷ read) ≡ true = any_at (is_literal (variable y) (wanted y)) {x = y} {l = x ∷ read} (Memᴰ.head q) (is_itself y) in
        true≢false (sym found ∙ apart n (x ∷ read) c r m)
