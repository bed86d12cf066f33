-- The equations by which proofs write a group's clauses, literal by literal and clause by clause.
use Rattle.std.specs.Prelude.{◌≡◌, refl, Bool, true, false, cond, ◌&&◌, List, [], ◌∷◌, ◌++◌, ℕ, zero, suc, ◌+◌, ◌≤◌, ◌<◌, eqb, ℤ, pos, neg_ℤ, length}
use Rattle.std.proofs.Common.{sym, ap, ◌∙◌, append_assoc, not-suc-le-zero, add-one, arith, length-append, lt-ltb, le-ltb, eq-eqb, ne_eqb, eqb-true}
use Rattle.std.proofs.lemmas.Bool.{eqb-false}
use Rattle.literal.specs.Literal.{variable}
use Rattle.writing.specs.Wrote.{Wrote, wrote_as, wrote_more, wrote_length}
use Rattle.rule_list_soundness.specs.Flat.{flat}
use Rattle.rule_list_soundness.specs.Laws.{flat_append}
use Rattle.totalizer.specs.Totalizer.{lower, upper, up, down, below}
use Rattle.totalizer_adder.specs.declared.outputs.Outputs.{Outputs}
use Rattle.totalizer_adder.specs.declared.outputs.Outputs.TheVariants.{Leaf, Counters}
use Rattle.totalizer_adder.specs.Adder.{outputs, reach}

-- a group's outputs: the variable of one, and that of a lower one
pub variable-outputs : (a : Outputs) (k : ℕ) → variable (outputs a k) ≡ reach a k
variable-outputs (Leaf x) k = refl
variable-outputs (Counters base) k = refl

pub reach_less : (a : Outputs) (i k : ℕ) → i ≤ k → reach a i ≤ reach a k
reach_less (Leaf x) i k h = omega arith
reach_less (Counters base) i k h = omega arith

-- what a literal of an output is, and when it is left out
module _ (a : ℕ → ℤ) where
  pub lower_none : (i : ℕ) → i ≡ 0 → [] ≡ lower a i
  lower_none i e = rw e

  pub lower_one : (i : ℕ) → (i ≡ 0 → ⊥) → neg_ℤ (a i) ∷ [] ≡ lower a i
  lower_one zero h = absurd (h refl)
  lower_one (suc i) h = refl

  pub upper_none : (p i : ℕ) → p ≤ i → [] ≡ upper a p i
  upper_none p i h = rw (le-ltb i p h)

  pub upper_one : (p i : ℕ) → i < p → a (i + 1) ∷ [] ≡ upper a p i
  upper_one p i h = rw (lt-ltb i p h, add-one i)

-- a clause of two parts and one more literal, in the list
abbrev pub closed : List ℤ → List ℤ → ℤ → List ℤ
closed c d x = c ++ d ++ x ∷ pos 0 ∷ []

flat-closed : (c d : List ℤ) (x : ℤ) → closed c d x ≡ flat ((c ++ d ++ x ∷ []) ∷ [])
flat-closed c d x = sym (append_assoc (c ++ d) (x ∷ []) (pos 0 ∷ []))

pub length-closed : (c d : List ℤ) (x : ℤ) → length (closed c d x) ≡ length c + length d + 2
length-closed c d x = omega (arith, length-append (c ++ d) (x ∷ pos 0 ∷ []), length-append c d)

-- such a clause is what is to be written, and has room
pub record Due (c d : List ℤ) (x : ℤ) (w l : List ℤ) (from : ℕ) : Type 0 where
  pub whole : closed c d x ≡ w
  pub room : from + length w ≤ length l

-- the writing of it, part by part: each part has room, and together they are the clause
module _ {c d : List ℤ} {x : ℤ} {w l : List ℤ} {from : ℕ} (due : Due c d x w l from) where
  room_whole : from + (length c + length d + 2) ≤ length l
  room_whole = omega (arith, due.room, ap length due.whole, length-closed c d x)

  pub room_left : from + length c ≤ length l
  room_left = omega (arith, room_whole)

  pub room_right : {m : List ℤ} {k : ℕ} → Wrote c l from m k → k + length d ≤ length m
  room_right left = omega (arith, room_whole, left.place, wrote_length left)

  module _ {m : List ℤ} {k : ℕ} {n : List ℤ} {j : ℕ} (left : Wrote c l from m k) (right : Wrote d m k n j) where
    pub room_last : j + 2 ≤ length n
    room_last = omega (arith, room_whole, left.place, wrote_length left, right.place, wrote_length right)

    pub wrote_closed : {y : ℤ} {o : List ℤ} {h : ℕ} → y ≡ x → Wrote (y ∷ pos 0 ∷ []) n j o h → Wrote w l from o h
    wrote_closed same last =
        wrote_as (ap (λ (z : ℤ). c ++ d ++ z ∷ pos 0 ∷ []) same ∙ due.whole) (wrote_more (wrote_more left right) last)

-- two numbers that are not both what they are tested for
apart : (i p j q : ℕ) → (i ≡ p → j ≡ q → ⊥) → false ≡ eqb i p && eqb j q
apart i p j q h = go (eqb i p) refl
  where
    go : (s : Bool) → eqb i p ≡ s → false ≡ s && eqb j q
    go true e = sym (ne_eqb j q (h (eqb-true i p e)))
    go false e = refl

-- the clause up and the clause down, each written or left out
module _ (a b r : ℕ → ℤ) (p q i j : ℕ) where
  pub up_none : i + j ≡ 0 → [] ≡ flat (up a b r i j)
  up_none e = rw (eq-eqb i 0 (omega arith), eq-eqb j 0 (omega arith))

  pub up_one : (i + j ≡ 0 → ⊥) → closed (lower a i) (lower b j) (r (i + j)) ≡ flat (up a b r i j)
  up_one h =
      flat-closed (lower a i) (lower b j) (r (i + j))
      ∙ ap (λ (t : Bool). flat (cond t [] ((lower a i ++ lower b j ++ r (i + j) ∷ []) ∷ [])))
      (apart i 0 j 0 (λ (e : i ≡ 0) (f : j ≡ 0). h (omega arith)))

  module _ (hi : i ≤ p) (hj : j ≤ q) where
    pub down_none : i + j ≡ p + q → [] ≡ flat (down a p b q r i j)
    down_none e = rw (eq-eqb i p (omega arith), eq-eqb j q (omega arith))

    pub down_one : (i + j ≡ p + q → ⊥) → closed (upper a p i) (upper b q j) (neg_ℤ (r (suc (i + j)))) ≡ flat (down a p b q r i j)
    down_one h =
        flat-closed (upper a p i) (upper b q j) (neg_ℤ (r (suc (i + j))))
        ∙ ap (λ (t : Bool). flat (cond t [] ((upper a p i ++ upper b q j ++ neg_ℤ (r (suc (i + j))) ∷ []) ∷ [])))
        (apart i p j q (λ (e : i ≡ p) (f : j ≡ q). h (omega arith)))

-- clauses written after others
pub room_first : (f g : List (List ℤ)) (l : List ℤ) (at : ℕ) → at + length (flat (f ++ g)) ≤ length l → at + length (flat f) ≤ length l
room_first f g l at h = omega (arith, ap length (flat_append f g), length-append (flat f) (flat g))

module _ (f g : List (List ℤ)) {l : List ℤ} {at : ℕ} {m : List ℤ} {k : ℕ} (one : Wrote (flat f) l at m k) where
  pub room_next : at + length (flat (f ++ g)) ≤ length l → k + length (flat g) ≤ length m
  room_next h =
      omega (arith, ap length (flat_append f g), length-append (flat f) (flat g), one.place, wrote_length one)

  pub wrote_both : {n : List ℤ} {j : ℕ} → Wrote (flat g) m k n j → Wrote (flat (f ++ g)) l at n j
  wrote_both two = wrote_as (sym (flat_append f g)) (wrote_more one two)

-- the clauses of a run of numbers: each number has room among all, and comes after those before it
module _ (f : ℕ → List (List ℤ)) where
  below-most : (m k : ℕ) → k < m → length (flat (below k f)) + length (flat (f k)) ≤ length (flat (below m f))
  below-most zero k h = absurd (not-suc-le-zero h)
  below-most (suc m) k h = go (eqb k m) refl (below-most m k)
    where
      whole : length (flat (below m f ++ f m)) ≡ length (flat (below m f)) + length (flat (f m))
      whole = ap length (flat_append (below m f) (f m)) ∙ length-append (flat (below m f)) (flat (f m))

      less : (k ≡ m → ⊥) → k < m
      less ne = omega arith

      go : (t : Bool) → eqb k m ≡ t → (k < m → length (flat (below k f)) + length (flat (f k)) ≤ length (flat (below m f)))
          → length (flat (below k f)) + length (flat (f k)) ≤ length (flat (below m f ++ f m))
      go true e ih = rw (eqb-true k m e) (omega (arith, whole))
      go false e ih = omega (arith, whole, ih (less (eqb-false k m e)))

  module _ (k : ℕ) {l : List ℤ} {from : ℕ} {m : List ℤ} {at : ℕ} (before : Wrote (flat (below k f)) l from m at) where
    pub room_below : (q : ℕ) → k ≤ q → from + length (flat (below (suc q) f)) ≤ length l → at + length (flat (f k)) ≤ length m
    room_below q h room = omega (arith, below-most (suc q) k (omega arith), before.place, wrote_length before)

    pub wrote_below : {n : List ℤ} {j : ℕ} → Wrote (flat (f k)) m at n j → Wrote (flat (below (k + 1) f)) l from n j
    wrote_below next = rw (add-one k) (wrote_both (below k f) (f k) before next)

    pub wrote_last : {n : List ℤ} {j : ℕ} (q : ℕ) → k ≡ q → Wrote (flat (f k)) m at n j → Wrote (flat (below (suc q) f)) l from n j
    wrote_last q e next = wrote_as (ap (λ (i : ℕ). flat (below (suc i) f)) e) (wrote_both (below k f) (f k) before next)
