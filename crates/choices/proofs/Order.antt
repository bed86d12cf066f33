-- What follows from the definitions of specs/Order.antt.
use Rattle.std.specs.Prelude.{◌≡◌, refl, ◌↔◌, ◌⊎◌, Bool, true, false, cond, ℕ, zero, suc, ◌<◌, leb, ℤ, Option, None, Some, option_map, slice_get}
use Rattle.std.proofs.Common.{sym, ap, subst, ◌∙◌, inl, inr, ⊎_elim, le_of_suc-le-suc, not-suc-le-zero, arith}
use mathlib.Core.List.Memᴰ
use mathlib.Core.List.{List, [], ◌∷◌, ◌++◌, map, Memᴰ}
use Rattle.std.proofs.lemmas.Option.{same_Some, none-some}
use Rattle.std.proofs.Math.Decide.{dec_lt}
use Rattle.literal.specs.Literal.{value}
use Rattle.formula.specs.Formula.{clauses, models}
use Rattle.distance.specs.Distance.{disagreement, choices, keep, permitted, within, nearest, first_within, first_nearest}
use Rattle.choices.proofs.Lists.{kept_passes}
use Rattle.choices.specs.Choices.{Choice, Model, Nearest}
use Rattle.choices.proofs.Choices.{choices_iff, within_iff, nearest-some}
use Rattle.choices.specs.Order.{Before, FirstNearest, FirstWithin, Rising}

-- no two lists come before each other
pub before_asym : {a b : List ℕ} → Before a b → Before b a → ⊥
before_asym {a} {b} h k = elim (dec_lt h.at k.at) [ yes l ↦ early l | no l ↦ late l ]
  where
    early : h.at < k.at → ⊥
    early l = omega (arith, h.off, h.on, k.same h.at l)

    late : ¬ (h.at < k.at) → ⊥
    late l = elim (dec_lt k.at h.at) [ yes m ↦ omega (arith, k.off, k.on, h.same k.at m) | no m ↦ tied (omega arith) ]
      where
        tied : h.at ≡ k.at → ⊥
        tied e = omega (arith, h.off, k.on, ap (value a) e)

-- a byte in front of both
before-cons : (x : ℕ) {a b : List ℕ} → Before a b → Before (x ∷ a) (x ∷ b)
before-cons x {a} {b} h = go h.at h.off h.on h.same
  where
    go : (k : ℕ) → value a k ≡ 0 → value b k ≡ 1 → ((v : ℕ) → v < k → value a v ≡ value b v) → Before (x ∷ a) (x ∷ b)
    go zero e f s = absurd (omega (arith, e))
    go (suc i) e f s = record { at = suc (suc i); off = e; on = f; same = same }
      where
        same : (v : ℕ) → v < suc (suc i) → value (x ∷ a) v ≡ value (x ∷ b) v
        same zero l = refl
        same (suc zero) l = refl
        same (suc (suc j)) l = s (suc j) (le_of_suc-le-suc l)

off_on : (a b : List ℕ) → Before (0 ∷ a) (1 ∷ b)
off_on a b = record { at = 1; off = refl; on = refl; same = same }
  where
    same : (v : ℕ) → v < 1 → value (0 ∷ a) v ≡ value (1 ∷ b) v
    same zero l = refl
    same (suc v) l = absurd (not-suc-le-zero (le_of_suc-le-suc l))

rising_append : (l m : List (List ℕ)) → Rising l → Rising m → ((a b : List ℕ) → Memᴰ a l → Memᴰ b m → Before a b) → Rising (l ++ m)
rising_append [] m r s h = s
rising_append (a ∷ l) m r s h =
    (λ b q. ⊎_elim (λ p. r.0 b p) (λ p. h a b (Memᴰ.head refl) p) (Memᴰ.append_cases l q), rising_append l m r.1 s (λ c b p q. h c b (Memᴰ.tail p) q))

rising_map : (x : ℕ) (l : List (List ℕ)) → Rising l → Rising (map (λ (a : List ℕ). x ∷ a) l)
rising_map x [] r = tt
rising_map x (a ∷ l) r = (after, rising_map x l r.1)
  where
    after : (b : List ℕ) → Memᴰ b (map (λ (c : List ℕ). x ∷ c) l) → Before (x ∷ a) b
    after b q = let m = Memᴰ.of_map (λ (c : List ℕ). x ∷ c) l q in subst (Before (x ∷ a)) m.2 (before-cons x (r.0 m.0 m.1))

rising_keep : (p : List ℕ → Bool) (l : List (List ℕ)) → Rising l → Rising (keep p l)
rising_keep p [] r = tt
rising_keep p (a ∷ l) r = go (p a) (rising_keep p l r.1)
  where
    go : (t : Bool) → Rising (keep p l) → Rising (cond t (a ∷ keep p l) (keep p l))
    go true s = (λ b q. r.0 b (kept_passes p l q).0, s)
    go false s = s

-- `choices` stands in this order
pub choices_rising : (n : ℕ) → Rising (choices n)
choices_rising zero = (λ b q. absurd (Memᴰ.not-nil q), tt)
choices_rising (suc n) =
    rising_append (with 0) (with 1) (rising_map 0 (choices n) (choices_rising n)) (rising_map 1 (choices n) (choices_rising n)) apart
  where
    with : ℕ → List (List ℕ)
    with x = map (λ (a : List ℕ). x ∷ a) (choices n)

    apart : (a b : List ℕ) → Memᴰ a (with 0) → Memᴰ b (with 1) → Before a b
    apart a b p q =
        let r = Memᴰ.of_map (λ (c : List ℕ). 0 ∷ c) (choices n) p in
        let s = Memᴰ.of_map (λ (c : List ℕ). 1 ∷ c) (choices n) q in
        subst (λ (c : List ℕ). Before c b) r.2 (subst (Before (0 ∷ r.0)) s.2 (off_on r.0 s.0))

rising_total : (l : List (List ℕ)) → Rising l → {a b : List ℕ} → Memᴰ a l → Memᴰ b l → (a ≡ b) ⊎ (Before a b ⊎ Before b a)
rising_total [] r p q = absurd (Memᴰ.not-nil p)
rising_total (c ∷ l) r {a} {b} p q = go p q (λ s t. rising_total l r.1 s t)
  where
    go : Memᴰ a (c ∷ l) → Memᴰ b (c ∷ l) → (Memᴰ a l → Memᴰ b l → (a ≡ b) ⊎ (Before a b ⊎ Before b a)) → (a ≡ b) ⊎ (Before a b ⊎ Before b a)
    go (Memᴰ.head e) (Memᴰ.head f) ih = inl (e ∙ sym f)
    go (Memᴰ.head e) (Memᴰ.tail t) ih = inr (inl (subst (λ (x : List ℕ). Before x b) (sym e) (r.0 b t)))
    go (Memᴰ.tail s) (Memᴰ.head f) ih = inr (inr (subst (λ (x : List ℕ). Before x a) (sym f) (r.0 a s)))
    go (Memᴰ.tail s) (Memᴰ.tail t) ih = ih s t

-- of two different choices one comes before the other
pub before-total : (n : ℕ) (a b : List ℕ) → Choice n a → Choice n b → (a ≡ b) ⊎ (Before a b ⊎ Before b a)
before-total n a b c d = rising_total (choices n) (choices_rising n) ((choices_iff n a).1 c) ((choices_iff n b).1 d)

-- the head of such a list: it stands in it, and comes before all others
head_leads : (l : List (List ℕ)) → Rising l → (a : List ℕ) → slice_get l 0 ≡ Some a → Memᴰ a l × ((b : List ℕ) → Memᴰ b l → (a ≡ b) ⊎ Before a b)
head_leads [] r a e = absurd (none-some a e)
head_leads (c ∷ l) r a e = (Memᴰ.head (sym z), others)
  where
    z : c ≡ a
    z = same_Some c a e

    others : (b : List ℕ) → Memᴰ b (c ∷ l) → (a ≡ b) ⊎ Before a b
    others b (Memᴰ.head q) = inl (sym z ∙ sym q)
    others b (Memᴰ.tail q) = inr (subst (λ (x : List ℕ). Before x b) z (r.0 b q))

-- and what does so is the head
leads_head : (l : List (List ℕ)) → Rising l → (a : List ℕ) → Memᴰ a l → ((b : List ℕ) → Memᴰ b l → (a ≡ b) ⊎ Before a b) → slice_get l 0 ≡ Some a
leads_head [] r a m h = absurd (Memᴰ.not-nil m)
leads_head (c ∷ l) r a m h = ⊎_elim (λ e. ap {B = Option (List ℕ)} Some (sym e)) (λ b. absurd (against m b)) (h c (Memᴰ.head refl))
  where
    against : Memᴰ a (c ∷ l) → Before a c → ⊥
    against (Memᴰ.head q) b = let s : Before a a = subst (Before a) (sym q) b in before_asym s s
    against (Memᴰ.tail q) b = before_asym b (r.0 a q)

module _ (n : ℕ) (list : List ℤ) (row : List ℕ) where
  within_rising : (d : ℕ) → Rising (within n list row d)
  within_rising d =
      rising_keep (λ (a : List ℕ). leb (disagreement row a) d) (permitted n list) (rising_keep (λ (a : List ℕ). models a (clauses list)) (choices n) (choices_rising n))

  -- what `first_within` gives
  pub first_within_lem : (d : ℕ) (a : List ℕ) → (first_within n list row d ≡ Some a) ↔ FirstWithin n (clauses list) row d a
  first_within_lem d a = (forth, back)
    where
      forth : first_within n list row d ≡ Some a → FirstWithin n (clauses list) row d a
      forth e =
          let r = head_leads (within n list row d) (within_rising d) a e in
          let m = (within_iff n list row d a).0 r.0 in
          record { model = m.0; limited = m.1; first = λ b k l. r.1 b ((within_iff n list row d b).1 (k, l)) }

      back : FirstWithin n (clauses list) row d a → first_within n list row d ≡ Some a
      back h =
          leads_head (within n list row d) (within_rising d) a ((within_iff n list row d a).1 (h.model, h.limited))
          (λ b q. let m = (within_iff n list row d b).0 q in h.first b m.0 m.1)

  -- with the nearest count as the limit, the first within it is the first nearest
  pub first_at : (k : ℕ) → nearest n list row ≡ Some k → first_nearest n list row ≡ first_within n list row k
  first_at k e = rw e

  first_never : nearest n list row ≡ None → first_nearest n list row ≡ None
  first_never e = rw e

  at_least : (k : ℕ) → Nearest n (clauses list) row k → (a : List ℕ) → FirstWithin n (clauses list) row k a → FirstNearest n (clauses list) row a
  at_least k h a w =
      record {
        model = w.model;
        below = λ b m. omega (arith, w.limited, h.below b m);
        first = λ b m e. w.first b m (omega (arith, w.limited, e));
      }

  some_first : (k : ℕ) → Nearest n (clauses list) row k → (a : List ℕ) × (first_within n list row k ≡ Some a)
  some_first k h = go (within n list row k) ((within_iff n list row k h.attained.0).1 (h.attained.1, omega (arith, h.attained.2)))
    where
      go : (l : List (List ℕ)) → Memᴰ h.attained.0 l → (a : List ℕ) × (slice_get l 0 ≡ Some a)
      go [] m = absurd (Memᴰ.not-nil m)
      go (a ∷ l) m = (a, refl)

  -- what `first_nearest` gives
  pub first_nearest_lem : (a : List ℕ) → (first_nearest n list row ≡ Some a) ↔ FirstNearest n (clauses list) row a
  first_nearest_lem a = (forth (nearest n list row) refl, back)
    where
      forth : (o : Option ℕ) → nearest n list row ≡ o → first_nearest n list row ≡ Some a → FirstNearest n (clauses list) row a
      forth None e f = absurd (none-some a (sym (first_never e) ∙ f))
      forth (Some k) e f = at_least k ((nearest-some n list row k).0 e) a ((first_within_lem k a).0 (sym (first_at k e) ∙ f))

      back : FirstNearest n (clauses list) row a → first_nearest n list row ≡ Some a
      back h =
          let e : nearest n list row ≡ Some (disagreement row a)
          = (nearest-some n list row (disagreement row a)).1 (record { attained = (a, h.model, refl); below = h.below }) in
          first_at (disagreement row a) e
          ∙ (first_within_lem (disagreement row a) a).1
          (record { model = h.model; limited = omega arith; first = λ b m l. h.first b m (omega (arith, h.below b m)) })

  -- the choice breaks as many wishes as the nearest count says, and there is none exactly when there is no count
  pub first_count : option_map (disagreement row) (first_nearest n list row) ≡ nearest n list row
  first_count = go (nearest n list row) refl
    where
      go : (o : Option ℕ) → nearest n list row ≡ o → option_map (disagreement row) (first_nearest n list row) ≡ o
      go None e = ap (option_map (disagreement row)) (first_never e)
      go (Some k) e =
          let h : Nearest n (clauses list) row k = (nearest-some n list row k).0 e in
          let r = some_first k h in
          let w : FirstWithin n (clauses list) row k r.0 = (first_within_lem k r.0).0 r.1 in
          let same : disagreement row r.0 ≡ k = omega (arith, w.limited, h.below r.0 w.model) in
          ap (option_map (disagreement row)) (first_at k e ∙ r.1) ∙ ap {B = Option ℕ} Some same

-- "The same terminal for the same wishes" (document 02, L5): rules that the same choices meet have the same first nearest choice, however they are written
module _ (n : ℕ) (row : List ℕ) where
  carried : (list other : List ℤ) → ((a : List ℕ) → Model n (clauses list) a ↔ Model n (clauses other) a) → (a : List ℕ)
      → first_nearest n list row ≡ Some a → first_nearest n other row ≡ Some a
  carried list other same a e =
      let h : FirstNearest n (clauses list) row a = (first_nearest_lem n list row a).0 e in
      (first_nearest_lem n other row a).1
      (record { model = (same a).0 h.model; below = λ b m. h.below b ((same b).1 m); first = λ b m f. h.first b ((same b).1 m) f })

  pub twins : (list other : List ℤ) → ((a : List ℕ) → Model n (clauses list) a ↔ Model n (clauses other) a) → first_nearest n list row ≡ first_nearest n other row
  twins list other same = go (first_nearest n list row) refl (first_nearest n other row) refl
    where
      go : (o : Option (List ℕ)) → first_nearest n list row ≡ o → (p : Option (List ℕ)) → first_nearest n other row ≡ p → first_nearest n list row ≡ first_nearest n other row
      go (Some a) e p f = e ∙ sym (carried list other same a e)
      go None e None f = e ∙ sym f
      go None e (Some b) f = carried other list (λ a. ((same a).1, (same a).0)) b f ∙ sym f
