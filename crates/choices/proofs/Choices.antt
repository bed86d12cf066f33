-- What follows from the definitions of specs/Choices.antt.
use Rattle.std.specs.Prelude.{◌≡◌, refl, ◌↔◌, Bool, ℕ, zero, suc, ◌≤◌, ◌<◌, leb, ℤ, get_or, None, Some}
use Rattle.std.proofs.Common.{sym, ap, subst, ⊎_elim, not-suc-le-zero, le_of_suc-le-suc, lt_of_not-le, arith, lit<, leb-true, le-leb}
use mathlib.Core.List.Memᴰ
use mathlib.Core.List.{List, [], ◌∷◌, map, Memᴰ}
use Rattle.std.proofs.Math.Nat.{suc_inj}
use Rattle.literal.specs.Literal.{value}
use Rattle.literal.specs.Laws.{get_or_inside}
use Rattle.formula.specs.Formula.{clauses, models}
use Rattle.distance.specs.Distance.{disagreement, choices, permitted, within, nearest}
use Rattle.choices.specs.Lists.{Minimum}
use Rattle.choices.proofs.Lists.{kept_passes, passes_kept, empty_iff, least_none, least-some}
use Rattle.choices.specs.Choices.{Choice, Model, Nearest}

-- a choice gives each of its variables the value 0 or 1
pub choice_value : (n : ℕ) (a : List ℕ) → Choice n a → (v : ℕ) → 0 < v → v ≤ n → value a v < 2
choice_value n a c zero z h = absurd (not-suc-le-zero z)
choice_value n a c (suc k) z h = rw (get_or_inside a k 2 0 (omega (arith, c.size))) (c.bytes k)

-- the choices that start with a byte
abbrev starting : ℕ → ℕ → List (List ℕ)
starting b n = map (λ (a : List ℕ). b ∷ a) (choices n)

listed : (n : ℕ) (a : List ℕ) → Choice n a → Memᴰ a (choices n)
listed zero [] h = Memᴰ.head refl
listed zero (b ∷ a) h = absurd (omega (arith, h.size))
listed (suc n) [] h = absurd (omega (arith, h.size))
listed (suc n) (b ∷ a) h = go b (h.bytes 0) (listed n a (record { size = suc_inj h.size; bytes = λ i. h.bytes (suc i) }))
  where
    go : (b : ℕ) → b < 2 → Memᴰ a (choices n) → Memᴰ (b ∷ a) (choices (suc n))
    go zero k m = Memᴰ.append_left (starting 1 n) (Memᴰ.map (λ (c : List ℕ). 0 ∷ c) m)
    go (suc zero) k m = Memᴰ.append_right (starting 0 n) (Memᴰ.map (λ (c : List ℕ). 1 ∷ c) m)
    go (suc (suc b)) k m = absurd (not-suc-le-zero (le_of_suc-le-suc (le_of_suc-le-suc k)))

one_more : {n b : ℕ} {a : List ℕ} → b < 2 → Choice n a → Choice (suc n) (b ∷ a)
one_more {n} {b} {a} k h = record { size = ap suc h.size; bytes = go }
  where
    go : (i : ℕ) → get_or (b ∷ a) i 0 < 2
    go zero = k
    go (suc i) = h.bytes i

is_choice : (n : ℕ) (a : List ℕ) → Memᴰ a (choices n) → Choice n a
is_choice zero a m = subst (Choice 0) (sym (Memᴰ.eq_of_singleton m)) (record { size = refl; bytes = λ i. lit< tt })
is_choice (suc n) a m =
    ⊎_elim (λ q. go 0 (lit< tt) (λ c. is_choice n c) q) (λ q. go 1 (lit< tt) (λ c. is_choice n c) q) (Memᴰ.append_cases (starting 0 n) m)
  where
    go : (b : ℕ) → b < 2 → ((c : List ℕ) → Memᴰ c (choices n) → Choice n c) → Memᴰ a (starting b n) → Choice (suc n) a
    go b k ih q =
        let r = Memᴰ.of_map (λ (c : List ℕ). b ∷ c) (choices n) q in
        subst (Choice (suc n)) r.2 (one_more k (ih r.0 r.1))

-- `choices` lists the choices, and nothing else
pub choices_iff : (n : ℕ) (a : List ℕ) → Memᴰ a (choices n) ↔ Choice n a
choices_iff n a = (is_choice n a, listed n a)

-- the choices that meet the rules
pub permitted_iff : (n : ℕ) (list : List ℤ) (a : List ℕ) → Memᴰ a (permitted n list) ↔ Model n (clauses list) a
permitted_iff n list a = (forth, λ h. passes_kept meets (listed n a h.choice) h.satisfies)
  where
    meets : List ℕ → Bool
    meets b = models b (clauses list)

    forth : Memᴰ a (permitted n list) → Model n (clauses list) a
    forth m = let r = kept_passes meets (choices n) m in record { choice = is_choice n a r.0; satisfies = r.1 }

-- the choices that meet the rules with at most d broken wishes
pub within_iff : (n : ℕ) (list : List ℤ) (row : List ℕ) (d : ℕ) (a : List ℕ)
    → Memᴰ a (within n list row d) ↔ (Model n (clauses list) a × (disagreement row a ≤ d))
within_iff n list row d a = (forth, λ h. passes_kept near ((permitted_iff n list a).1 h.0) (le-leb (disagreement row a) d h.1))
  where
    near : List ℕ → Bool
    near b = leb (disagreement row b) d

    forth : Memᴰ a (within n list row d) → Model n (clauses list) a × (disagreement row a ≤ d)
    forth m = let r = kept_passes near (permitted n list) m in ((permitted_iff n list a).0 r.0, leb-true (disagreement row a) d r.1)

-- there is none of these exactly when every model breaks more
pub within_none : (n : ℕ) (list : List ℤ) (row : List ℕ) (d : ℕ)
    → (within n list row d ≡ []) ↔ ((a : List ℕ) → Model n (clauses list) a → d < disagreement row a)
within_none n list row d = (forth, back)
  where
    forth : within n list row d ≡ [] → (a : List ℕ) → Model n (clauses list) a → d < disagreement row a
    forth e a h =
        let far : disagreement row a ≤ d → ⊥ = λ k. (empty_iff (within n list row d)).0 e a ((within_iff n list row d a).1 (h, k)) in
        lt_of_not-le far

    back : ((a : List ℕ) → Model n (clauses list) a → d < disagreement row a) → within n list row d ≡ []
    back g = (empty_iff (within n list row d)).1 (λ a m. let r = (within_iff n list row d a).0 m in omega (arith, g a r.0, r.1))

-- "or none when the rules can't be met"
pub nearest_none : (n : ℕ) (list : List ℤ) (row : List ℕ) → (nearest n list row ≡ None) ↔ ((a : List ℕ) → Model n (clauses list) a → ⊥)
nearest_none n list row = (forth, back)
  where
    counts : List ℕ
    counts = map (disagreement row) (permitted n list)

    forth : nearest n list row ≡ None → (a : List ℕ) → Model n (clauses list) a → ⊥
    forth e a h = (empty_iff counts).0 ((least_none counts).0 e) (disagreement row a) (Memᴰ.map (disagreement row) ((permitted_iff n list a).1 h))

    back : ((a : List ℕ) → Model n (clauses list) a → ⊥) → nearest n list row ≡ None
    back g =
        (least_none counts).1
        ((empty_iff counts).1 (λ k m. let r = Memᴰ.of_map (disagreement row) (permitted n list) m in g r.0 ((permitted_iff n list r.0).0 r.1)))

-- "Nearest gives the least number of broken wishes with a choice"
pub nearest-some : (n : ℕ) (list : List ℤ) (row : List ℕ) (k : ℕ) → (nearest n list row ≡ Some k) ↔ Nearest n (clauses list) row k
nearest-some n list row k = (λ e. forth ((least-some counts k).0 e), λ h. (least-some counts k).1 (back h))
  where
    counts : List ℕ
    counts = map (disagreement row) (permitted n list)

    among_counts : (a : List ℕ) → Model n (clauses list) a → Memᴰ (disagreement row a) counts
    among_counts a h = Memᴰ.map (disagreement row) ((permitted_iff n list a).1 h)

    forth : Minimum counts k → Nearest n (clauses list) row k
    forth h =
        let r = Memᴰ.of_map (disagreement row) (permitted n list) h.attained in
        record { attained = (r.0, (permitted_iff n list r.0).0 r.1, r.2); below = λ a m. h.below (disagreement row a) (among_counts a m) }

    under : Nearest n (clauses list) row k → (j : ℕ) → Memᴰ j counts → k ≤ j
    under h j m =
        let r = Memᴰ.of_map (disagreement row) (permitted n list) m in
        omega (arith, h.below r.0 ((permitted_iff n list r.0).0 r.1), r.2)

    back : Nearest n (clauses list) row k → Minimum counts k
    back h = record { attained = subst (λ (j : ℕ). Memᴰ j counts) h.attained.2 (among_counts h.attained.0 h.attained.1); below = under h }
