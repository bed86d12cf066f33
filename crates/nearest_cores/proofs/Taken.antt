-- The steps of a scan: the bytes of what is taken, the ways that one variable goes, and what every step keeps.
use Rattle.std.specs.Prelude.{◌≡◌, refl, Bool, true, false, cond, ℕ, zero, suc, ◌≤◌, ◌<◌, eqb, ltb, ℤ, length, get_or, set}
use Rattle.std.proofs.Common.{sym, ap, ◌∙◌, arith, length-set, eqb-true, ltb-true, ltb-false}
use mathlib.Core.List.Memᴰ
use mathlib.Core.List.{List, [], ◌∷◌, ◌++◌, map, Memᴰ}
use Rattle.std.proofs.lemmas.List.{length-map}
use Rattle.std.proofs.Math.ListN.{get_or-eq_default}
use Rattle.std.proofs.Math.Seq.{set_out}
use Rattle.std.proofs.lemmas.Bool.{eqb-false}
use Rattle.literal.specs.Literal.{value}
use Rattle.formula.specs.Formula.{any}
use Rattle.walk.specs.State.{is_unset, assign, is_falsified}
use Rattle.walk.specs.Propagation.{propagate}
use Rattle.walk.proofs.Assignment.{set_at}
use Rattle.nearest_cores.specs.Cores.{Scan, taken_byte, scan_start, is_left, is_assumable, keep_wish, first_broken, take_each, close_core, with_broken, after_assuming, scan_wish, scan_from}

-- what is left has the byte 0
pub left_zero : (taken : List ℕ) (v : ℕ) → is_left taken v ≡ true → value taken v ≡ 0
left_zero taken v e = eqb-true (value taken v) 0 e

-- one variable taken: it is left no more, and no other is left that was not
pub assign_left : (taken : List ℕ) (v u : ℕ) → value (assign taken v 1) u ≡ 0 → (value taken u ≡ 0) × (u ≡ v → ⊥)
assign_left taken zero zero h = absurd (omega arith)
assign_left taken zero (suc i) h = (h, λ e. omega arith)
assign_left taken (suc j) zero h = absurd (omega arith)
assign_left taken (suc j) (suc i) h = go (eqb i j) refl (ltb j (length taken)) refl
  where
    go : (s : Bool) → eqb i j ≡ s → (t : Bool) → ltb j (length taken) ≡ t → (get_or taken i 2 ≡ 0) × (suc i ≡ suc j → ⊥)
    go true p true q = absurd (omega (arith, (set_at taken j i 1).0 (eqb-true i j p) (ltb-true j (length taken) q)))
    go true p false q =
        let out : get_or (set taken j 1) i 2 ≡ get_or taken i 2 = ap (λ (l : List ℕ). get_or l i 2) (set_out taken j 1 (ltb-false j (length taken) q)) in
        let past : get_or taken i 2 ≡ 2 = get_or-eq_default taken 2 (omega (arith, eqb-true i j p, ltb-false j (length taken) q)) in
        absurd (omega arith)
    go false p t q =
        let apart : i ≡ j → ⊥ = eqb-false i j p in
        let same : get_or (set taken j 1) i 2 ≡ get_or taken i 2 = (set_at taken j i 1).1 apart in
        (sym same ∙ h, λ e. apart (omega arith))

pub assign-length : (taken : List ℕ) (v b : ℕ) → length (assign taken v b) ≡ length taken
assign-length taken zero b = refl
assign-length taken (suc j) b = length-set taken j b

-- some variables taken
pub take_left : (vs taken : List ℕ) (u : ℕ) → value (take_each taken vs) u ≡ 0 → (value taken u ≡ 0) × (Memᴰ u vs → ⊥)
take_left [] taken u h = (h, λ m. Memᴰ.not-nil m)
take_left (v ∷ vs) taken u h = go (take_left vs (assign taken v 1) u h)
  where
    apart : (u ≡ v → ⊥) → (Memᴰ u vs → ⊥) → Memᴰ u (v ∷ vs) → ⊥
    apart p q (Memᴰ.head e) = p e
    apart p q (Memᴰ.tail m) = q m

    go : (value (assign taken v 1) u ≡ 0) × (Memᴰ u vs → ⊥) → (value taken u ≡ 0) × (Memᴰ u (v ∷ vs) → ⊥)
    go rest = let one = assign_left taken v u rest.0 in (one.0, apart one.1 rest.1)

pub take-length : (vs taken : List ℕ) → length (take_each taken vs) ≡ length taken
take-length [] taken = refl
take-length (v ∷ vs) taken = take-length vs (assign taken v 1) ∙ assign-length taken v 1

-- at the start, what is left is what the state leaves unassigned
start_left : (b : List ℕ) (i : ℕ) → get_or (map taken_byte b) i 2 ≡ 0 → (get_or b i 2 ≡ 2) × (i < length b)
start_left [] i h = absurd (omega arith)
start_left (x ∷ b) zero h = go (is_unset x) refl h
  where
    go : (t : Bool) → is_unset x ≡ t → ◌≡◌ {A = ℕ} (cond t 0 1) 0 → (x ≡ 2) × (0 < length (x ∷ b))
    go true e q = (eqb-true x 2 e, omega arith)
    go false e q = absurd (omega arith)
start_left (x ∷ b) (suc i) h = let r = start_left b i h in (r.0, omega (arith, r.1))

-- the ways that one variable goes: nothing is done, or assuming its wish falsifies a clause, or breaks no wish, or breaks one
module _ (f : List (List ℤ)) (row b : List ℕ) where
  -- what assuming wish v leads to
  abbrev pub assuming : Scan → ℕ → List ℕ
  assuming s v = propagate f (keep_wish row s.values v)

  pub record WishWays (Q : Scan → Type 0) (s : Scan) (v : ℕ) : Type 0 where
    pub skipped : Q s
    pub falsified : is_assumable row s v ≡ true → any (is_falsified (assuming s v)) f ≡ true → Q (close_core row b s (s.assumed ++ (v ∷ [])))
    pub assumed : is_assumable row s v ≡ true → first_broken row s.taken (assuming s v) ≡ 0 → Q (with_broken row b s v (assuming s v) 0)
    pub broken : (w : ℕ) → is_assumable row s v ≡ true → first_broken row s.taken (assuming s v) ≡ suc w → Q (with_broken row b s v (assuming s v) (suc w))

  pub wish_ways : (Q : Scan → Type 0) (s : Scan) (v : ℕ) → WishWays Q s v → Q (scan_wish f row b s v)
  wish_ways Q s v ways = outer (is_assumable row s v) refl
    where
      a : List ℕ
      a = assuming s v

      last : is_assumable row s v ≡ true → (w : ℕ) → first_broken row s.taken a ≡ w → Q (with_broken row b s v a w)
      last p zero e = ways.assumed p e
      last p (suc w) e = ways.broken w p e

      inner : is_assumable row s v ≡ true → (t : Bool) → any (is_falsified a) f ≡ t
          → Q (cond t (close_core row b s (s.assumed ++ (v ∷ []))) (with_broken row b s v a (first_broken row s.taken a)))
      inner p true e = ways.falsified p e
      inner p false e = last p (first_broken row s.taken a) refl

      outer : (t : Bool) → is_assumable row s v ≡ t → Q (cond t (after_assuming f row b s v a) s)
      outer true p = inner p (any (is_falsified a) f) refl
      outer false p = ways.skipped

  -- what every variable keeps, the scan keeps
  pub scan_keeps : (Q : Scan → Type 0) → ((s : Scan) (v : ℕ) → Q s → Q (scan_wish f row b s v)) → (k : ℕ) (s : Scan) (v : ℕ) → Q s → Q (scan_from k f row b s v)
  scan_keeps Q step zero s v q = q
  scan_keeps Q step (suc k) s v q = scan_keeps Q step k (scan_wish f row b s v) (suc v) (step s v q)

  -- as many bytes as the state has, and those left are of its unassigned variables
  abbrev pub Free : Scan → Type 0
  Free s = (length s.taken ≡ length b) × ((u : ℕ) → value s.taken u ≡ 0 → (value b u ≡ 2) × (0 < u) × (u ≤ length b))

  pub free_start : Free (scan_start row b)
  free_start = (length-map b taken_byte, λ u h. at u h)
    where
      at : (u : ℕ) → value (map taken_byte b) u ≡ 0 → (value b u ≡ 2) × (0 < u) × (u ≤ length b)
      at zero h = absurd (omega arith)
      at (suc i) h = let r = start_left b i h in (r.0, omega arith, omega (arith, r.1))

  pub free_close : (s : Scan) (core : List ℕ) → Free s → Free (close_core row b s core)
  free_close s core q = (take-length core s.taken ∙ q.0, λ u h. q.1 u (take_left core s.taken u h).0)
