-- Step 2's completion: it is a choice, extends the state, and breaks no more wishes than the state does.
use Rattle.std.specs.Prelude.{◌≡◌, refl, Bool, true, false, cond, List, [], ◌∷◌, ℕ, zero, suc, ◌+◌, ◌≤◌, ◌<◌, ltb, length, get_or}
use Rattle.std.proofs.Common.{sym, ap, ap₂, ◌∙◌, not-suc-le-zero, le_of_suc-le-suc, arith, lit<, eqb-true, ltb-true, ltb-false, ne_eqb}
use Rattle.std.proofs.Math.ListN.{get_or-eq_default}
use Rattle.std.proofs.lemmas.Bool.{eqb-false}
use Rattle.wish.specs.Wish.{wished_value, cost}
use Rattle.wish.specs.Laws.{wished_bit, cost-unassigned, cost_wished}
use Rattle.distance.specs.Distance.{disagreement}
use Rattle.choices.specs.Choices.{Choice}
use Rattle.walk.specs.State.{State, is_unset}
use Rattle.walk.specs.Walk.{complete_byte, complete}
use Rattle.walk.specs.Extension.{Extends}

-- the bytes of the completion
pub complete-length : (row a : List ℕ) → length (complete row a) ≡ length a
complete-length row [] = refl
complete-length [] (b ∷ a) = ap suc (complete-length [] a)
complete-length (w ∷ row) (b ∷ a) = ap suc (complete-length row a)

pub complete_at : (row a : List ℕ) (i d : ℕ) → i < length a → get_or (complete row a) i d ≡ complete_byte (get_or row i 2) (get_or a i 2)
complete_at row [] i d h = absurd (not-suc-le-zero h)
complete_at [] (b ∷ a) zero d h = refl
complete_at [] (b ∷ a) (suc i) d h = complete_at [] a i d (le_of_suc-le-suc h)
complete_at (w ∷ row) (b ∷ a) zero d h = refl
complete_at (w ∷ row) (b ∷ a) (suc i) d h = complete_at row a i d (le_of_suc-le-suc h)

pub complete_past : (row a : List ℕ) (i d : ℕ) → length a ≤ i → get_or (complete row a) i d ≡ d
complete_past row a i d h = get_or-eq_default (complete row a) d (omega (arith, complete-length row a))

byte_bit : (w b : ℕ) → b ≤ 2 → complete_byte w b < 2
byte_bit w b h = go (is_unset b) refl
  where
    go : (t : Bool) → is_unset b ≡ t → cond t (wished_value w) b < 2
    go true e = wished_bit w
    go false e = let q : b ≡ 2 → ⊥ = eqb-false b 2 e in omega arith

byte_kept : (w b : ℕ) → (b ≡ 2 → ⊥) → complete_byte w b ≡ b
byte_kept w b q = rw (ne_eqb b 2 q)

pub complete_choice : {n : ℕ} {a : List ℕ} (row : List ℕ) → State n a → Choice n (complete row a)
complete_choice {n} {a} row h = record { size = complete-length row a ∙ h.size; bytes = λ i. at i (ltb i (length a)) refl }
  where
    at : (i : ℕ) (t : Bool) → ltb i (length a) ≡ t → get_or (complete row a) i 0 < 2
    at i true e = rw (complete_at row a i 0 (ltb-true i (length a) e)) (byte_bit (get_or row i 2) (get_or a i 2) (h.bytes i))
    at i false e = rw (complete_past row a i 0 (ltb-false i (length a) e)) (lit< tt)

pub complete_extends : (row a : List ℕ) → Extends (complete row a) a
complete_extends row a = record { keeps = λ i q. at i q (ltb i (length a)) refl }
  where
    at : (i : ℕ) → (get_or a i 2 ≡ 2 → ⊥) → (t : Bool) → ltb i (length a) ≡ t → get_or (complete row a) i 2 ≡ get_or a i 2
    at i q true e = complete_at row a i 2 (ltb-true i (length a) e) ∙ byte_kept (get_or row i 2) (get_or a i 2) q
    at i q false e = absurd (q (get_or-eq_default a 2 (ltb-false i (length a) e)))

byte_cost : (w b : ℕ) → cost w (complete_byte w b) ≡ cost w b
byte_cost w b = go (is_unset b) refl
  where
    go : (t : Bool) → is_unset b ≡ t → cost w (cond t (wished_value w) b) ≡ cost w b
    go true e = cost_wished w ∙ sym (cost-unassigned w) ∙ ap (cost w) (sym (eqb-true b 2 e))
    go false e = refl

-- the completion breaks the wishes that the state breaks
pub complete-cost : (row a : List ℕ) → disagreement row (complete row a) ≡ disagreement row a
complete-cost [] a = refl
complete-cost (w ∷ row) [] = refl
complete-cost (w ∷ row) (b ∷ a) = ap₂ ◌+◌ (byte_cost w b) (complete-cost row a)
