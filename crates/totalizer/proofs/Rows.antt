-- What follows from the definitions of specs/Rows.antt.
use Rattle.std.specs.Prelude.{◌≡◌, refl, Bool, true, false, cond, List, [], ◌∷◌, ◌++◌, ℕ, zero, suc, ◌+◌, ◌≤◌, eqb, ℤ, length, get_or, drop, replicate}
use Rattle.std.proofs.Common.{sym, ap, ap₂, subst, ◌∙◌, arith, length-append, drop-cons}
use Rattle.std.proofs.lemmas.List.{length-replicate}
use Rattle.literal.specs.Literal.{variable, holds, value}
use Rattle.distance.specs.Distance.{disagreement}
use Rattle.wish.specs.Wish.{weight, cost, breaking, is_wish, total_weight}
use Rattle.wish.specs.Laws.{weight_free, breaking-variable, breaking-wanted}
use Rattle.totalizer.specs.Totalizer.{leaves_from, leaves}
use Rattle.wish.specs.UnitWeights.{unit_weight}
use Rattle.totalizer.specs.Trees.{held, Within}
use Rattle.totalizer.proofs.Trees.{held-append}
use Rattle.totalizer.specs.Rows.{RisingLiterals}

-- there are as many as the wishes weigh
leaves_from-length : (v : ℕ) (row : List ℕ) → length (leaves_from v row) ≡ total_weight row
leaves_from-length v [] = refl
leaves_from-length v (w ∷ row) =
    omega (
      arith,
      length-append (replicate (weight w) (breaking v w)) (leaves_from (suc v) row),
      length-replicate (weight w) (breaking v w),
      leaves_from-length (suc v) row,
    )

pub leaves-length : (row : List ℕ) → length (leaves row) ≡ total_weight row
leaves-length row = leaves_from-length 1 row

held-replicate : (h : ℤ → Bool) (k : ℕ) (x : ℤ) → held h (replicate k x) ≡ cond (h x) k 0
held-replicate h k x = go (h x) refl
  where
    go : (b : Bool) → h x ≡ b → held h (replicate k x) ≡ cond b k 0
    go true e = on k
      where
        on : (j : ℕ) → held h (replicate j x) ≡ j
        on zero = refl
        on (suc j) = rw e (omega (arith, on j))
    go false e = off k
      where
        off : (j : ℕ) → held h (replicate j x) ≡ 0
        off zero = refl
        off (suc j) = rw e (omega (arith, off j))

-- a leaf holds exactly where its wish is broken
leaf_cost : (a : List ℕ) (i w : ℕ) → cond (holds a (breaking (suc i) w)) (weight w) 0 ≡ cost w (get_or a i 2)
leaf_cost a i w =
    ap₂ (λ (v b : ℕ). cond (eqb (value a v) b) (weight w) 0) (breaking-variable i w) (breaking-wanted i w)

held-from : (a : List ℕ) (i : ℕ) (row : List ℕ) → i + length row ≤ length a → held (holds a) (leaves_from (suc i) row) ≡ disagreement row (drop i a)
held-from a i [] h = refl
held-from a i (w ∷ row) h =
    held-append (holds a) (replicate (weight w) (breaking (suc i) w)) (leaves_from (suc (suc i)) row)
    ∙ ap₂ ◌+◌
    (held-replicate (holds a) (weight w) (breaking (suc i) w) ∙ leaf_cost a i w)
    (held-from a (suc i) row (omega arith))
    ∙ ap (disagreement (w ∷ row)) (sym (drop-cons a i 2 (omega arith)))

-- the leaves that hold weigh what is broken
pub held-leaves : (a row : List ℕ) → length row ≤ length a → held (holds a) (leaves row) ≡ disagreement row a
held-leaves a row h = held-from a 0 row (omega arith)

rising_from : (lo mid hi : ℕ) (l : List ℤ) → lo ≤ mid → RisingLiterals mid hi l → RisingLiterals lo hi l
rising_from lo mid hi [] h r = omega arith
rising_from lo mid hi (x ∷ l) h r = (omega arith, r.1)

rising_row : (v : ℕ) (row : List ℕ) → RisingLiterals v (v + length row) (leaves_from (suc v) row)
rising_row v [] = omega arith
rising_row v (w ∷ row) = go (is_wish w) refl (rising_row (suc v) row)
  where
    leaf : ℤ
    leaf = breaking (suc v) w

    rest : List ℤ
    rest = leaves_from (suc (suc v)) row

    WithLeaves : ℕ → Type 0
    WithLeaves k = RisingLiterals v (v + suc (length row)) (replicate k leaf ++ rest)

    top : suc v + length row ≡ v + suc (length row)
    top = omega arith

    go : (b : Bool) → is_wish w ≡ b → RisingLiterals (suc v) (suc v + length row) rest → WithLeaves (weight w)
    go true e r =
        let q : variable leaf ≡ suc v = breaking-variable v w in
        subst WithLeaves (sym (unit_weight w e)) (omega arith, rw (q, ← top) r)
    go false e r =
        subst WithLeaves (sym (weight_free w e)) (rising_from v (suc v) (v + suc (length row)) rest (omega arith) (rw (← top) r))

pub leaves_rising : (row : List ℕ) → RisingLiterals 0 (length row) (leaves row)
leaves_rising row = let top : 0 + length row ≡ length row = omega arith in rw top at (rising_row 0 row)

-- they are literals of the row's variables
within_more : (hi v k w : ℕ) (l : List ℤ) → suc v ≤ hi → Within hi l → Within hi (replicate k (breaking (suc v) w) ++ l)
within_more hi v zero w l h r = r
within_more hi v (suc k) w l h r =
    let q : variable (breaking (suc v) w) ≡ suc v = breaking-variable v w in
    (omega arith, omega arith, within_more hi v k w l h r)

within_row : (hi v : ℕ) (row : List ℕ) → v + length row ≤ hi → Within hi (leaves_from (suc v) row)
within_row hi v [] h = tt
within_row hi v (w ∷ row) h =
    within_more hi v (weight w) w (leaves_from (suc (suc v)) row) (omega arith) (within_row hi (suc v) row (omega arith))

pub leaves-within : (row : List ℕ) → Within (length row) (leaves row)
leaves-within row = within_row (length row) 0 row (omega arith)
