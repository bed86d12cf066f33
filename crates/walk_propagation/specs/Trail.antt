-- The trail: the assigned variables, in the order in which they were assigned. A state is brought back to an earlier one by unassigning those that came since, the last one first, at the cost of what was assigned.
use Rattle.std.specs.Prelude.{◌≡◌, refl, List, [], ◌∷◌, ◌++◌, ℕ, zero, suc, ◌+◌, ◌-◌, ◌≤◌, ◌<◌, length, get_or, set, take, drop}
use Rattle.std.proofs.Common.{sym, ap, ◌∙◌, add-one, arith, length-set, length-take, take-append-drop, drop_of_length-le, set-set, take-suc, take-suc-set, take-take, length-take-le}
use Rattle.std.proofs.Math.Seq.{slice, slice_empty}
use Rattle.std.proofs.lemmas.List.{set-get_or, take-set-le, drop-append-le}
use Rattle.literal.specs.Literal.{value}
use Rattle.walk.proofs.Assignment.{assign-set}
use Rattle.walk.specs.State.{assign}

-- the state a without the values of the variables vs
abbrev pub undone : List ℕ → List ℕ → List ℕ
undone [] a = a
undone (v ∷ vs) a = assign (undone vs a) v 2

pub undone-append : (us vs a : List ℕ) → undone (us ++ vs) a ≡ undone us (undone vs a)
undone-append [] vs a = refl
undone-append (u ∷ us) vs a = ap (λ (l : List ℕ). assign l u 2) (undone-append us vs a)

-- a variable that was unassigned is so again
pub undone_one : (a : List ℕ) (v b : ℕ) → value a v ≡ 2 → assign (assign a v b) v 2 ≡ a
undone_one a zero b e = refl
undone_one a (suc i) b e = set-set a i b 2 ∙ ap (set a i) (sym e) ∙ set-get_or a i 2

-- a part of the trail, and the place after it
pub slice_more : (l : List ℕ) (i k : ℕ) → i ≤ k → k < length l → slice i (k + 1) l ≡ slice i k l ++ (get_or l k 0 ∷ [])
slice_more l i k h q =
    ap (λ (m : ℕ). slice i m l) (add-one k) ∙ ap (drop i) (take-suc l k 0 q)
    ∙ drop-append-le i (take k l) (get_or l k 0 ∷ []) (omega (arith, length-take-le k l (omega arith)))

pub slice-stored : (l : List ℕ) (i k v : ℕ) → i ≤ k → k < length l → slice i (k + 1) (set l k v) ≡ slice i k l ++ (v ∷ [])
slice-stored l i k v h q =
    ap (λ (m : ℕ). slice i m (set l k v)) (add-one k) ∙ ap (drop i) (take-suc-set l k v q)
    ∙ drop-append-le i (take k l) (v ∷ []) (omega (arith, length-take-le k l (omega arith)))

-- two parts side by side
pub slice_join : (l : List ℕ) (i k m : ℕ) → i ≤ k → k ≤ m → m ≤ length l → slice i m l ≡ slice i k l ++ slice k m l
slice_join l i k m h q r =
    ap (drop i) (sym (take-append-drop k (take m l)) ∙ ap (λ (x : List ℕ). x ++ drop k (take m l)) (take-take k m l q))
    ∙ drop-append-le i (take k l) (drop k (take m l)) (omega (arith, length-take-le k l (omega arith)))

-- From the state a with s variables on its trail to a' with k: the first s are as they were, and without the rest it is the state a again.
pub record Grown (s : ℕ) (a trail : List ℕ) (k : ℕ) (a' trail' : List ℕ) : Type 0 where
  pub more : s ≤ k
  pub kept : take s trail' ≡ take s trail
  pub back : undone (slice s k trail') a' ≡ a
  pub long : length trail' ≡ length trail

pub grown_none : (s : ℕ) (a trail : List ℕ) → Grown s a trail s a trail
grown_none s a trail =
    record { more = omega arith; kept = refl; back = ap (λ (vs : List ℕ). undone vs a) (slice_empty s trail); long = refl }

pub grown_assigned : (s : ℕ) (a trail : List ℕ) (v b : ℕ) → s < length trail → value a v ≡ 2 → Grown s a trail (s + 1) (assign a v b) (set trail s v)
grown_assigned s a trail v b h e =
    record {
      more = omega arith;
      kept = take-set-le s trail s v (omega arith);
      back =
          ap (λ (vs : List ℕ). undone vs (assign a v b)) (slice-stored trail s s v (omega arith) h ∙ ap (λ (vs : List ℕ). vs ++ (v ∷ [])) (slice_empty s trail))
          ∙ undone_one a v b e;
      long = length-set trail s v;
    }

pub grown_more : {s k m : ℕ} {a trail a' trail' a'' trail'' : List ℕ} → m ≤ length trail'' → Grown s a trail k a' trail' → Grown k a' trail' m a'' trail'' → Grown s a trail m a'' trail''
grown_more {s} {k} {m} {a} {trail} {a'} {trail'} {a''} {trail''} inside p q =
    record {
      more = omega (arith, p.more, q.more);
      kept = sym (take-take s k trail'' p.more) ∙ ap (take s) q.kept ∙ take-take s k trail' p.more ∙ p.kept;
      back =
          ap (λ (vs : List ℕ). undone vs a'') (slice_join trail'' s k m p.more q.more inside)
          ∙ undone-append (slice s k trail'') (slice k m trail'') a''
          ∙ ap (undone (slice s k trail'')) q.back
          ∙ ap (λ (l : List ℕ). undone (drop s l) a') q.kept
          ∙ p.back;
      long = q.long ∙ p.long;
    }

-- taking away from before s on: the same of the later state as of the earlier one
pub grown_undone : {s k : ℕ} {a trail a' trail' : List ℕ} → k ≤ length trail' → Grown s a trail k a' trail' → (i : ℕ) → i ≤ s → undone (slice i k trail') a' ≡ undone (slice i s trail) a
grown_undone {s} {k} {a} {trail} {a'} {trail'} inside p i h =
    ap (λ (vs : List ℕ). undone vs a') (slice_join trail' i s k h p.more inside)
    ∙ undone-append (slice i s trail') (slice s k trail') a'
    ∙ ap (undone (slice i s trail')) p.back
    ∙ ap (λ (l : List ℕ). undone (drop i l) a) p.kept

-- The loop that undoes a part of the trail: its last place, and none.
pub undone_step : (l : List ℕ) (i k : ℕ) (a : List ℕ) → i < k → k - 1 < length l → 0 < get_or l (k - 1) 0
    → undone (slice i k l) a ≡ undone (slice i (k - 1) l) (set a (get_or l (k - 1) 0 - 1) 2)
undone_step l i k a h q z =
    let e : k ≡ k - 1 + 1 = omega arith in
    ap (λ (m : ℕ). undone (slice i m l) a) e
    ∙ ap (λ (vs : List ℕ). undone vs a) (slice_more l i (k - 1) (omega arith) q)
    ∙ undone-append (slice i (k - 1) l) (get_or l (k - 1) 0 ∷ []) a
    ∙ ap (undone (slice i (k - 1) l)) (assign-set a (get_or l (k - 1) 0) 2 z)

pub undone_end : (l : List ℕ) (i k : ℕ) (a : List ℕ) → k ≤ i → undone (slice i k l) a ≡ a
undone_end l i k a h = ap (λ (vs : List ℕ). undone vs a) (drop_of_length-le (take k l) {i = i} (omega (arith, length-take k l)))
