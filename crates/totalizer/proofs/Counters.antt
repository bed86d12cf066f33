-- What follows from the definitions of specs/Counters.antt.
use Rattle.std.specs.Prelude.{◌≡◌, refl, Bool, true, false, cond, not, ◌&&◌, ◌||◌, List, [], ◌∷◌, ◌++◌, ℕ, zero, suc, ◌+◌, ◌≤◌, ◌<◌, eqb, ltb, ℤ, pos, neg_ℤ, length, get_or, take, drop}
use Rattle.std.proofs.Common.{sym, ap, ap₂, ◌∙◌, arith, not-suc-le-zero, add-suc, length-append, length-take, length-drop, take-add, drop-drop, get_or-take, get_or-drop, ext_get_or, ltb-true, ltb-false, le-ltb, eqb-true}
use Rattle.std.proofs.Math.Bool.{and-true, or-false}
use Rattle.std.proofs.Math.ListN.{get_or-append}
use Rattle.std.proofs.Math.Seq.{take-append_seam, drop-append_seam}
use Rattle.std.proofs.lemmas.List.{get_or_at}
use Rattle.std.proofs.lemmas.Bool.{eqb-false, not-true}
use Rattle.literal.specs.Literal.{value, holds}
use Rattle.formula.specs.Formula.{satisfied, models}
use Rattle.rule_list_soundness.specs.Laws.{and_left, and_right, and_both, all_append}
use Rattle.choices.specs.Choices.{Choice}
use Rattle.choices.proofs.Choices.{choice_value}
use Rattle.totalizer.specs.Totalizer.{Tree, leaf, node, tree, size, added, output, totalizer, limit, at_most, count, unary, counters, Over, Counts, AllCount}
use Rattle.totalizer.proofs.Meaning.{count_most, right_counts, signed, totalizer_right, right_totalizer}
use Rattle.totalizer.specs.Trees.{held, Within}
use Rattle.totalizer.proofs.Trees.{tree-size, tree-count, tree_over}
use Rattle.choices.proofs.Opposites.{choice_opposite}
use Rattle.totalizer.specs.Counters.{segment}

pub length-unary : (m c : ℕ) → length (unary m c) ≡ m
length-unary zero c = refl
length-unary (suc m) c = omega (arith, length-append (unary m c) (cond (ltb m c) 1 0 ∷ []), length-unary m c)

-- byte k of c in unary is on exactly when k < c
pub get_or_unary : (m c k d : ℕ) → k < m → get_or (unary m c) k d ≡ cond (ltb k c) 1 0
get_or_unary zero c k d h = absurd (not-suc-le-zero h)
get_or_unary (suc m) c k d h = go (eqb k m) refl (get_or_unary m c k d)
  where
    less : (k ≡ m → ⊥) → k < m
    less ne = omega arith

    go : (b : Bool) → eqb k m ≡ b → (k < m → get_or (unary m c) k d ≡ cond (ltb k c) 1 0) → get_or (unary m c ++ cond (ltb m c) 1 0 ∷ []) k d ≡ cond (ltb k c) 1 0
    go true e ih =
        let q : k ≡ m = eqb-true k m e in
        get_or_at (unary m c) (cond (ltb m c) 1 0) [] d k (length-unary m c ∙ sym q) ∙ ap (λ (j : ℕ). cond (ltb j c) 1 0) (sym q)
    go false e ih =
        let l : k < m = less (eqb-false k m e) in
        get_or-append (unary m c) (cond (ltb m c) 1 0 ∷ []) d k (omega (arith, length-unary m c)) ∙ ih l

pub length-counters : (h : ℤ → Bool) (t : Tree) → length (counters h t) ≡ added t
length-counters h (leaf x) = refl
length-counters h (node s t) =
    omega (
      arith,
      length-append (counters h s ++ counters h t) (unary (size s + size t) (count h s + count h t)),
      length-append (counters h s) (counters h t),
      length-unary (size s + size t) (count h s + count h t),
      length-counters h s,
      length-counters h t,
    )

length-segment : (e : List ℕ) (n m : ℕ) → n + m ≤ length e → length (segment e n m) ≡ m
length-segment e n m h = omega (arith, length-take m (drop n e), length-drop n e)

get_or_segment : (e : List ℕ) (n m k : ℕ) → k < m → get_or (segment e n m) k 2 ≡ get_or e (n + k) 2
get_or_segment e n m k h = get_or-take m (drop n e) k 2 h ∙ get_or-drop n e k 2

segment_add : (e : List ℕ) (n m k : ℕ) → segment e n (m + k) ≡ segment e n m ++ segment e (n + m) k
segment_add e n m k = take-add m k (drop n e) ∙ ap (λ (r : List ℕ). take m (drop n e) ++ take k r) (drop-drop m n e)

-- two pairs of lists with equal joins
join_split : (l m r s : List ℕ) → length l ≡ length r → l ++ m ≡ r ++ s → (l ≡ r) × (m ≡ s)
join_split l m r s h e = (
  sym (take-append_seam l m) ∙ ap₂ (λ (k : ℕ) (w : List ℕ). take k w) h e ∙ take-append_seam r s,
  sym (drop-append_seam l m) ∙ ap₂ (λ (k : ℕ) (w : List ℕ). drop k w) h e ∙ drop-append_seam r s,
)

-- a byte that is 0 or 1, and the test that it is 1
bit_byte : (w : ℕ) (b : Bool) → w < 2 → eqb w 1 ≡ b → w ≡ cond b 1 0
bit_byte zero b h e = ap (λ (t : Bool). cond t 1 0) e
bit_byte (suc zero) b h e = ap (λ (t : Bool). cond t 1 0) e
bit_byte (suc (suc w)) b h e = absurd (omega arith)

byte_bit : (b : Bool) → eqb (cond b 1 0) 1 ≡ b
byte_bit true = refl
byte_bit false = refl

-- a choice e of N variables
module _ (N : ℕ) (e : List ℕ) (ch : Choice N e) where
  at : (n k : ℕ) → value e (n + suc k) ≡ get_or e (n + k) 2
  at n k = ap (value e) (add-suc n k)

  counts_unary : (n m c : ℕ) → n + m ≤ N → Counts (holds e) (λ (k : ℕ). pos (n + k)) m c → segment e n m ≡ unary m c
  counts_unary n m c h r =
      ext_get_or 2 (segment e n m) (unary m c) (omega (arith, length-segment e n m (omega (arith, ch.size)), length-unary m c))
      (λ (k : ℕ) (l : k < length (segment e n m)).
      let hk : k < m = omega (arith, length-segment e n m (omega (arith, ch.size))) in
      get_or_segment e n m k hk
      ∙ sym (at n k)
      ∙ bit_byte (value e (n + suc k)) (ltb k c) (choice_value N e ch (n + suc k) (omega arith) (omega arith)) (r k hk)
      ∙ sym (get_or_unary m c k 2 hk))

  unary_counts : (n m c : ℕ) → segment e n m ≡ unary m c → Counts (holds e) (λ (k : ℕ). pos (n + k)) m c
  unary_counts n m c q k h =
      ap (λ (w : ℕ). eqb w 1) (at n k ∙ sym (get_or_segment e n m k h) ∙ ap (λ (l : List ℕ). get_or l k 2) q ∙ get_or_unary m c k 2 h) ∙ byte_bit (ltb k c)

  -- the bytes of a group are those of its parts and its own
  segment_node : (n : ℕ) (s t : Tree)
      → segment e n (added (node s t)) ≡ segment e n (added s) ++ segment e (n + added s) (added t) ++ segment e (n + (added s + added t)) (size s + size t)
  segment_node n s t =
      segment_add e n (added s + added t) (size s + size t)
      ∙ ap (λ (l : List ℕ). l ++ segment e (n + (added s + added t)) (size s + size t)) (segment_add e n (added s) (added t))

  -- they are right exactly when they are the counters
  pub right_segment : (n : ℕ) (t : Tree) → n + added t ≤ N → AllCount (holds e) n t → segment e n (added t) ≡ counters (holds e) t
  right_segment n (leaf x) h r = refl
  right_segment n (node s t) h r =
      segment_node n s t
      ∙ ap₂ ◌++◌
      (ap₂ ◌++◌ (right_segment n s (omega arith) r.0) (right_segment (n + added s) t (omega arith) r.1))
      (counts_unary (n + (added s + added t)) (size s + size t) (count (holds e) s + count (holds e) t) (omega arith) r.2)

  pub segment_right : (n : ℕ) (t : Tree) → n + added t ≤ N → segment e n (added t) ≡ counters (holds e) t → AllCount (holds e) n t
  segment_right n (leaf x) h q = tt
  segment_right n (node s t) h q =
      let own : List ℕ = unary (size s + size t) (count (holds e) s + count (holds e) t) in
      let ls : length (segment e n (added s)) ≡ added s = length-segment e n (added s) (omega (arith, ch.size)) in
      let lt : length (segment e (n + added s) (added t)) ≡ added t = length-segment e (n + added s) (added t) (omega (arith, ch.size)) in
      let whole : (segment e n (added s) ++ segment e (n + added s) (added t) ≡ counters (holds e) s ++ counters (holds e) t)
      × (segment e (n + (added s + added t)) (size s + size t) ≡ own) =
      join_split (segment e n (added s) ++ segment e (n + added s) (added t)) (segment e (n + (added s + added t)) (size s + size t))
      (counters (holds e) s ++ counters (holds e) t) own
      (omega (
        arith,
        length-append (segment e n (added s)) (segment e (n + added s) (added t)),
        length-append (counters (holds e) s) (counters (holds e) t),
        length-counters (holds e) s,
        length-counters (holds e) t,
      ))
      (sym (segment_node n s t) ∙ q) in
      let two : (segment e n (added s) ≡ counters (holds e) s) × (segment e (n + added s) (added t) ≡ counters (holds e) t) =
      join_split (segment e n (added s)) (segment e (n + added s) (added t)) (counters (holds e) s) (counters (holds e) t)
      (ls ∙ sym (length-counters (holds e) s)) whole.0 in (
        segment_right n s (omega arith) two.0,
        segment_right (n + added s) t (omega arith) two.1,
        unary_counts (n + (added s + added t)) (size s + size t) (count (holds e) s + count (holds e) t) whole.1,
      )

  -- the limit clause of a group that is right: at most d of its leaves hold
  pub limit_says : (n : ℕ) (l : List ℤ) (d : ℕ) → 0 < length l → Over n (tree l) → n + added (tree l) ≤ N → AllCount (holds e) n (tree l)
      → (models e (limit n l d) ≡ true → held (holds e) l ≤ d) × (held (holds e) l ≤ d → models e (limit n l d) ≡ true)
  limit_says n l d z o h r = go (ltb d (length l)) refl
    where
      says : d < length l → holds e (neg_ℤ (output n (tree l) (suc d))) ≡ not (ltb d (held (holds e) l))
      says lt =
          let hd : d < size (tree l) = omega (arith, tree-size l z) in
          signed (holds e) n N (tree l) (choice_opposite N e ch) h o d hd
          ∙ ap not (right_counts (holds e) n (tree l) r d hd ∙ ap (ltb d) (tree-count (holds e) l z))

      go : (b : Bool) → ltb d (length l) ≡ b
          → (models e (cond b ((neg_ℤ (output n (tree l) (suc d)) ∷ []) ∷ []) []) ≡ true → held (holds e) l ≤ d)
          × (held (holds e) l ≤ d → models e (cond b ((neg_ℤ (output n (tree l) (suc d)) ∷ []) ∷ []) []) ≡ true)
      go true q =
          let x : Bool = holds e (neg_ℤ (output n (tree l) (suc d))) in
          let one : (x || false) && true ≡ not (ltb d (held (holds e) l)) = and-true (x || false) ∙ or-false x ∙ says (ltb-true d (length l) q) in (
            λ (m : (x || false) && true ≡ true). ltb-false d (held (holds e) l) (not-true (ltb d (held (holds e) l)) (sym one ∙ m)),
            λ (m : held (holds e) l ≤ d). one ∙ ap not (le-ltb d (held (holds e) l) m),
          )
      go false q = (
        λ (m : ◌≡◌ {A = Bool} true true). omega (arith, ltb-false d (length l) q, tree-count (holds e) l z, tree-size l z, count_most (holds e) (tree l)),
        λ (m : held (holds e) l ≤ d). refl,
      )

  -- The clauses over some leaves hold exactly when at most d of the leaves hold and the bytes after n are the counters.
  pub at_most_says : (n : ℕ) (l : List ℤ) (d : ℕ) → Within n l → n + added (tree l) ≤ N → models e (at_most n l d) ≡ true
      → (held (holds e) l ≤ d) × (segment e n (added (tree l)) ≡ counters (holds e) (tree l))
  at_most_says n [] d w h m = (omega arith, refl)
  at_most_says n (x ∷ l) d w h m =
      let u : models e (totalizer n (tree (x ∷ l))) && models e (limit n (x ∷ l) d) ≡ true = sym (all_append (satisfied e) (totalizer n (tree (x ∷ l))) (limit n (x ∷ l) d)) ∙ m in
      let o : Over n (tree (x ∷ l)) = tree_over n (x ∷ l) (omega arith) w in
      let r : AllCount (holds e) n (tree (x ∷ l)) =
      totalizer_right (holds e) N (choice_opposite N e ch) n (tree (x ∷ l)) h o (and_left (models e (totalizer n (tree (x ∷ l)))) (models e (limit n (x ∷ l) d)) u) in (
        (limit_says n (x ∷ l) d (omega arith) o h r).0 (and_right (models e (totalizer n (tree (x ∷ l)))) (models e (limit n (x ∷ l) d)) u),
        right_segment n (tree (x ∷ l)) h r,
      )

  pub at_most_met : (n : ℕ) (l : List ℤ) (d : ℕ) → Within n l → n + added (tree l) ≤ N
      → held (holds e) l ≤ d → segment e n (added (tree l)) ≡ counters (holds e) (tree l) → models e (at_most n l d) ≡ true
  at_most_met n [] d w h m q = rw (le-ltb d 0 (omega arith))
  at_most_met n (x ∷ l) d w h m q =
      let o : Over n (tree (x ∷ l)) = tree_over n (x ∷ l) (omega arith) w in
      let r : AllCount (holds e) n (tree (x ∷ l)) = segment_right n (tree (x ∷ l)) h q in
      all_append (satisfied e) (totalizer n (tree (x ∷ l))) (limit n (x ∷ l) d)
      ∙ and_both (models e (totalizer n (tree (x ∷ l)))) (models e (limit n (x ∷ l) d))
      (right_totalizer (holds e) N (choice_opposite N e ch) n (tree (x ∷ l)) h o r)
      ((limit_says n (x ∷ l) d (omega arith) o h r).1 m)
