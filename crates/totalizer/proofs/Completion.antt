-- The completion of a choice: the counters rest on the choice alone, and are bytes of 0 and 1.
use Rattle.std.specs.Prelude.{◌≡◌, refl, Bool, true, false, cond, ◌&&◌, List, [], ◌∷◌, ◌++◌, ℕ, zero, suc, ◌+◌, ◌≤◌, ltb, ℤ, take, drop}
use Rattle.std.proofs.Common.{sym, ap, ap₂, ◌∙◌, arith, length-append, length-take, length-drop, take-append-drop, take_all, take_at, drop_at}
use Rattle.literal.specs.Literal.{variable, holds}
use Rattle.formula.specs.Formula.{all}
use Rattle.rule_list_soundness.specs.Laws.{and_both, all_append}
use Rattle.choices.specs.Choices.{Choice}
use Rattle.totalizer.proofs.Choice.{binary, choice_of, holds-take}
use Rattle.totalizer.specs.Totalizer.{Tree, leaf, node, tree, size, added, leaves, rewritten_variables, count, unary, counters, completion, Over}
use Rattle.totalizer.specs.Trees.{held, Within}
use Rattle.totalizer.proofs.Trees.{tree_over}
use Rattle.totalizer.specs.Counters.{segment}
use Rattle.totalizer.proofs.Counters.{length-counters}

-- two assignments that agree on the variables 1 to n
module _ (n : ℕ) (g h : ℤ → Bool) (same : (x : ℤ) → variable x ≤ n → g x ≡ h x) where
  pub held_same : (l : List ℤ) → Within n l → held g l ≡ held h l
  held_same [] w = refl
  held_same (x ∷ l) w = ap₂ (λ (b : Bool) (k : ℕ). cond b 1 0 + k) (same x w.1) (held_same l w.2)

  count_same : (t : Tree) → Over n t → count g t ≡ count h t
  count_same (leaf x) o = ap (λ (b : Bool). cond b 1 0) (same x o.1)
  count_same (node s t) o = ap₂ ◌+◌ (count_same s o.0) (count_same t o.1)

  counters_over : (t : Tree) → Over n t → counters g t ≡ counters h t
  counters_over (leaf x) o = refl
  counters_over (node s t) o =
      ap₂ ◌++◌
      (ap₂ ◌++◌ (counters_over s o.0) (counters_over t o.1))
      (ap (unary (size s + size t)) (ap₂ ◌+◌ (count_same s o.0) (count_same t o.1)))

  pub counters_same : (l : List ℤ) → Within n l → counters g (tree l) ≡ counters h (tree l)
  counters_same [] w = refl
  counters_same (x ∷ l) w = counters_over (tree (x ∷ l)) (tree_over n (x ∷ l) (omega arith) w)

-- every counter is 0 or 1
unary_binary : (m c : ℕ) → all (λ (b : ℕ). ltb b 2) (unary m c) ≡ true
unary_binary zero c = refl
unary_binary (suc m) c =
    let last : List ℕ = cond (ltb m c) 1 0 ∷ [] in
    all_append (λ (b : ℕ). ltb b 2) (unary m c) last
    ∙ and_both (all (λ (b : ℕ). ltb b 2) (unary m c)) (all (λ (b : ℕ). ltb b 2) last) (unary_binary m c) (one (ltb m c))
  where
    one : (b : Bool) → ltb (cond b 1 0) 2 && true ≡ true
    one true = refl
    one false = refl

counters_binary : (h : ℤ → Bool) (t : Tree) → all (λ (b : ℕ). ltb b 2) (counters h t) ≡ true
counters_binary h (leaf x) = refl
counters_binary h (node s t) =
    let own : List ℕ = unary (size s + size t) (count h s + count h t) in
    let binary : List ℕ → Bool = all (λ (b : ℕ). ltb b 2) in
    all_append (λ (b : ℕ). ltb b 2) (counters h s ++ counters h t) own
    ∙ and_both (binary (counters h s ++ counters h t)) (binary own)
    (all_append (λ (b : ℕ). ltb b 2) (counters h s) (counters h t)
    ∙ and_both (binary (counters h s)) (binary (counters h t)) (counters_binary h s) (counters_binary h t))
    (unary_binary (size s + size t) (count h s + count h t))

-- so the completion of a choice is a choice
pub completion_choice : (n : ℕ) (row a : List ℕ) → Choice n a → Choice (rewritten_variables n row) (completion row a)
completion_choice n row a c =
    let own : List ℕ = counters (holds a) (tree (leaves row)) in
    choice_of (rewritten_variables n row) (completion row a)
    (omega (arith, length-append a own, length-counters (holds a) (tree (leaves row)), c.size))
    (all_append (λ (b : ℕ). ltb b 2) a own
    ∙ and_both (all (λ (b : ℕ). ltb b 2) a) (all (λ (b : ℕ). ltb b 2) own) (binary c) (counters_binary (holds a) (tree (leaves row))))

-- and it keeps the choice
pub completion-take : (n : ℕ) (row a : List ℕ) → Choice n a → take n (completion row a) ≡ a
completion-take n row a c = take_at a (counters (holds a) (tree (leaves row))) n c.size

-- A choice of all variables is the completion of its first n exactly when its bytes after n are the counters.
module _ (n : ℕ) (row e : List ℕ) (c : Choice (rewritten_variables n row) e) (w : Within n (leaves row)) where
  -- the added variables are all that is left, and the counters are those of the first n
  tail : segment e n (added (tree (leaves row))) ≡ drop n e
  tail = take_all (added (tree (leaves row))) (drop n e) (omega (arith, length-drop n e, c.size))

  same : counters (holds (take n e)) (tree (leaves row)) ≡ counters (holds e) (tree (leaves row))
  same = counters_same n (holds (take n e)) (holds e) (holds-take n e) (leaves row) w

  pub segment-completion : segment e n (added (tree (leaves row))) ≡ counters (holds e) (tree (leaves row)) → e ≡ completion row (take n e)
  segment-completion q = sym (take-append-drop n e) ∙ ap (λ (r : List ℕ). take n e ++ r) (sym tail ∙ q ∙ sym same)

  pub completion-segment : e ≡ completion row (take n e) → segment e n (added (tree (leaves row))) ≡ counters (holds e) (tree (leaves row))
  completion-segment q =
      tail
      ∙ ap (drop n) q
      ∙ drop_at (take n e) (counters (holds (take n e)) (tree (leaves row))) n (omega (arith, length-take n e, c.size))
      ∙ same
