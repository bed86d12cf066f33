-- The rewritten list of a sound rule list and a row of its length: its clauses, and what they say of a choice.
use Rattle.std.specs.Prelude.{◌≡◌, Bool, true, ◌&&◌, List, ◌++◌, ℕ, ◌≤◌, ℤ, length, take}
use Rattle.std.proofs.Common.{sym, ap, ◌∙◌, arith, length-take}
use Rattle.literal.specs.Literal.{variable, holds}
use Rattle.formula.specs.Formula.{clauses, satisfied, models}
use Rattle.distance.specs.Distance.{disagreement}
use Rattle.rule_list.specs.Sound.{SoundList}
use Rattle.rule_list_soundness.specs.Flat.{well_formed}
use Rattle.rule_list_soundness.specs.Laws.{and_left, and_right, and_both, all_append, models_by_values}
use Rattle.rule_list_soundness.specs.Soundness.{sound, clauses-behind}
use Rattle.choices.specs.Choices.{Choice}
use Rattle.totalizer.specs.Totalizer.{leaves, at_most, rewritten_variables, rewritten, completion}
use Rattle.totalizer.specs.Trees.{held, Within}
use Rattle.totalizer.specs.Rows.{RisingLiterals}
use Rattle.totalizer.proofs.Rows.{leaves_rising, leaves-within, held-leaves}
use Rattle.totalizer.proofs.Choice.{holds-take, value_take}
use Rattle.totalizer.proofs.Counters.{at_most_says, at_most_met}
use Rattle.totalizer.proofs.Completion.{held_same, segment-completion, completion-segment}
use Rattle.totalizer.proofs.Formed.{at_most_formed}

-- the leaves of a row of n bytes are literals of the variables 1 to n, and the clauses over them are well-formed
pub row_within : (n : ℕ) (row : List ℕ) → length row ≡ n → Within n (leaves row)
row_within n row long = rw long at (leaves-within row)

pub row_formed : (n : ℕ) (row : List ℕ) (d : ℕ) → length row ≡ n → well_formed (rewritten_variables n row) (at_most n (leaves row) d) ≡ true
row_formed n row d long = let r : RisingLiterals 0 n (leaves row) = rw long at (leaves_rising row) in at_most_formed n (leaves row) d r

module _ (n : ℕ) (list : List ℤ) (row : List ℕ) (d : ℕ) (ok : SoundList n list) (long : length row ≡ n) where
  -- "The result holds the given rules, then the groups' rules in that same order, then, if d < m, one rule -s(d+1)."
  pub rewritten-clauses : clauses (rewritten n list row d) ≡ clauses list ++ at_most n (leaves row) d
  rewritten-clauses = clauses-behind n (rewritten_variables n row) list (at_most n (leaves row) d) (sound n list ok) (omega arith) (row_formed n row d long)

  -- a choice of all variables of the result
  module _ (e : List ℕ) (ch : Choice (rewritten_variables n row) e) where
    -- it meets them where its first n variables meet the given ones and it meets the rest
    rewritten-models : models e (clauses (rewritten n list row d)) ≡ models (take n e) (clauses list) && models e (at_most n (leaves row) d)
    rewritten-models =
        ap (models e) rewritten-clauses
        ∙ all_append (satisfied e) (clauses list) (at_most n (leaves row) d)
        ∙ ap (λ (b : Bool). b && models e (at_most n (leaves row) d))
        (models_by_values n e (take n e) (λ (v : ℕ) (h : v ≤ n). sym (value_take n e v h)) (clauses list) (sound n list ok).formed)

    -- the leaves that hold are the wishes that its first n variables break
    broken : held (holds e) (leaves row) ≡ disagreement row (take n e)
    broken =
        held_same n (holds e) (holds (take n e)) (λ (x : ℤ) (h : variable x ≤ n). sym (holds-take n e x h)) (leaves row) (row_within n row long)
        ∙ held-leaves (take n e) row (omega (arith, length-take n e, ch.size))

    -- the two directions of `completions` (Theorems)
    pub rewritten_says : models e (clauses (rewritten n list row d)) ≡ true
        → (models (take n e) (clauses list) ≡ true) × (disagreement row (take n e) ≤ d) × (e ≡ completion row (take n e))
    rewritten_says m =
        let given : Bool = models (take n e) (clauses list) in
        let limited : Bool = models e (at_most n (leaves row) d) in
        let both : given && limited ≡ true = sym rewritten-models ∙ m in
        let (near, own) = at_most_says (rewritten_variables n row) e ch n (leaves row) d (row_within n row long) (omega arith) (and_right given limited both) in (
          and_left given limited both,
          omega (arith, broken, near),
          segment-completion n row e ch (row_within n row long) own,
        )

    pub rewritten_met : models (take n e) (clauses list) ≡ true → disagreement row (take n e) ≤ d → e ≡ completion row (take n e)
        → models e (clauses (rewritten n list row d)) ≡ true
    rewritten_met m near q =
        rewritten-models
        ∙ and_both (models (take n e) (clauses list)) (models e (at_most n (leaves row) d)) m
        (at_most_met (rewritten_variables n row) e ch n (leaves row) d (row_within n row long) (omega arith)
        (omega (arith, broken))
        (completion-segment n row e ch (row_within n row long) q))
