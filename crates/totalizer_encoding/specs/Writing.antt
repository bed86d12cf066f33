-- The writing of the rewritten list, part by part: the given rules, then the clauses over the leaves.
use Rattle.std.specs.Prelude.{◌≡◌, List, [], ◌∷◌, ℕ, zero, suc, ◌+◌, ◌≤◌, ℤ, length, take, None}
use Rattle.std.proofs.Common.{ap, ap₂, ◌∙◌, zero-add, arith, length-append}
use Rattle.refusal.specs.Reply.{filled}
use Rattle.replies.specs.declared.Sizes.{Sizes}
use Rattle.limits.specs.Limits.{max_variables, max_wishes}
use Rattle.refusal_causes.specs.Admitted.{Admitted}
use Rattle.refusal_causes.specs.Lent.{wished_problem}
use Rattle.rule_list_soundness.specs.Flat.{flat}
use Rattle.writing.specs.Wrote.{Wrote, wrote_as, wrote_more, wrote_length, wrote_whole, wrote_front}
use Rattle.totalizer.specs.Totalizer.{leaves, tree, added, at_most, rewritten}
use Rattle.totalizer.specs.Trees as trees
use Rattle.totalizer.proofs.Rows.{leaves-within}
use Rattle.totalizer.proofs.Sizes.{added-most}
use Rattle.totalizer_groups.specs.Groups.{LeavesFit}
use Rattle.totalizer_encoding.specs.Causes.{few_leaves}
use Rattle.totalizer_encoding.specs.Rewrite.{rewritten_sizes}

-- two sizes
abbrev sizes : ℕ → ℕ → Sizes
sizes variables size = record { variables = variables; length = size }

-- literals of the variables 1 to n are within the limit, if n is
within : (n : ℕ) (l : List ℤ) → n ≤ max_variables → trees.Within n l → LeavesFit l
within n [] h w i = omega arith
within n (x ∷ l) h w zero = omega (arith, w.1)
within n (x ∷ l) h w (suc i) = within n l h w.2 i

module _ (n : ℕ) (rules : List ℤ) (row : List ℕ) (d : ℕ) (out : List ℤ) (ok : Admitted (wished_problem n rules row d) × (length (rewritten n rules row d) ≤ length out)) where
  abbrev own : List ℤ → List ℤ
  own l = flat (at_most n l d)

  few : length (leaves row) ≤ max_wishes
  few = few_leaves n rules row d ok.0

  pub rules_room : 0 + length rules ≤ length out
  rules_room = omega (arith, ok.1, length-append rules (own (leaves row)))

  module _ {blank found : List ℤ} {m : ℕ} (sized : length blank ≡ max_wishes) (wrote : Wrote (leaves row) blank 0 found m) where
    pub these : take m found ≡ leaves row
    these = wrote_front wrote (omega (arith, few))

    pub found_room : m ≤ length found
    found_room = omega (arith, wrote.place, wrote_length wrote, few)

    module _ {o : List ℤ} {from : ℕ} (copied : Wrote rules out 0 o from) where
      pub own_asks : LeavesFit (take m found) × (n + added (tree (take m found)) ≤ max_variables) × (from + length (own (take m found)) ≤ length o)
      own_asks = rw these (
        within n (leaves row) (omega (arith, ok.0.small.variables)) (rw (← ok.0.long_row) (leaves-within row)),
        omega (arith, ok.0.small.variables, few, added-most (leaves row) (few)),
        omega (arith, ok.1, length-append rules (own (leaves row)), copied.place, wrote_length copied),
      )

      pub all_written : {p : List ℤ} {last at : ℕ} → Wrote (own (take m found)) o from p at × (last ≡ n + added (tree (take m found)))
          → (sizes last at ≡ rewritten_sizes n rules row d) × (p ≡ filled None (rewritten n rules row d) out)
      all_written {p} {last} {at} e =
          let whole : Wrote (rewritten n rules row d) out 0 p at = wrote_more copied (wrote_as (ap own these) e.0) in (
            ap₂ sizes (e.1 ∙ ap (λ (l : List ℤ). n + added (tree l)) these) (whole.place ∙ zero-add (length (rewritten n rules row d))),
            wrote_whole whole ok.1,
          )
