-- The completions of choices, from the totalizer's theorems.
use Rattle.std.specs.Prelude.{◌≡◌, List, ℕ, ◌≤◌, ℤ}
use Rattle.std.proofs.Common.{sym, subst, ◌∙◌, arith, take_all}
use Rattle.literal.specs.Literal.{holds}
use Rattle.formula.specs.Formula.{clauses}
use Rattle.distance.specs.Distance.{disagreement}
use Rattle.choices.specs.Choices.{Choice, Model}
use Rattle.totalizer.proofs.Choice.{choice_take}
use Rattle.totalizer.specs.Totalizer.{leaves, tree, rewritten_variables, completion, AllCount}
use Rattle.totalizer.proofs.Theorems as totalizer
use Rattle.refusal_causes.specs.Admitted.{Admitted}
use Rattle.refusal_causes.specs.Lent.{wished_problem}
use Rattle.agreement.specs.Claim.{Completing, Completions}

module _ (n : ℕ) (rules : List ℤ) (row : List ℕ) (d : ℕ) (ok : Admitted (wished_problem n rules row d)) where
  -- a completion that meets every rewritten rule is the totalizer's, of a model within the limit
  says : (a e : List ℕ) → Completing n rules row d a e → Model n (clauses rules) a × (disagreement row a ≤ d) × (e ≡ completion row a)
  says a e c =
      let (met, near, own) = (totalizer.completions n rules row d a e ok.sound_rules ok.long_row c.completion.whole c.completion.same).0 c.meets in
      let choice : Choice n a = subst (Choice n) c.completion.same (choice_take n (rewritten_variables n row) e c.completion.whole (omega arith)) in
      (record { choice = choice; satisfies = met }, near, own)

  own : (a : List ℕ) → Model n (clauses rules) a → disagreement row a ≤ d → Completing n rules row d a (completion row a)
  own a m near =
      let (whole, same) = totalizer.completion_completes n row a m.choice in
      record {
        completion = record { whole = whole; same = same };
        meets = totalizer.within_found n rules row d a ok.sound_rules ok.long_row m.choice m.satisfies near;
      }

  counts : (a e : List ℕ) → Completing n rules row d a e → AllCount (holds e) n (tree (leaves row))
  counts a e c =
      let (model, near, same) = says a e c in
      subst (λ (l : List ℕ). AllCount (holds l) n (tree (leaves row))) (sym same) (totalizer.completion_counts n row a ok.long_row model.choice)

  pub all_completions : Completions n rules row d
  all_completions =
      record {
        one = λ a m near. (completion row a, own a m near, λ o c. (says a o c).2);
        given = λ a e c. ((says a e c).0, (says a e c).1);
        counts = counts;
        alone = λ a e c same. sym (take_all n e (omega (arith, c.whole.size, same))) ∙ c.same;
      }
