-- The checking call (document 01, "The wish search"): "A checking call says whether a choice meets all rules, and how many wishes it breaks."
use Rattle.std.specs.Prelude.{cond, List, ℕ, ℤ, Result, Ok, Err}
use Rattle.formula.specs.Formula.{clauses, models}
use Rattle.distance.specs.Distance.{disagreement}
use Rattle.refusal.specs.declared.Refusal.{Refusal}
use Rattle.refusal.specs.Reply.{Reply, refusing, answering, unless}
use Rattle.refusal_causes.specs.Lent.{Lent, chosen_problem, refusal_of}
use Rattle.checking.specs.declared.Checked.{Checked}
use Rattle.checking.specs.declared.Checked.TheVariants.{Met, Unmet}

-- what is lent to the call; it has no output
abbrev pub lent_to_check : ℕ → List ℤ → List ℕ → List ℕ → Lent
lent_to_check n rules row choice = chosen_problem n rules row choice

-- whether the choice meets all rules, and the number of wishes that it breaks
abbrev pub judged : List ℤ → List ℕ → List ℕ → Reply
judged rules row choice = answering (cond (models choice (clauses rules)) 1 0) (disagreement row choice) 0 0

-- the reply of the call
abbrev pub check_reply : ℕ → List ℤ → List ℕ → List ℕ → Reply
check_reply n rules row choice = unless (refusal_of (lent_to_check n rules row choice)) (judged rules row choice)

-- the numbers of each answer
abbrev pub reply_of : Result Checked Refusal → Reply
reply_of (Err r) = refusing r
reply_of (Ok (Met broken)) = answering 1 broken 0 0
reply_of (Ok (Unmet broken)) = answering 0 broken 0 0
