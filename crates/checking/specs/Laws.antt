-- The replies of the checking call.
use Rattle.std.specs.Prelude.{◌≡◌, true, false, List, ℕ, ℤ, Option, None, Some}
use Rattle.std.proofs.Common.{sym, ap, ◌∙◌}
use Rattle.formula.specs.Formula.{clauses, models}
use Rattle.distance.specs.Distance.{disagreement}
use Rattle.refusal.specs.declared.Refusal.{Refusal}
use Rattle.refusal.specs.Laws.{first_or_none}
use Rattle.refusal.specs.Reply.{refusing, answering, unless}
use Rattle.refusal_causes.specs.Lent.{unadmitted}
use Rattle.checking.specs.Check.{lent_to_check, judged, check_reply}

-- the call has no output, so 15 never applies
module _ (n : ℕ) (rules : List ℤ) (row choice : List ℕ) where
  abbrev cause_of : Option Refusal
  cause_of = unadmitted (lent_to_check n rules row choice)

  whole : (o : Option Refusal) → cause_of ≡ o → check_reply n rules row choice ≡ unless o (judged rules row choice)
  whole o e = ap (λ (q : Option Refusal). unless q (judged rules row choice)) (first_or_none cause_of ∙ e)

  pub refused_check : (r : Refusal) → cause_of ≡ Some r → refusing r ≡ check_reply n rules row choice
  refused_check r e = sym (whole (Some r) e)

  pub answered_check : cause_of ≡ None → judged rules row choice ≡ check_reply n rules row choice
  answered_check e = sym (whole None e)

-- the two answers
pub judged_met : (rules : List ℤ) (row choice : List ℕ) (k : ℕ) → models choice (clauses rules) ≡ true → k ≡ disagreement row choice → answering 1 k 0 0 ≡ judged rules row choice
judged_met rules row choice k e d = rw (e, d)

pub judged_unmet : (rules : List ℤ) (row choice : List ℕ) (k : ℕ) → models choice (clauses rules) ≡ false → k ≡ disagreement row choice → answering 0 k 0 0 ≡ judged rules row choice
judged_unmet rules row choice k e d = rw (e, d)
