-- What the numbers of an export mean.
use Rattle.std.specs.Prelude.{◌≡◌, ℕ, Option, Some, None, Result, Ok, Err}
use Rattle.std.proofs.Common.{sym, subst, true≢false, arith}
use Rattle.refusal.specs.declared.Refusal.{Refusal}
use Rattle.refusal.specs.Reply.{Reply, refusing}
use Rattle.search_meaning.specs.Answers.{reply_of}
use Rattle.c_answers.specs.declared.Answer.{Answer}
use Rattle.c_answers.specs.Answers.{answer_of}
use Rattle.c_answer_meaning.specs.Meaning.{NumbersMean}
use Rattle.c_answer_meaning.specs.Replies.{Told}

-- what a search's answer means, its numbers say
module _ {Means : Result (Option ℕ) Refusal → Type 0} where
  refusal_says : (r : Refusal) → Told (refusing r) → NumbersMean Means (answer_of (refusing r))
  refusal_says r told = record { found = λ e. absurd (omega arith); none = λ e f. absurd (true≢false (sym (told.answered e))) }

  numbers_say : (s : Result (Option ℕ) Refusal) → Told (reply_of s) → Means s → NumbersMean Means (answer_of (reply_of s))
  numbers_say (Err r) told meant = refusal_says r told
  numbers_say (Ok (Some broken)) told meant = record { found = λ e. meant; none = λ e f. absurd (omega arith) }
  numbers_say (Ok None) told meant = record { found = λ e. absurd (omega arith); none = λ e f. meant }

  pub says : (s : Result (Option ℕ) Refusal) {a : Answer} {reply : Reply} → a ≡ answer_of (reply_of s) → reply_of s ≡ reply → Told reply → Means s → NumbersMean Means a
  says s given replied told meant = subst (NumbersMean Means) (sym given) (numbers_say s (subst Told (sym replied) told) meant)
