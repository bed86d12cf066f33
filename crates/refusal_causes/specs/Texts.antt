-- What Outputs.antt says, of a call that writes a text: its answer is the text's length.
use Rattle.std.specs.Prelude.{◌≡◌, List, ◌++◌, ℕ, length, drop, None, Some}
use Rattle.std.proofs.Common.{ap}
use Rattle.refusal.specs.declared.Refusal.{Refusal}
use Rattle.refusal.specs.Reply.{Reply, refusing, answering, too_short}
use Rattle.refusal_causes.specs.Lent.{Lent, unadmitted}
use Rattle.refusal_causes.specs.Outputs as outputs

-- a call that is lent s and writes the text w into out
module _ (s : Lent) (w out : List ℕ) where
  abbrev answer : Reply
  answer = answering 1 (length w) 0 0

  abbrev pub Answers : Reply → List ℕ → Type 0
  Answers = outputs.Answers s answer w out

  pub refused_early : (r : Refusal) → unadmitted s ≡ Some r → Answers (refusing r) out
  refused_early = outputs.refused_early s answer w out

  -- what was lent is admitted, and so many bytes are needed
  module _ (ok : unadmitted s ≡ None) (k : ℕ) (size : k ≡ length w) where
    pub refused_late : (r : Refusal) → too_short k (length out) ≡ Some r → Answers (refusing r) out
    refused_late = outputs.refused_late s answer w out ok k size

    pub answered : too_short k (length out) ≡ None → (i : ℕ) → i ≡ length w → (result : List ℕ) → result ≡ w ++ drop (length w) out → Answers (answering 1 i 0 0) result
    answered e i place = outputs.answered s answer w out ok k size e (answering 1 i 0 0) (ap (λ (j : ℕ). answering 1 j 0 0) place)
