-- What the answer of a search means, said of its numbers.
use Rattle.std.specs.Prelude.{◌≡◌, ℕ, Option, Some, None, Result, Ok, get_or}
use Rattle.refusal.specs.declared.Refusal.{Refusal}
use Rattle.c_answers.specs.declared.Answer.{Answer}

-- A verdict of 1 means what the search means by a choice that it found, with the first value as the number of broken wishes; a verdict of 0 without a refusal means what it means by none.
pub record NumbersMean (Means : Result (Option ℕ) Refusal → Type 0) (a : Answer) : Type 0 where
  pub found : a.verdict ≡ 1 → Means (Ok (Some (get_or a.value 0 0)))
  pub none : a.refusal ≡ 0 → a.verdict ≡ 0 → Means (Ok None)
