-- How a function answers what it was given.
use Rattle.std.specs.Prelude.{◌≡◌}
use Rattle.std.proofs.Common.{ap, sym, ◌∙◌}
use Rattle.refusal.specs.Reply.{Reply}
use Rattle.c_answers.specs.declared.Answer.{Answer}
use Rattle.c_answers.specs.Answers.{answer_of}

-- what was given is the variant y, and the struct has y's numbers
module _ {A : Type 0} (reply-of : A → Reply) where
  pub told_of : {x y : A} {a : Answer} → x ≡ y → a ≡ answer_of (reply-of y) → a ≡ answer_of (reply-of x)
  told_of e given = given ∙ ap (λ (z : A). answer_of (reply-of z)) (sym e)
