-- `opb_wishes::count::wished_on` meets its contract: the definition is the sum of what each byte adds.
use Rattle.std.proofs.Common.{arith, refl}
use Rattle.std.proofs.lemmas.Grind.{common_steps}
use Rattle.std.proofs.lemmas.List.Recursion.{is_sum_by}
use Rattle.wish.specs.Wish.{on_weight, wished_on}
use Rattle.opb_wishes.proofs.count.wished_on.Goals as goal

pub returns : goal.returns
returns c = grind (arith, common_steps, is_sum_by wished_on on_weight refl (λ _ _. refl))
