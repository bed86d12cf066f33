-- `formula::satisfied_by` meets its contract: the chain gives std's word for `any`.
use Rattle.std.proofs.Common.{rules, tests, ◌∙◌}
use Rattle.std.proofs.lemmas.Iterator.{YieldsList-from_slice}
use Rattle.std.proofs.lemmas.Iterator.Search.{any_from_yields_List}
use Rattle.literal.specs.Literal.{holds}
use Rattle.formula.specs.Laws.{list_any_is}
use Rattle.formula.proofs.satisfied_by.Goals as goal

pub returns : goal.returns
returns c =
    let clause = c.args.clause.now in
    let test = holds c.args.assignment.now in
    any_from_yields_List test _ _ _ c.any.ensures.ran (YieldsList-from_slice clause cc) (λ x b q k. search (rules, tests)) ∙ list_any_is test clause
