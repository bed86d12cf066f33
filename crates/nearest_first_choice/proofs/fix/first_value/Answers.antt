-- `nearest_first_choice::fix::first_value` meets its contract: the choice at hand has the variable off, or a search from the state decides.
use Rattle.std.proofs.Common.{refl, sym, ◌∙◌, arith, ◌+◌}
use Rattle.nearest_first_choice.specs.Refining.{refining_kept, refining_decided}
use Rattle.nearest_first_choice.proofs.fix.first_value.Goals as goal

pub returns-then-value_of-eq0-clause-refined : goal.returns-then-value_of-eq0-clause-refined
returns-then-value_of-eq0-clause-refined c =
    (omega arith, refining_kept c.requires.fixing.0.fixed.refining (c.args.i + 1) refl (omega (arith, c.requires.fixing.1)) c.requires.fixing.2 (sym c.value_of.ensures ∙ c.if-value_of-eq0.true))

pub returns-clause-refined : goal.returns-clause-refined
returns-clause-refined c = refining_decided c.requires.fixing.0.fixed.refining (c.args.i + 1) refl (omega (arith, c.requires.fixing.1)) c.requires.fixing.2 c.value_by_search.ensures.decided
