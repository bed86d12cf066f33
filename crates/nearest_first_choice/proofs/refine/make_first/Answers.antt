-- `nearest_first_choice::refine::make_first` meets its contract: the first model within the limit stands where one stood.
use Rattle.std.specs.Prelude.{Option, None}
use Rattle.std.proofs.Common.{sym, ap, List, ℕ, length}
use Rattle.choices.proofs.Order.{first_within_lem}
use Rattle.search_meaning.specs.Searches.{with_broken, choice_after}
use Rattle.nearest_first_choice.proofs.refine.make_first.Goals as goal

pub returns : goal.returns
returns c =
    let n = length c.args.a.now in
    sym
    (ap (λ (o : Option (List ℕ)). choice_after None (with_broken c.args.row.now o) n c.args.choice.now)
    ((first_within_lem n c.args.rules.now c.args.row.now c.args.d c.refine.new.choice).1 c.refine.ensures))
