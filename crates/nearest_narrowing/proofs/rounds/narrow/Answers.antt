-- `nearest_narrowing::narrow` meets its contract: the first round, and where that kept wishes the others, by the laws of `Narrowing`.
use Rattle.std.proofs.Common.{ℕ}
use Rattle.formula.specs.Formula.{clauses}
use Rattle.nearest_cores.specs.Narrow.{narrow as narrow_of}
use Rattle.walk_propagation.specs.Looked.{ComesTo}
use Rattle.nearest_narrowing.specs.Rounds.{narrowing_start, narrowing_sized, narrowing_next, narrowing_on}
use Rattle.nearest_narrowing.proofs.rounds.narrow.Goals as goal

pub returns-in-Kept : goal.returns-in-Kept
returns-in-Kept c =
    let start = narrowing_start (clauses c.args.rules.now) c.args.d c.requires.0.looking.searching c.requires.1 c.requires.2 in
    let kept = narrowing_next start (rw c.in-Kept.is at c.in_ok-t.ensures) in
    narrowing_on kept c.narrow_on.new.a c.narrow_on.new.trail c.narrow_on.result
    (narrowing_sized kept (λ (n : ℕ). ComesTo n c.args.row.now (narrow_of (clauses c.args.rules.now) c.args.row.now c.args.d c.narrow_round.new.a) c.in-Kept.t c.narrow_round.new.a c.narrow_round.new.trail c.narrow_on.new.a c.narrow_on.new.trail c.narrow_on.result) c.narrow_on.ensures)
