-- `walk_occurrences::layout::every_clause` meets its contract.
use mathlib.Core.Path.{ap}
use Prim.Native.Nat.{ℕ, ◌+◌}
use lib.ListN.{get_or}
use Rattle.walk_occurrences.specs.Layout.{numbers_at}
use Rattle.walk_occurrences.proofs.LayoutLaws.{numbers_first}
use Rattle.walk_occurrences.proofs.layout.every_clause.Goals as goal

pub returns : goal.returns
returns c =
    numbers_first c.args.arrangement.now (get_or c.args.arrangement.now 1 0) (numbers_at + c.clause_count-end.result) (ap (λ (m : ℕ). numbers_at + m) c.clause_count-end.ensures)
