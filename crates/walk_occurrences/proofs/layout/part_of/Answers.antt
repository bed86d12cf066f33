-- `walk_occurrences::layout::part_of` meets its contract.
use Prim.Native.Nat.{◌-◌}
use lib.ListN.{get_or}
use Rattle.walk_occurrences.proofs.LayoutLaws.{numbers_part}
use Rattle.walk_occurrences.proofs.layout.part_of.Goals as goal

pub returns : goal.returns
returns c =
    numbers_part c.args.arrangement.now (get_or c.args.arrangement.now (c.args.slot - 1) 0) (get_or c.args.arrangement.now c.args.slot 0)
