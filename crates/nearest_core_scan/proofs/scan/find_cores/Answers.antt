use Rattle.std.proofs.Common.{arith, rules}
use Rattle.nearest_core_scan.specs.Going.{going_next}
use Rattle.nearest_core_scan.proofs.scan.find_cores.Goals as goal

pub loop-i-preserved : goal.loop-i-preserved
loop-i-preserved c =
    (going_next c.loop-i.invariant.0 (omega arith) c.scan_wish-progress.ensures, search rules)
