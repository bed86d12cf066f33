use Rattle.std.proofs.Common.{sym, ◌∙◌, false}
use Rattle.nearest_core_scan.specs.Broken.{broken_next}
use Rattle.nearest_core_scan.proofs.broken.first_broken.Goals as goal

pub loop-i-preserved : goal.loop-i-preserved
loop-i-preserved c =
    c.loop-i.invariant ∙ broken_next c.args.row.now c.args.taken.now c.args.a.now c.loop-i.i false c.loop-i-test.true (sym c.is_broken.ensures ∙ c.if-is_broken.false)
