-- `nearest_guide::write_guide` meets its contract: the bytes written so far ask what they should.
use Rattle.nearest_cores.specs.SearchRight.{Guides}
use Rattle.nearest_guide.proofs.write_guide.Given as goal

abbrev pub invariant-loop-i : goal.invariant-loop-i
invariant-loop-i l = Guides l.i l.row l.guide
