-- `nearest_narrowing::keep::keep_wishes` meets its contract: each turn is one of the laws of `Keeping`.
use lib.ListN.{length}
use Rattle.nearest_narrowing.specs.Keeping.{Keeping}
use Rattle.nearest_narrowing.proofs.keep.keep_wishes.Given as goal

abbrev pub invariant-loop-i : goal.invariant-loop-i
invariant-loop-i l = Keeping (length l.initial.a) l.row l.d l.taken l.bound l.initial.present l.initial.a l.initial.trail l.i l.present l.a l.trail
