use Rattle.std.proofs.Common.{subst, ℕ, ◌+◌, arith}
use Rattle.nearest_narrowing.specs.Keeping.{KeptOne, keeping_next}
use Rattle.nearest_narrowing.proofs.keep.keep_wishes.Goals as goal

pub loop-i-preserved : goal.loop-i-preserved
loop-i-preserved c =
    keeping_next c.loop-i.invariant (omega arith)
    (subst (λ (n : ℕ). KeptOne n c.args.row.now c.args.d c.args.taken.now c.args.bound (c.loop-i.i + 1) c.loop-i.present c.loop-i.a c.loop-i.trail c.keep_wish-present.result c.keep_wish-present.new.a c.keep_wish-present.new.trail)
    c.loop-i.invariant.kept.moved.searching.state.size c.keep_wish-present.ensures)
