use mathlib.Core.Path.{◌∙◌}
use Prim.Native.Nat.{◌<◌}
use native.Mathlib.Omega.{arith}
use lib.ListN.{length, length-set}
use Rattle.formula.specs.Laws.{end_inside}
use Rattle.walk_occurrences.proofs.BeginsLaws.{beginning_more, beginning_next, beginning_end}
use Rattle.walk_occurrences.proofs.begins.note_begins.Goals as goal

-- there is a place for one more clause
inside-in-loop-from : (c : goal.In-loop-from) → c.loop-from.k < length c.loop-from.begins
inside-in-loop-from c =
    omega (arith, c.requires.1, c.loop-from.invariant.0, beginning_more c.args.rules.now c.loop-from.begins c.loop-from.k c.loop-from.from c.loop-from.invariant.1 c.loop-from-test.true)

pub bounds-begins-k : goal.bounds-begins-k
bounds-begins-k c = inside-in-loop-from c

-- there is a place for one more clause
inside-after-clause_end-from : (c : goal.After-clause_end-from) → c.loop-from.k < length c.loop-from.begins
inside-after-clause_end-from c =
    omega (arith, c.requires.1, c.loop-from.invariant.0, beginning_more c.args.rules.now c.loop-from.begins c.loop-from.k c.loop-from.from c.loop-from.invariant.1 c.loop-from-test.true)

pub overflow_add-from : goal.overflow_add-from
overflow_add-from c =
    omega (arith, c.requires.0, end_inside c.args.rules.now c.loop-from.from c.clause_end-from.result (omega (arith, c.loop-from-test.true)) c.clause_end-from.ensures)

pub loop-from-preserved : goal.loop-from-preserved
loop-from-preserved c = (
  length-set c.loop-from.begins c.loop-from.k c.loop-from.from ∙ c.loop-from.invariant.0,
  beginning_next c.args.rules.now c.loop-from.begins c.loop-from.k c.loop-from.from c.loop-from.invariant.1 c.loop-from-test.true c.clause_end-from.result c.clause_end-from.ensures (inside-after-clause_end-from c),
)

pub returns : goal.returns
returns c =
    beginning_end c.args.rules.now c.loop-from.begins c.loop-from.k c.loop-from.from c.loop-from.invariant.1 c.loop-from-test.false
