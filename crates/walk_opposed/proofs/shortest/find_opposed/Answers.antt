use mathlib.Core.Path.{sym, ap, ◌∙◌}
use Prim.Native.Nat.{◌+◌}
use native.Mathlib.Omega.{arith}
use lib.ListN.{drop}
use Rattle.formula.specs.Formula.{clauses}
use Rattle.formula.specs.Laws.{end_inside}
use Rattle.walk.specs.Branching.{shortest}
use Rattle.walk_clause_standing.specs.Clause.{clause_at, clauses_at}
use Rattle.walk_opposed.specs.Laws.{shortest-other}
use Rattle.walk_opposed.specs.OpposesLaws.{told_opposed}
use Rattle.walk_opposed.proofs.shortest.find_opposed.Goals as goal

pub overflow_add-from : goal.overflow_add-from
overflow_add-from c =
    omega (arith, end_inside c.args.rules.now c.loop-from.from c.read_opposed-reading.result.end (omega arith) c.read_opposed-reading.ensures.ends)

pub loop-from-preserved : goal.loop-from-preserved
loop-from-preserved c =
    c.loop-from.invariant
    ∙ ap (shortest c.args.row.now c.args.assignment.now) (clauses_at c.args.rules.now c.loop-from.from c.read_opposed-reading.result.end c.read_opposed-reading.ensures.ends c.loop-from-test.true)
    ∙ shortest-other c.args.row.now c.args.assignment.now (clause_at c.loop-from.from c.args.rules.now) (clauses (drop (c.read_opposed-reading.result.end + 1) c.args.rules.now)) (sym (told_opposed c.args.row.now c.args.assignment.now c.args.rules.now c.loop-from.from c.read_opposed-reading.result.end c.read_opposed-reading.result.passed c.read_opposed-reading.ensures) ∙ c.if-not-reading.false)

pub returns-then-not-reading : goal.returns-then-not-reading
returns-then-not-reading c = (
  c.loop-from-test.true,
  sym (told_opposed c.args.row.now c.args.assignment.now c.args.rules.now c.loop-from.from c.read_opposed-reading.result.end c.read_opposed-reading.result.passed c.read_opposed-reading.ensures) ∙ c.if-not-reading.true,
  c.loop-from.invariant,
)
