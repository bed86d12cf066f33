use Rattle.std.proofs.Common.{sym, ◌∙◌, arith, true, false}
use Rattle.formula.specs.Laws.{end_inside, models_step}
use Rattle.formula.proofs.is_model.Goals as goal

pub slice_bounds-satisfied_by-end : goal.slice_bounds-satisfied_by-end
slice_bounds-satisfied_by-end c = end_inside c.args.rules.now c.loop-from.from c.clause_end-end.result (omega arith) c.clause_end-end.ensures

pub returns-then-not-satisfied_by : goal.returns-then-not-satisfied_by
returns-then-not-satisfied_by c =
    sym
    (c.loop-from.invariant
    ∙ models_step c.args.assignment.now c.args.rules.now c.loop-from.from c.clause_end-end.result false c.loop-from-test.true c.clause_end-end.ensures c.if-not-satisfied_by.ensures)

pub loop-from-preserved : goal.loop-from-preserved
loop-from-preserved c =
    c.loop-from.invariant
    ∙ models_step c.args.assignment.now c.args.rules.now c.loop-from.from c.clause_end-end.result true c.loop-from-test.true c.clause_end-end.ensures c.if-not-satisfied_by.ensures
