use Rattle.std.proofs.Common.{arith}
use Rattle.opb_rules.specs.Lines.{lines_step, clause_size}
use Rattle.opb_rules.proofs.count.rules_length.Goals as goal

pub slice_bounds-rule_length-end : goal.slice_bounds-rule_length-end
slice_bounds-rule_length-end c = (clause_size c.args.rules.now c.loop-from.from c.clause_end-end.result c.loop-from-test.true c.clause_end-end.ensures).2

pub loop-from-preserved : goal.loop-from-preserved
loop-from-preserved c =
    let l = c.args.rules.now in
    let i = c.loop-from.from in
    let e = c.clause_end-end.result in
    let inside = clause_size l i e c.loop-from-test.true c.clause_end-end.ensures in
    let step = lines_step l i e c.loop-from-test.true c.clause_end-end.ensures in
    omega (arith, inside, step, c.rule_length-total.ensures)
