use Rattle.writing.specs.Wrote.{remaining_next, remaining_room}
use Rattle.opb_rules.specs.Lines.{lines_split, clause_size}
use Rattle.opb_rules.proofs.put.put_rules.Goals as goal

pub slice_bounds-put_rule-end : goal.slice_bounds-put_rule-end
slice_bounds-put_rule-end c = (clause_size c.args.rules.now c.loop-from.from c.clause_end-end.result c.loop-from-test.true c.clause_end-end.ensures).2

pub put_rule-at-requires : goal.put_rule-at-requires
put_rule-at-requires c =
    remaining_room _ _ c.loop-from.invariant (lines_split c.args.rules.now c.loop-from.from c.clause_end-end.result c.loop-from-test.true c.clause_end-end.ensures) c.requires

pub loop-from-preserved : goal.loop-from-preserved
loop-from-preserved c =
    remaining_next _ c.loop-from.invariant (lines_split c.args.rules.now c.loop-from.from c.clause_end-end.result c.loop-from-test.true c.clause_end-end.ensures) c.put_rule-at.ensures
