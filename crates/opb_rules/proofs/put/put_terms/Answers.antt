use Rattle.std.proofs.Common.{ℤ, pos, ◌+◌, get_or, drop, ap}
use Rattle.literal.specs.Laws.{as_read}
use Rattle.writing.specs.Wrote.{wrote_as, remaining_next}
use Rattle.opb_pseudo_boolean.specs.Export.{term}
use Rattle.opb_format.specs.Opb.{term_text}
use Rattle.opb_rules.specs.Lines.{clause_terms, terms_split}
use Rattle.opb_rules.proofs.put.put_terms.Goals as goal

pub loop-x-preserved : goal.loop-x-preserved
loop-x-preserved c =
    let i = c.loop-x.x-index in
    let same = as_read (get_or c.args.clause.now i (pos 0)) c.put_term-arg-1.given in
    remaining_next (clause_terms (drop (i + 1) c.args.clause.now)) c.loop-x.invariant (terms_split c.args.clause.now i c.loop-x-test.true)
    (wrote_as (ap (λ (z : ℤ). term_text (term 1 z)) same) c.put_term-at.ensures)
