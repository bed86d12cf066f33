use mathlib.Core.Path.{sym, ap, ◌∙◌}
use Prim.Native.Nat.{◌-◌}
use native.Mathlib.Omega.{arith}
use borrow.Author.Rules.{rules}
use Rattle.formula.specs.Laws.{end_inside}
use Rattle.refusal.specs.Reply.{cause_at}
use Rattle.refusal_causes.specs.EmptyLaws.{here_empty, here_filled}
use Rattle.refusal_causes.proofs.entries.check_entries.Goals as goal

pub returns-then-end-from : goal.returns-then-end-from
returns-then-end-from c =
    let clause = c.before.before in
    let loop = clause.loop-from in
    let l = clause.args.rules.now in
    c.refuse.ensures
    ∙ sym (ap (cause_at 16) (loop.invariant ∙ here_empty l loop.from clause.clause_end-end.result clause.loop-from-test.true clause.clause_end-end.ensures c.if-end-from.true))

pub overflow_add-from : goal.overflow_add-from
overflow_add-from c =
    let clause = c.before in
    let l = clause.args.rules.now in
    omega (arith, end_inside l clause.loop-from.from clause.clause_end-end.result (omega arith) clause.clause_end-end.ensures)

pub loop-from-preserved : goal.loop-from-preserved
loop-from-preserved c =
    let clause = c.before in
    let loop = clause.loop-from in
    let l = clause.args.rules.now in
    loop.invariant ∙ here_filled l loop.from clause.clause_end-end.result clause.loop-from-test.true clause.clause_end-end.ensures c.if-end-from.false
