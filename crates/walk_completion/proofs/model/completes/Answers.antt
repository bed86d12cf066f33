use mathlib.Core.Path.{◌≡◌, sym, ap, ◌∙◌}
use mathlib.Core.Bool.{Bool, true, false, ◌&&◌}
use mathlib.Core.List.{List}
use Prim.Native.Nat.{ℕ, ◌+◌}
use native.Mathlib.Omega.{arith}
use lib.ListN.{drop}
use borrow.Author.Tests.{not-true, not-false}
use Rattle.formula.specs.Formula.{clauses, models}
use Rattle.formula.specs.Laws.{end_inside}
use Rattle.walk_clause_standing.specs.Clause.{tested_models}
use Rattle.walk.specs.Walk.{complete}
use Rattle.walk_completion.proofs.model.completes.Goals as goal
use Rattle.walk_completion.proofs.model.completes.Lts as lts
use Rattle.walk_completion.proofs.model.completes.Reads as reads
use Rattle.walk_completion.proofs.model.completes.Tie as tie

abbrev After-read_completed : Type 0
After-read_completed = lts.After-read_completed tie.the-claims reads.Pre reads.Post goal.the-invariant-loop-from goal.the-decreases-loop-from

abbrev At-loop : Type 0
At-loop = lts.At-loop tie.the-claims reads.Pre reads.Post goal.the-invariant-loop-from goal.the-decreases-loop-from

abbrev Start : Type 0
Start = lts.Start tie.the-claims reads.Pre reads.Post goal.the-invariant-loop-from goal.the-decreases-loop-from

-- Points of the program: the entry, and the loop's head before a clause is read.
abbrev entry : At-loop → Start
entry c = c.before.before.before

abbrev head : After-read_completed → At-loop
head c = c.before.before

-- the completion
abbrev filled : At-loop → List ℕ
filled c = complete (entry c).args.row.now (entry c).args.assignment.now

-- a clause that was read: what is left of the formula is that clause, which b tells, and the rest
step : (c : After-read_completed) (b : Bool) → c.read_completed-clause.result.passed ≡ b
    → models (filled (head c)) (clauses (entry (head c)).args.rules.now) ≡ b && models (filled (head c)) (clauses (drop (c.read_completed-clause.result.end + 1) (entry (head c)).args.rules.now))
step c b q =
    let top = head c in
    let l = (entry top).args.rules.now in
    let read = c.read_completed-clause in
    top.loop-from.invariant
    ∙ tested_models (filled top) l top.loop-from.from read.result.end read.result.passed read.ensures c.loop-from-test.true
    ∙ ap (λ (t : Bool). t && models (filled top) (clauses (drop (read.result.end + 1) l))) q

pub returns-then-not-clause : goal.returns-then-not-clause
returns-then-not-clause c = sym (step c.before.before.before false (not-true _ c.if-not-clause.true))

pub overflow_add-from : goal.overflow_add-from
overflow_add-from c =
    let read = c.before.before.before.before in
    let top = head read in
    omega (arith, end_inside (entry top).args.rules.now top.loop-from.from read.read_completed-clause.result.end (omega arith) read.read_completed-clause.ensures.ends)

pub loop-from-preserved : goal.loop-from-preserved
loop-from-preserved c = step c.before.before.before.before true (not-false _ c.if-not-clause.false)
