-- `walk_completion::completed_value` meets its contract.
use mathlib.Core.Path.{sym, ap, ◌∙◌}
use Prim.Native.Nat.{ℕ, ◌-◌}
use native.Mathlib.Omega.{arith}
use lib.ListN.{get_or}
use Rattle.walk.specs.Walk.{complete_byte}
use Rattle.walk_completion.specs.Laws.{completed_at, completed_past}
use Rattle.walk_completion.proofs.byte.completed_value.Goals as goal

pub returns-then-at-assignment : goal.returns-then-at-assignment
returns-then-at-assignment c =
    let row = c.args.row.now in
    let a = c.args.assignment.now in
    let v = c.args.v.0 in
    c.complete_byte.ensures
    ∙ ap (λ (w : ℕ). complete_byte w (get_or a (v - 1) 0)) c.value_of.ensures
    ∙ sym (completed_at row a v (omega arith) c.if-at-assignment.true)

pub returns-else-at-assignment : goal.returns-else-at-assignment
returns-else-at-assignment c =
    sym (completed_past c.args.row.now c.args.assignment.now c.args.v.0 (omega arith) c.if-at-assignment.false)
