use Rattle.std.proofs.Common.{arith, ap₂, inl, inr}
use Rattle.distance.specs.Distance.{disagreement}
use Rattle.distance.specs.Laws.{disagreement-most, disagreement_no_row, disagreement_no_values}
use Rattle.distance.proofs.disagreement_of.Goals as goal

pub overflow_add-broken : goal.overflow_add-broken
overflow_add-broken c =
    let next = c.in-Some.ensures.steps in
    omega (arith, disagreement-most c.args.row.now c.args.assignment.now, ap₂ disagreement next.0 next.1)

pub returns : goal.returns
returns c =
    let row = c.loop-wish.wish-iterator.a.rest.now in
    let values = c.loop-wish.wish-iterator.b.rest.now in
    elim c.in-None.ensures.steps [
      | inl e ↦ omega (arith, disagreement_no_row row values e.1.0)
      | inr e ↦ omega (arith, disagreement_no_values row values e.1.0)
    ]
