-- `opb_rules::count::negatives_of` meets its contract. The loop's invariant: what was counted, and what is left to count.
use Rattle.std.proofs.Common.{◌≡◌, ◌+◌, ◌≤◌, drop}
use Rattle.opb_pseudo_boolean.specs.Export.{negatives}
use Rattle.opb_rules.proofs.count.negatives_of.Given as goal

abbrev pub invariant-loop-x : goal.invariant-loop-x
invariant-loop-x l = (l.count ≤ l.x-index) × (negatives l.clause ≡ l.count + negatives (drop l.x-index l.clause))
