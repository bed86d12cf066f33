-- `distance::disagreement_of` meets its contract. The loop's invariant: what was counted, and what is left to count.
use Rattle.std.proofs.Common.{◌≡◌, ◌+◌}
use Rattle.distance.specs.Distance.{disagreement}
use Rattle.distance.proofs.disagreement_of.Given as goal

abbrev pub invariant-loop-wish : goal.invariant-loop-wish
invariant-loop-wish l = disagreement l.row l.assignment ≡ l.broken + disagreement l.wish-iterator.a.rest.now l.wish-iterator.b.rest.now
