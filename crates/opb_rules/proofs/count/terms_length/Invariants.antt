-- `opb_rules::count::terms_length` meets its contract. The loop's invariant: what was counted, and what is left to count.
use Rattle.std.proofs.Common.{◌≡◌, ◌+◌, ◌*◌, ◌≤◌, length, drop}
use Rattle.opb_rules.specs.Lines.{clause_terms}
use Rattle.opb_rules.proofs.count.terms_length.Given as goal

abbrev pub invariant-loop-x : goal.invariant-loop-x
invariant-loop-x l = (l.total ≤ 44 * l.x-index) × (length (clause_terms l.clause) ≡ l.total + length (clause_terms (drop l.x-index l.clause)))
