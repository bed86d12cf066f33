-- `opb_rules::put::put_terms` meets its contract. The loop's invariant: the terms from an index on are still to be put.
use Rattle.std.proofs.Common.{drop}
use Rattle.writing.specs.Wrote.{Remaining}
use Rattle.opb_rules.specs.Lines.{clause_terms}
use Rattle.opb_rules.proofs.put.put_terms.Given as goal

abbrev pub invariant-loop-x : goal.invariant-loop-x
invariant-loop-x l = Remaining (clause_terms l.clause) l.initial.out l.from (clause_terms (drop l.x-index l.clause)) l.out l.at
