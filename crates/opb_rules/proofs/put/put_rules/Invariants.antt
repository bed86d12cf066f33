-- `opb_rules::put::put_rules` meets its contract. The loop's invariant: the lines of the clauses from an index on are still to be put.
use Prim.Native.Nat.{◌-◌}
use lib.ListN.{length, drop}
use Rattle.writing.specs.Wrote.{Remaining}
use Rattle.opb_rules.specs.Lines.{rule_lines}
use Rattle.opb_rules.proofs.put.put_rules.Given as goal

abbrev pub invariant-loop-from : goal.invariant-loop-from
invariant-loop-from l = Remaining (rule_lines l.rules) l.initial.out l.first (rule_lines (drop l.from l.rules)) l.out l.at

abbrev pub decreases-loop-from : goal.decreases-loop-from
decreases-loop-from l = length l.rules - l.from
