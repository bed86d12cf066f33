-- `opb_rules::count::rules_length` meets its contract. The loop's invariant: what was counted, and what is left to count.
use mathlib.Core.Path.{◌≡◌}
use Prim.Native.Nat.{◌+◌, ◌-◌, ◌*◌, ◌≤◌}
use lib.ListN.{length, drop}
use Rattle.opb_rules.specs.Lines.{rule_lines}
use Rattle.opb_rules.proofs.count.rules_length.Given as goal

abbrev pub invariant-loop-from : goal.invariant-loop-from
invariant-loop-from l = (l.from ≤ length l.rules + 1) × (l.total ≤ 44 * l.from) × (length (rule_lines l.rules) ≡ l.total + length (rule_lines (drop l.from l.rules)))

abbrev pub decreases-loop-from : goal.decreases-loop-from
decreases-loop-from l = length l.rules - l.from
