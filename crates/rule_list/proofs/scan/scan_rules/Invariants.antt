-- `rule_list::scan::scan_rules` meets its contract: each turn is one of the laws of `Scanning`.
use Rattle.rule_list.proofs.Scanning.{Scanning}
use Rattle.rule_list.proofs.scan.scan_rules.Given as goal

abbrev pub invariant-loop-place : goal.invariant-loop-place
invariant-loop-place l = Scanning l.n l.rules l.stamps l.clauses l.literals l.is_open l.place
