-- What the scan of a rule list answers: the first bad index, or what a sound list holds.
use Rattle.std.specs.Prelude.{List, ℕ, ℤ, length, Option, None, Some, Result, Ok, Err}
use Rattle.formula.specs.Formula.{clauses, literals}
use Rattle.refusal.specs.declared.Unsound.{Unsound}
use Rattle.rule_list.specs.declared.scan.ListSize.{ListSize}

abbrev pub rule_scan : Option ℕ → List ℤ → Result ListSize Unsound
rule_scan None list = Ok (record { clauses = length (clauses list); literals = literals (clauses list) })
rule_scan (Some i) list = Err (record { place = i })
