-- What the answer of the scan tells of the list.
use Rattle.std.specs.Prelude.{◌≡◌, refl, List, ℕ, ℤ, length, Option, None, Some, Ok, Err}
use Rattle.std.proofs.Common.{arith}
use Rattle.formula.specs.Formula.{clauses, literals}
use Rattle.rule_list.specs.Scans.{rule_scan}

pub rules_unsound : (o : Option ℕ) (list : List ℤ) (i : ℕ) → rule_scan o list ≡ Err (record { place = i }) → o ≡ Some i
rules_unsound None list i e = grind arith
rules_unsound (Some j) list i e = grind arith

pub rules_sound : (o : Option ℕ) (list : List ℤ) (k m : ℕ) → rule_scan o list ≡ Ok (record { clauses = k; literals = m })
    → (o ≡ None) × (k ≡ length (clauses list)) × (m ≡ literals (clauses list))
rules_sound None list k m e = (refl, grind arith, grind arith)
rules_sound (Some j) list k m e = (grind arith, grind arith, grind arith)
