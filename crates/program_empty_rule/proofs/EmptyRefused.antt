-- When a rule without entries is refused.
use Rattle.std.specs.Prelude.{◌≡◌, ◌↔◌, List, ℕ, ◌<◌, ℤ, length, None}
use Rattle.formula.specs.Formula.{clauses}
use Rattle.refusal_causes.specs.Empty.{empty_clause}
use Rattle.rule_file.specs.Accepted.{Parts}
use Rattle.rule_file.proofs.Accepted.{accepted_parts}
use Rattle.rule_file.specs.Format.{gives, reading}
use Rattle.program_empty_rule.specs.Empty.{empty_rule}
use Rattle.program_empty_rule.proofs.Placed.{placed, inside}

-- "16, a rule without entries" applies to what was read exactly where the file has a place for it.
pub empty_refused : (file : List ℕ) (n c : ℕ) (l : List ℤ) → reading file ≡ gives n c l → (empty_rule file < length file) ↔ (empty_clause 0 (clauses l) ≡ None → ⊥)
empty_refused file n c l e =
    let p : Parts file n c l = accepted_parts file n c l e in
    inside file n c l p (empty_rule file) (empty_clause 0 (clauses l)) (placed file n c l p)
