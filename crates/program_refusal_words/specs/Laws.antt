-- How long the sentences are.
use Rattle.std.specs.Prelude.{Bool, true, false, cond, List, ℕ, ◌≤◌, eqb, leb, length}
use Rattle.std.proofs.Common.{arith}
use Rattle.program_refusal_words.specs.Reasons.{rule_reason, wish_reason, reason, longest}

either : (b : Bool) (x y : List ℕ) → length x ≤ longest → length y ≤ longest → length (cond b x y) ≤ longest
either true x y h k = h
either false x y h k = k

rule_most : (number : ℕ) (at_end : Bool) → length (rule_reason number at_end) ≤ longest
rule_most number at_end =
    (either (eqb number 0) _ _ (omega arith)
    (either (eqb number 1) _ _ (omega arith)
    (either (eqb number 2) _ _ (omega arith)
    (either (eqb number 3) _ _ (omega arith)
    (either (eqb number 4) _ _ (omega arith)
    (either (eqb number 6) _ _ (either at_end _ _ (omega arith) (omega arith))
    (either (eqb number 7) _ _ (omega arith)
    (omega arith))))))))

wish_most : (number : ℕ) → length (wish_reason number) ≤ longest
wish_most number =
    (either (eqb number 8) _ _ (omega arith)
    (either (eqb number 9) _ _ (omega arith)
    (either (eqb number 10) _ _ (omega arith)
    (either (eqb number 11) _ _ (omega arith)
    (either (eqb number 12) _ _ (omega arith)
    (either (eqb number 16) _ _ (omega arith)
    (omega arith)))))))

pub reason-most : (number : ℕ) (at_end : Bool) → length (reason number at_end) ≤ longest
reason-most number at_end = either (leb number 7) _ _ (rule_most number at_end) (wish_most number)
