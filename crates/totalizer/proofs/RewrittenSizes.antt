-- How large a rewritten list is.
use Rattle.std.specs.Prelude.{◌≡◌, List, ℕ, ◌≤◌, ℤ, length, None}
use Rattle.std.proofs.Common.{ap, arith, length-append}
use Rattle.formula.specs.Formula.{clauses, literals}
use Rattle.limits.specs.Limits.{max_clauses, max_literals, max_wish_clauses, max_wish_literals}
use Rattle.rule_list.specs.Sound.{SoundList}
use Rattle.refusal_causes.specs.Sound.{bad_wish}
use Rattle.refusal_causes.specs.Laws.{sound_weight}
use Rattle.rule_list_soundness.specs.Laws.{literals-append}
use Rattle.totalizer.specs.Totalizer.{leaves, at_most, rewritten}
use Rattle.totalizer.proofs.Rows.{leaves-length}
use Rattle.totalizer.proofs.Sizes.{at_most_most}
use Rattle.totalizer.proofs.Rewritten.{rewritten-clauses}

pub rewritten_sizes : (n : ℕ) (list : List ℤ) (row : List ℕ) (d : ℕ) → SoundList n list → length row ≡ n → bad_wish 0 0 row ≡ None
    → length (clauses list) ≤ max_wish_clauses → literals (clauses list) ≤ max_wish_literals
    → (length (clauses (rewritten n list row d)) ≤ max_clauses) × (literals (clauses (rewritten n list row d)) ≤ max_literals)
rewritten_sizes n list row d ok long w few small =
    let m : length (leaves row) ≤ 64 = omega (arith, leaves-length row, sound_weight row w) in
    let (f, s) = at_most_most n (leaves row) d m in (
      omega (arith, ap length (rewritten-clauses n list row d ok long), length-append (clauses list) (at_most n (leaves row) d), f),
      omega (arith, ap literals (rewritten-clauses n list row d ok long), literals-append (clauses list) (at_most n (leaves row) d), s),
    )
