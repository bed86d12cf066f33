-- What the admitting functions answer: the first cause to refuse what is lent, or how much it holds.
use Rattle.std.specs.Prelude.{◌≡◌, List, ℕ, ◌≤◌, ℤ, length, Option, None, Some, Result, Ok, Err}
use Rattle.formula.specs.Formula as formula
use Rattle.wish.specs.Wish.{wish_count, total_weight}
use Rattle.refusal.specs.declared.Refusal.{Refusal}
use Rattle.limits.specs.Limits.{max_variables}
use Rattle.refusal_causes.specs.Lent.{Lent, Wishes, unadmitted, refusal_of}
use Rattle.admission_steps.specs.declared.Counts.{Counts}

-- refused for a cause, or admitted with these counts
abbrev pub Admission : Type 0
Admission = Result Counts Refusal

abbrev pub answer : Option Refusal → Counts → Admission
answer None counts = Ok counts
answer (Some r) counts = Err r

-- a number of a row, where the call takes one
abbrev pub of_row : (List ℕ → ℕ) → Option Wishes → ℕ
of_row count None = 0
of_row count (Some wishes) = count wishes.row

-- how much was lent: "Entries counted below exclude closing zeros" (document 01, "Words of the trade")
abbrev pub counts_of : Lent → Counts
counts_of s =
    record {
      clauses = length (formula.clauses s.problem.rules);
      literals = formula.literals (formula.clauses s.problem.rules);
      wishes = of_row wish_count s.wishes;
      weight = of_row total_weight s.wishes;
    }

-- by all causes but that of the room, in their order (`causes`), and by all ("Last 15.")
abbrev pub admission : Lent → Admission
admission s = answer (unadmitted s) (counts_of s)

abbrev pub start : Lent → Admission
start s = answer (refusal_of s) (counts_of s)

-- one step after another: a refusal stays what it is, and what was admitted goes through the next step
abbrev pub and_then : Admission → (Counts → Admission) → Admission
and_then (Err r) step = Err r
and_then (Ok counts) step = step counts

-- the counts before anything is counted, once the rules are, and once a row's wishes are
abbrev pub no_counts : Counts
no_counts = record { clauses = 0; literals = 0; wishes = 0; weight = 0 }

abbrev pub with_rule_counts : List ℤ → Counts → Counts
with_rule_counts rules k =
    record { clauses = length (formula.clauses rules); literals = formula.literals (formula.clauses rules); wishes = k.wishes; weight = k.weight }

abbrev pub with_wish_counts : List ℕ → Counts → Counts
with_wish_counts row k =
    record { clauses = k.clauses; literals = k.literals; wishes = wish_count row; weight = total_weight row }

-- n was found to be in range: what is admitted has no more variables than a table has room for
abbrev pub Ranged : ℕ → Admission → Type 0
Ranged n a = (k : Counts) → a ≡ Ok k → n ≤ max_variables
