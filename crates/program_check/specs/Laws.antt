-- What admission and the reading of both files come to.
use Rattle.std.specs.Prelude.{◌≡◌, refl, Bool, List, ℕ, ℤ, Option, None, Some, Result}
use Rattle.std.proofs.Common.{sym, ap, ◌∙◌}
use Rattle.refusal.specs.declared.Refusal.{Refusal}
use Rattle.refusal_causes.specs.Lent.{Lent, unadmitted}
use Rattle.admission_steps.specs.declared.Counts.{Counts}
use Rattle.admission_steps.specs.Admission.{answer, admission, counts_of}
use Rattle.program_files.specs.Problem.{Problem}
use Rattle.program_files.specs.Read.{problem_of}
use Rattle.program_files.specs.declared.FileError.{FileError}
use Rattle.program_files.specs.declared.Sizes.{Sizes}
use Rattle.program_check.specs.Check.{verdict, of_admission, check_of}

answered : (o : Option Refusal) (counts : Counts) → of_admission (answer o counts) ≡ verdict o
answered None counts = refl
answered (Some r) counts = refl

pub admission-verdict : (s : Lent) → of_admission (admission s) ≡ verdict (unadmitted s)
admission-verdict s = answered (unadmitted s) (counts_of s)

-- what the reading answered tells of the files
pub read_as : (asks_entries : Bool) (reply other : Result Sizes FileError) (rules : List ℤ) (row : List ℕ) (p : Problem) → problem_of reply rules row ≡ p → reply ≡ other
    → check_of asks_entries (problem_of other rules row) ≡ check_of asks_entries p
read_as asks_entries reply other rules row p e f =
    ap (λ (q : Result Sizes FileError). check_of asks_entries (problem_of q rules row)) (sym f) ∙ ap (check_of asks_entries) e
