-- What a program refuses two files for (document 01, "Examples": "On a refusal it prints the number, a space, the place and a line feed instead").
use Rattle.std.specs.Prelude.{Bool, cond, List, ℕ, ℤ, ⊤, Option, None, Some, Result, Ok, Err}
use Rattle.refusal.specs.declared.Refusal.{Refusal}
use Rattle.refusal_causes.specs.Lent.{Lent, wished_problem, exported_problem, unadmitted}
use Rattle.admission_steps.specs.Admission.{Admission}
use Rattle.program_files.specs.Problem.{Problem, silent, refuses, gives}
use Rattle.program_files.specs.declared.FileError.{FileError}
use Rattle.program_files.specs.declared.FileError.TheVariants.{TooLong, Refused}

-- what the call is lent of two good files; the export asks an entry in every rule too (document 02, L2)
abbrev pub lent_of : Bool → ℕ → List ℤ → List ℕ → ℕ → Lent
lent_of asks_entries n rules row d = cond asks_entries (exported_problem n rules row d) (wished_problem n rules row d)

-- the refusal, if any: of a file, or of the call, which has room for its output
abbrev pub refused_for : Bool → Problem → Option Refusal
refused_for asks_entries silent = None
refused_for asks_entries (refuses r) = Some r
refused_for asks_entries (gives n rules row d) = unadmitted (lent_of asks_entries n rules row d)

-- refused, or passed
abbrev pub verdict : Option Refusal → Result ⊤ FileError
verdict None = Ok tt
verdict (Some r) = Err (Refused r)

-- the same with "If either file is longer than 65,536 bytes it prints nothing."
abbrev pub check_of : Bool → Problem → Result ⊤ FileError
check_of asks_entries silent = Err TooLong
check_of asks_entries (refuses r) = Err (Refused r)
check_of asks_entries (gives n rules row d) = verdict (unadmitted (lent_of asks_entries n rules row d))

-- what an admission comes to
abbrev pub of_admission : Admission → Result ⊤ FileError
of_admission (Err r) = Err (Refused r)
of_admission (Ok counts) = Ok tt
