-- What the program opb prints: as the rewriting program does (document 01, "Examples"), with the OPB file (document 02, L2) in place of the rewritten one.
use Rattle.std.specs.Prelude.{List, ℕ, ℤ, length, Option}
use Rattle.refusal.specs.declared.Refusal.{Refusal}
use Rattle.refusal_causes.specs.Lent.{refusal_of}
use Rattle.opb_format.specs.Opb.{opb_of}
use Rattle.opb_writer.specs.Write.{lent_to_write}
use Rattle.program_files.specs.Problem.{unless_refused, problem, printed_for}

-- the refusal of the export that is lent room for its file, so that it is never 15
abbrev pub export_refused : ℕ → List ℤ → List ℕ → ℕ → Option Refusal
export_refused n rules row d = refusal_of (lent_to_write n rules row d (length (opb_of n rules row d)))

-- the OPB file, or the line of the refusal
abbrev pub opb_text : ℕ → List ℤ → List ℕ → ℕ → List ℕ
opb_text n rules row d = unless_refused (export_refused n rules row d) (opb_of n rules row d)

-- all that is printed for a rule file and a wish file
abbrev pub opb_printed : List ℕ → List ℕ → List ℕ
opb_printed rules wishes = printed_for opb_text (problem rules wishes)
