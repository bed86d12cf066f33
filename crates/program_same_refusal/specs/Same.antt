-- What a program prints and what it says on standard error, by what its two files are. Both speak of the same refusal.
use Rattle.std.specs.Prelude.{◌≡◌, Bool, List, [], ℕ, ℤ, None, Some}
use Rattle.refusal.specs.declared.Refusal.{Refusal}
use Rattle.program_report.specs.Report.{refusal_line}
use Rattle.program_files.specs.Problem.{silent, gives, problem}
use Rattle.program_check.specs.Check.{refused_for}
use Rattle.program_diagnostics.specs.Diagnostic.{Named, spot_of, spot_too_long, line_at, diagnostic}

-- Of two files of which one is too long, nothing is printed, and the line names the first byte too many. Of two that are refused, the refusal's line is printed, and the line on standard error is of that refusal. Of two others the text of the answer is printed, and nothing is said.
pub record Alike (asks_entries : Bool) (f : Named) (out : List ℕ) (text : ℕ → List ℤ → List ℕ → ℕ → List ℕ) : Type 0 where
  pub long : problem f.rules f.wishes ≡ silent → (out ≡ []) × (diagnostic asks_entries f ≡ line_at f (spot_too_long f.rules) 0)
  pub refused : (r : Refusal) → refused_for asks_entries (problem f.rules f.wishes) ≡ Some r
      → (out ≡ refusal_line r) × (diagnostic asks_entries f ≡ line_at f (spot_of r.number r.place f.rules) r.number)
  pub passed : (n : ℕ) (l : List ℤ) (row : List ℕ) (d : ℕ) → problem f.rules f.wishes ≡ gives n l row d → refused_for asks_entries (gives n l row d) ≡ None
      → (out ≡ text n l row d) × (diagnostic asks_entries f ≡ [])
