-- What each answer of the reading of both files tells of the text that is printed for them.
use Rattle.std.specs.Prelude.{◌≡◌, refl, List, [], ℕ, ◌≤◌, ℤ, length, take, Result, Ok, Err}
use Rattle.std.proofs.Common.{sym, ap, subst, ◌∙◌, arith, length-take}
use Rattle.refusal.specs.declared.Refusal.{Refusal}
use Rattle.program_report.specs.Laws.{renamed, fitted_none}
use Rattle.program_report.specs.Report.{refusal_line, fitted}
use Rattle.program_files.specs.Problem.{printed_for, problem}
use Rattle.program_files.specs.Read.{problem_of, Sized}
use Rattle.program_files.specs.declared.FileError.{FileError}
use Rattle.program_files.specs.declared.FileError.TheVariants.{TooLong, Refused}
use Rattle.program_files.specs.declared.Sizes.{Sizes}

module _ (answer : ℕ → List ℤ → List ℕ → ℕ → List ℕ) (rules-file wish-file : List ℕ) (rules : List ℤ) (row : List ℕ) (reply : Result Sizes FileError) (e : problem_of reply rules row ≡ problem rules-file wish-file) where
  abbrev text : List ℕ
  text = printed_for answer (problem rules-file wish-file)

  -- the text's length was given, and it was put where it fits
  abbrev Said : ℕ → List ℕ → List ℕ → Type 0
  Said r out result = (r ≡ length text) × (result ≡ fitted text out)

  same : (other : Result Sizes FileError) → reply ≡ other → printed_for answer (problem_of other rules row) ≡ text
  same other f = ap (λ (q : Result Sizes FileError). printed_for answer (problem_of q rules row)) (sym f) ∙ ap (printed_for answer) e

  pub said_long : reply ≡ Err TooLong → (out : List ℕ) → Said 0 out out
  said_long f out = renamed [] text 0 out out (same (Err TooLong) f) refl (fitted_none out)

  pub said_refused : (q : Refusal) → reply ≡ Err (Refused q) → (r : ℕ) (out result : List ℕ) → r ≡ length (refusal_line q) → result ≡ fitted (refusal_line q) out → Said r out result
  said_refused q f r out result g h = renamed (refusal_line q) text r out result (same (Err (Refused q)) f) g h

  pub said_read : (s : Sizes) → reply ≡ Ok s → (r : ℕ) (out result : List ℕ) → r ≡ length (answer s.variables (take s.length rules) (take s.wished row) s.limit)
      → result ≡ fitted (answer s.variables (take s.length rules) (take s.wished row) s.limit) out → Said r out result
  said_read s f r out result g h =
      renamed (answer s.variables (take s.length rules) (take s.wished row) s.limit) text r out result (same (Ok s) f) g h

-- the list and the row that were read can be lent
pub told_sizes : (rules : List ℤ) (row : List ℕ) (reply : Result Sizes FileError) → Sized reply (length rules) (length row) → (s : Sizes) → reply ≡ Ok s
    → (s.length ≤ length rules) × (s.wished ≤ length row)
told_sizes rules row reply h s f = subst (λ (q : Result Sizes FileError). Sized q (length rules) (length row)) f h

-- the front of a list has the length that it is cut to
pub cut {ℓ} : {A : Type ℓ} (k : ℕ) (l : List A) → k ≤ length l → k ≡ length (take k l)
cut k l h = omega (arith, length-take k l)
