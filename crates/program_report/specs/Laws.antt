-- The equations by which proofs put a text into lent bytes.
use Rattle.std.specs.Prelude.{◌≡◌, List, [], ◌∷◌, ◌++◌, ℕ, ◌+◌, ◌≤◌, ◌<◌, length}
use Rattle.std.proofs.Common.{◌∙◌, arith, length-append, lt-ltb, le-ltb}
use Rattle.refusal.specs.Reply.{refusal}
use Rattle.decimal.specs.Decimal.{decimal}
use Rattle.writing.specs.Wrote.{Wrote, wrote_none, wrote_whole}
use Rattle.program_report.specs.Report.{refusal_line, fitted}

-- a text that does not fit, and one that does
pub unfitted : (text out : List ℕ) → length out < length text → out ≡ fitted text out
unfitted text out h = rw (lt-ltb (length out) (length text) h)

pub fitted_whole : {text out m : List ℕ} {i : ℕ} → Wrote text out 0 m i → length text ≤ length out → (i ≡ length text) × (m ≡ fitted text out)
fitted_whole {text} {out} a h = (omega (arith, a.place), wrote_whole a h ∙ rw (le-ltb (length out) (length text) h))

-- a text of no bytes
pub fitted_none : (out : List ℕ) → out ≡ fitted [] out
fitted_none out = (fitted_whole (wrote_none out 0) (omega arith)).1

-- the length of a refusal's line
pub line-length : (number place : ℕ) → length (refusal_line (refusal number place)) ≡ length (decimal number) + length (decimal place) + 2
line-length number place =
    omega (
      arith,
      length-append (decimal number) (32 ∷ (decimal place ++ 10 ∷ [])),
      length-append (decimal place) (10 ∷ []),
    )

-- what is said of a text holds of the same text under another name
pub renamed : (text other : List ℕ) (r : ℕ) (out result : List ℕ) → text ≡ other → r ≡ length text → result ≡ fitted text out
    → (r ≡ length other) × (result ≡ fitted other out)
renamed text other r out result e f g = rw (← e) (f, g)
