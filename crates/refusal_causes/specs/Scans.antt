-- What the scan of a wish row answers: the first bad index, or how many wishes a sound row has and what they weigh; and what the answer tells of the row.
use Rattle.std.specs.Prelude.{◌≡◌, refl, List, ℕ, Option, None, Some, Result, Ok, Err}
use Rattle.std.proofs.Common.{arith}
use Rattle.wish.specs.Wish.{wish_count, total_weight}
use Rattle.refusal.specs.declared.Unsound.{Unsound}
use Rattle.refusal_causes.specs.declared.row.RowSize.{RowSize}

abbrev pub row_scan : Option ℕ → List ℕ → Result RowSize Unsound
row_scan None row = Ok (record { wishes = wish_count row; weight = total_weight row })
row_scan (Some i) row = Err (record { place = i })

pub row_unsound : (o : Option ℕ) (row : List ℕ) (i : ℕ) → row_scan o row ≡ Err (record { place = i }) → o ≡ Some i
row_unsound None row i e = grind arith
row_unsound (Some j) row i e = grind arith

pub row_sound : (o : Option ℕ) (row : List ℕ) (k m : ℕ) → row_scan o row ≡ Ok (record { wishes = k; weight = m }) → (o ≡ None) × (k ≡ wish_count row) × (m ≡ total_weight row)
row_sound None row k m e = (refl, grind arith, grind arith)
row_sound (Some j) row k m e = (grind arith, grind arith, grind arith)
