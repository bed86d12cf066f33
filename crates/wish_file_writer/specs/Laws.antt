-- The file in its two parts.
use Rattle.std.specs.Prelude.{◌≡◌, List, [], ◌∷◌, ◌++◌, ℕ, ◌+◌, ◌<◌, length}
use Rattle.std.proofs.Common.{sym, ap, ◌∙◌, arith, length-append}
use Rattle.refusal_causes.specs.Admitted.{Admitted}
use Rattle.refusal_causes.specs.Lent.{wishes_alone}
use Rattle.wish.specs.Wish.{wish_count}
use Rattle.wish.specs.RowLaws.{count_most}
use Rattle.wish_file.specs.Format.{written, file_size, wish_lines}
use Rattle.wish_file.specs.Layout.{line}
use Rattle.wish_file.proofs.LayoutLaws.{line-length}
use Rattle.wish_file.proofs.RoundTrip.{written-length}
use Rattle.wish_file.specs.Wishes.{wish_list}

-- the file in its two parts
module _ (n : ℕ) (row : List ℕ) (d : ℕ) (a : Admitted (wishes_alone n row d)) (m : ℕ) (count : m ≡ wish_count row) where
  abbrev head : List ℕ
  head = line (n ∷ m ∷ d ∷ [])

  abbrev tail : List ℕ
  tail = wish_lines (wish_list 1 row)

  pub numbers_fit : (n < 100000) × (m < 100000) × (d < 100000)
  numbers_fit = (omega (arith, a.most), omega (arith, count_most row, a.long_row, a.most), omega (arith, a.limited))

  pub parts : head ++ tail ≡ written n row d
  parts = ap (λ (k : ℕ). line (n ∷ k ∷ d ∷ []) ++ tail) count

  pub head_length : length head ≡ 16
  head_length = line-length (n ∷ m ∷ d ∷ []) (numbers_fit.0, (numbers_fit.1, (numbers_fit.2, tt)))

  pub whole_length : 16 + length tail ≡ length (written n row d)
  whole_length = omega (arith, ap length parts, length-append head tail, head_length)

  -- the number of wishes tells the file's length
  pub file_length : file_size m ≡ length (written n row d)
  file_length = ap file_size count ∙ sym (written-length n row d a.small.variables a.long_row a.limited)
