-- "It too is written, and one meaning has one file." (document 01, "The wish file")
use Rattle.std.specs.Prelude.{◌≡◌, false, List, [], ◌∷◌, ℕ, ◌≤◌, length, take, drop, None}
use Rattle.wish.specs.Wish.{wish_count}
use Rattle.limits.specs.Limits.{max_wish_variables, max_limit}
use Rattle.refusal_causes.specs.Sound.{bad_wish}
use Rattle.wish_file.specs.Format.{header_columns, written, outside, bad_lines, wishes_in, reading}
use Rattle.wish_file.specs.Layout.{line, line_size}
use Rattle.wish_file.specs.Wishes.{row_of}

-- what is known of a file that reading accepts
pub record Accepted (file : List ℕ) (n m d : ℕ) (row : List ℕ) : Type 0 where
  pub least : 1 ≤ n
  pub most : n ≤ max_wish_variables
  pub size : length row ≡ n
  pub sound : bad_wish 0 0 row ≡ None
  pub count : m ≡ wish_count row
  pub limit : d ≤ max_limit
  pub same : file ≡ written n row d

-- what a file that reading accepts begins with, and what its lines are
pub record Parts (file : List ℕ) (n m d : ℕ) (row : List ℕ) : Type 0 where
  pub head : line (n ∷ m ∷ d ∷ []) ≡ take (line_size header_columns) file
  pub range : outside n m d ≡ false
  pub good : bad_lines n m 0 (line_size header_columns) (drop (line_size header_columns) file) ≡ None
  pub gave : row ≡ row_of n (wishes_in m (drop (line_size header_columns) file))
