-- What the scan of a file answers: what is found before anything is written.
use Rattle.std.specs.Prelude.{◌≡◌, List, [], ℕ, Result, Ok, Err}
use Rattle.std.proofs.Common.{ap}
use Rattle.refusal.specs.declared.Refusal.{Refusal}
use Rattle.wish_file.specs.declared.WishHeader.{WishHeader}
use Rattle.wish_file.specs.Format.{Reading, refuses, gives, reading}

abbrev record_of : ℕ → ℕ → ℕ → WishHeader
record_of n m d = record { variables = n; wishes = m; limit = d }

-- the first cause of the file, or the numbers of line one
abbrev pub file_scan : Reading → Result WishHeader Refusal
file_scan (refuses r) = Err r
file_scan (gives n m d row) = Ok (record { variables = n; wishes = m; limit = d })

-- what an answer of the scan tells of the file
pub scan-refused : (file : List ℕ) (q : Result WishHeader Refusal) (r : Refusal) → q ≡ file_scan (reading file) → q ≡ Err r → reading file ≡ refuses r
scan-refused file q r e f = go (reading file) e
  where
    go : (o : Reading) → q ≡ file_scan o → o ≡ refuses r
    go (refuses s) g = cc
    go (gives n m d row) g = cc

pub scan_sound : (file : List ℕ) (q : Result WishHeader Refusal) (h : WishHeader) → q ≡ file_scan (reading file) → q ≡ Ok h
    → (row : List ℕ) × (reading file ≡ gives h.variables h.wishes h.limit row)
scan_sound file q h e f = go (reading file) e
  where
    go : (o : Reading) → q ≡ file_scan o → (row : List ℕ) × (o ≡ gives h.variables h.wishes h.limit row)
    go (refuses s) g = ([], (cc))
    go (gives x y z row) g =
        let header : record_of x y z ≡ h = cc in
        (row, ap (λ (k : WishHeader). gives k.variables k.wishes k.limit row) header)
