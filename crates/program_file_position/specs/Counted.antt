-- What a line and a column count: a line 1 and the line feeds before the place, a column 1 and the bytes behind the last of those.
use Rattle.std.specs.Prelude.{◌≡◌, refl, Bool, true, false, cond, List, [], ◌∷◌, ◌++◌, ℕ, zero, suc, ◌+◌, eqb, length, take}
use Rattle.std.proofs.Common.{ap, ◌∙◌, arith, eq-eqb}
use Rattle.program_file_position.specs.Position.{position, position_from, position_at}

-- how many line feeds there are
abbrev pub feeds : List ℕ → ℕ
feeds [] = 0
feeds (b ∷ s) = cond (eqb b 10) (suc (feeds s)) (feeds s)

line-from : (line column k : ℕ) (s : List ℕ) → (position_from line column k s).line ≡ line + feeds (take k s)
line-from line column zero s = omega arith
line-from line column (suc k) [] = omega arith
line-from line column (suc k) (b ∷ s) = go (eqb b 10) (line-from (suc line) 1 k s) (line-from line (suc column) k s)
  where
    go : (t : Bool) → (position_from (suc line) 1 k s).line ≡ suc line + feeds (take k s) → (position_from line (suc column) k s).line ≡ line + feeds (take k s)
        → (cond t (position_from (suc line) 1 k s) (position_from line (suc column) k s)).line ≡ line + cond t (suc (feeds (take k s))) (feeds (take k s))
    go true e f = omega arith
    go false e f = f

pub line_counts : (file : List ℕ) (place : ℕ) → (position_at file place).line ≡ suc (feeds (take place file))
line_counts file place = omega (arith, line-from 1 1 place file)

-- in a line without a line feed so far, and behind one
column-from : (line column k : ℕ) (s : List ℕ) → feeds (take k s) ≡ 0 → (position_from line column k s).column ≡ column + length (take k s)
column-from line column zero s e = omega arith
column-from line column (suc k) [] e = omega arith
column-from line column (suc k) (b ∷ s) e = go (eqb b 10) e (column-from line (suc column) k s)
  where
    go : (t : Bool) → cond t (suc (feeds (take k s))) (feeds (take k s)) ≡ 0 → (feeds (take k s) ≡ 0 → (position_from line (suc column) k s).column ≡ suc column + length (take k s))
        → (cond t (position_from (suc line) 1 k s) (position_from line (suc column) k s)).column ≡ column + suc (length (take k s))
    go true e ih = absurd (omega arith)
    go false e ih = omega (arith, ih e)

column-behind : (line column k : ℕ) (s before last : List ℕ) → take k s ≡ before ++ 10 ∷ last → feeds last ≡ 0 → (position_from line column k s).column ≡ suc (length last)
column-behind line column zero s [] last e f = cc
column-behind line column zero s (x ∷ before) last e f = cc
column-behind line column (suc k) [] [] last e f = cc
column-behind line column (suc k) [] (x ∷ before) last e f = cc
column-behind line column (suc k) (b ∷ s) [] last e f =
    let feed : b ≡ 10 = cc in
    let rest : take k s ≡ last = cc in
    rw (eq-eqb b 10 feed) (omega (arith, column-from (suc line) 1 k s (ap feeds rest ∙ f), ap length rest))
column-behind line column (suc k) (b ∷ s) (x ∷ before) last e f =
    let rest : take k s ≡ before ++ 10 ∷ last = cc in
    go (eqb b 10) (column-behind (suc line) 1 k s before last rest f) (column-behind line (suc column) k s before last rest f)
  where
    go : (t : Bool) → (position_from (suc line) 1 k s).column ≡ suc (length last) → (position_from line (suc column) k s).column ≡ suc (length last)
        → (cond t (position_from (suc line) 1 k s) (position_from line (suc column) k s)).column ≡ suc (length last)
    go true g h = g
    go false g h = h

pub column_counts : (file : List ℕ) (place : ℕ) (before last : List ℕ) → take place file ≡ before ++ 10 ∷ last → feeds last ≡ 0 → (position_at file place).column ≡ suc (length last)
column_counts file place before last e f = column-behind 1 1 place file before last e f

pub first_line_counts : (file : List ℕ) (place : ℕ) → feeds (take place file) ≡ 0 → (position_at file place).column ≡ suc (length (take place file))
first_line_counts file place e = omega (arith, column-from 1 1 place file e)

-- a carriage return ends no line: the line feed behind it stands in column 2 of the first, and the `1` behind both in column 1 of the second
carriage_return : (position_at (13 ∷ 10 ∷ 49 ∷ []) 1 ≡ position 1 2) × (position_at (13 ∷ 10 ∷ 49 ∷ []) 2 ≡ position 2 1)
carriage_return = (refl, refl)
