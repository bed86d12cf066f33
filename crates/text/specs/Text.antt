-- How numbers stand in text, in ASCII bytes (document 01, "The rule file" and "The wish file").
use Rattle.std.specs.Prelude.{List, ◌∷◌, ◌++◌, ℕ, suc, ◌-◌, ℤ, pos, negsuc, length, replicate}
use Rattle.decimal.specs.Decimal.{decimal}

-- a signed number: "a number, or a minus and a number other than 0" ("The rule file")
abbrev pub numeral : ℤ → List ℕ
numeral (pos v) = decimal v
numeral (negsuc k) = 45 ∷ decimal (suc k)

-- a number "right-justified" in a column of a width, "spaces before, no leading zeros" ("The wish file"); one with more digits than the width overruns it
abbrev pub column : ℕ → ℕ → List ℕ
column width v = replicate (width - length (decimal v)) 32 ++ decimal v
