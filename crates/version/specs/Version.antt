-- The library's version: it is in the header, in what `powhanire_version` answers and in what the programs print for `--version`.
use Rattle.std.specs.Prelude.{◌≡◌, refl, List, ◌++◌, ℕ, ◌+◌, ◌*◌}
use Rattle.decimal.specs.Decimal.{decimal, digits}
use Rattle.words.specs.Words.{ascii}

-- the first changes where a caller has to change, the second where something is new, the third else
abbrev pub major : ℕ
major = 1

abbrev pub minor : ℕ
minor = 0

abbrev pub patch : ℕ
patch = 1

-- as one number: `POWHANIRE_VERSION` of the header
abbrev pub version : ℕ
version = major * 10000 + (minor * 100 + patch)

-- as people write it: `POWHANIRE_VERSION_TEXT` of the header
abbrev pub version_text : List ℕ
version_text = ascii "1.0.1"

-- the text has the three numbers, with points between them
pub text_of_numbers : version_text ≡ decimal major ++ (ascii "." ++ (decimal minor ++ (ascii "." ++ decimal patch)))
unfolding decimal digits
text_of_numbers = refl
