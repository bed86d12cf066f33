-- What a program writes on standard error where it refuses its two files: one line with the file's name, the line and the column, what is wrong and what would be right. Standard output has what document 01 says ("Examples"), the number and the place.
use Rattle.std.specs.Prelude.{Bool, false, cond, List, [], ◌++◌, ℕ, ◌+◌, ⊤, Result, Ok, Err, eqb, leb, length}
use Rattle.decimal.specs.Decimal.{decimal}
use Rattle.words.specs.Words.{ascii}
use Rattle.rule_file.specs.Format.{past_comments}
use Rattle.program_file_position.specs.Position.{position_at}
use Rattle.program_empty_rule.specs.Empty.{empty_rule}
use Rattle.program_refusal_words.specs.Reasons.{reason, longest}
use Rattle.program_files.specs.Problem.{max_file, problem}
use Rattle.program_files.specs.declared.FileError.{FileError}
use Rattle.program_files.specs.declared.FileError.TheVariants.{TooLong, Refused}
use Rattle.program_check.specs.Check.{check_of}
use Rattle.program_diagnostics.specs.declared.spot.Spot.{Spot}
use Rattle.program_diagnostics.specs.declared.spot.Spot.TheVariants.{Rules, Wishes}

-- `NAME:LINE:COLUMN: `
abbrev pub place_text : List ℕ → ℕ → ℕ → List ℕ
place_text name line column = name ++ (ascii ":" ++ (decimal line ++ (ascii ":" ++ (decimal column ++ ascii ": "))))

-- the line for a place of a file, with the sentence of a number
abbrev pub line_for : List ℕ → List ℕ → ℕ → ℕ → List ℕ
line_for name file place number =
    place_text name (position_at file place).line (position_at file place).column
    ++ (reason number (leb (length file) place) ++ ascii "\n")

-- a place in the rule file, and in the wish file
abbrev pub in_rules : ℕ → Spot
in_rules place = Rules place

abbrev pub in_wishes : ℕ → Spot
in_wishes place = Wishes place

-- Where a refusal is told, the rule file being given. 1 to 7 are causes of a rule file, 8 to 10 of a wish file, with places in them. 11 is at the beginning of the wish file, whose n is not the other's N; 12 at the header of the rule file; and 16 at the closing zero of the first rule without entries. The numbers from 13 to 15 are no program's.
abbrev pub spot_of : ℕ → ℕ → List ℕ → Spot
spot_of number place rules =
    cond (leb number 7)
    (in_rules place)
    (cond (leb number 11) (in_wishes place) (cond (eqb number 12) (in_rules (past_comments false 0 rules)) (in_rules (empty_rule rules))))

-- the first byte too many, in the rule file unless that is short enough
abbrev pub spot_too_long : List ℕ → Spot
spot_too_long rules = cond (leb (length rules) max_file) (in_wishes max_file) (in_rules max_file)

-- both files, each with its name
pub record Named : Type 0 where
  pub rules_name : List ℕ
  pub wish_name : List ℕ
  pub rules : List ℕ
  pub wishes : List ℕ

-- which of the two a spot is in
abbrev pub file_at : Spot → List ℕ → List ℕ → List ℕ
file_at (Rules place) rules wishes = rules
file_at (Wishes place) rules wishes = wishes

-- the line for a place of one of them
abbrev pub line_at : Named → Spot → ℕ → List ℕ
line_at f (Rules place) number = line_for f.rules_name f.rules place number
line_at f (Wishes place) number = line_for f.wish_name f.wishes place number

-- by whether the files are too long or refused; nothing where they are good
abbrev pub said_of : Named → Result ⊤ FileError → List ℕ
said_of f (Err TooLong) = line_at f (spot_too_long f.rules) 0
said_of f (Err (Refused r)) = line_at f (spot_of r.number r.place f.rules) r.number
said_of f (Ok passed) = []

-- all that is said of two files by a program whose call may ask that every rule has entries
abbrev pub diagnostic : Bool → Named → List ℕ
diagnostic asks_entries f = said_of f (check_of asks_entries (problem f.rules f.wishes))

-- no line is longer than its name and so much: two numbers of twenty digits, five bytes around them, and the longest sentence
abbrev pub most : ℕ
most = 45 + longest
