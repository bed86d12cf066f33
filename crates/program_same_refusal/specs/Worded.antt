-- Whatever two files a program refuses, its line on standard error has a sentence (`program_number`, `program_worded`), and where a file was refused in reading it names that file and the place in it (`rule_spot`, `wish_spot`).
use Rattle.std.specs.Prelude.{Bool, cond, List, [], ◌∷◌, ◌++◌, ℕ}
use Rattle.file_causes.specs.Causes.{rule_causes, wish_causes}

-- The numbers (document 01, "Refusals"; 16 is document 02's, L2) of the causes to refuse two good files together: 16 only where the program asks that every rule has an entry.
abbrev pub joint_causes : Bool → List ℕ
joint_causes asks_entries = 11 ∷ 12 ∷ cond asks_entries (16 ∷ []) []

-- all that a program refuses two files for: neither 5, nor 13, 14 and 15
abbrev pub program_causes : Bool → List ℕ
program_causes asks_entries = rule_causes ++ (wish_causes ++ joint_causes asks_entries)
