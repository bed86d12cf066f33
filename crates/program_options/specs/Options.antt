-- What a program's first argument asks for: `--help`, `--version`, or nothing of the kind.
use Rattle.std.specs.Prelude.{Bool, true, false, cond, ◌&&◌, List, [], ◌∷◌, ℕ, eqb, Option, None, Some}
use Rattle.words.specs.Words.{ascii}
use Rattle.program_options.specs.declared.Asked.TheVariants.{Help, Version}
use Rattle.program_options.specs.declared.Asked.{Asked}

-- two texts are the same
abbrev pub same_bytes : List ℕ → List ℕ → Bool
same_bytes [] [] = true
same_bytes [] (y ∷ b) = false
same_bytes (x ∷ a) [] = false
same_bytes (x ∷ a) (y ∷ b) = eqb x y && same_bytes a b

-- a word asks for one of the two if it is just that
abbrev pub asked_by : List ℕ → Option Asked
asked_by word = cond (same_bytes word (ascii "--help")) (Some Help) (cond (same_bytes word (ascii "--version")) (Some Version) None)
