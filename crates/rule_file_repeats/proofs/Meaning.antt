-- Dropping repeats changes nothing for any assignment, complete or not.
use Rattle.std.specs.Prelude.{◌≡◌, refl, ◌&&◌, List, [], ◌∷◌, map, ℕ, ℤ}
use Rattle.std.proofs.Common.{ap, ap₂, ◌∙◌}
use Rattle.literal.specs.Literal.{holds}
use Rattle.formula.specs.Formula.{clauses, satisfied, models}
use Rattle.rule_file.specs.Format.{gives, reading}
use Rattle.rule_file_repeats.specs.Files.{numbers_of}
use Rattle.rule_file_repeats.proofs.Files.{rules_read}
use Rattle.rule_file_repeats.proofs.Members.{same_members, any_same}
use Rattle.rule_file_repeats.specs.Once.{without_repeats}

-- It satisfies a clause without its repeats exactly when it satisfies the clause,
pub same_satisfied : (a : List ℕ) (c : List ℤ) → satisfied a (without_repeats c) ≡ satisfied a c
same_satisfied a c = any_same (holds a) (without_repeats c) c (same_members c)

pub same_models : (a : List ℕ) (f : List (List ℤ)) → models a (map without_repeats f) ≡ models a f
same_models a [] = refl
same_models a (c ∷ f) = ap₂ ◌&&◌ (same_satisfied a c) (same_models a f)

-- and is a model of the rules that reading gives of a file exactly when it is one of the file's rules, repeats included.
pub models_read : (file : List ℕ) (n c : ℕ) (l : List ℤ) → reading file ≡ gives n c l → (a : List ℕ) → models a (clauses l) ≡ models a (clauses (numbers_of file))
models_read file n c l e a = ap (models a) (rules_read file n c l e) ∙ same_models a (clauses (numbers_of file))
