-- What follows from the definitions of specs/Files.antt.
use Rattle.std.specs.Prelude.{◌≡◌, refl, Bool, true, false, List, [], ◌∷◌, map, ℕ, suc, ℤ, Some}
use Rattle.std.proofs.Common.{sym, ap, ◌∙◌}
use Rattle.formula.specs.Formula.{closes, onto, clauses}
use Rattle.rule_list.specs.Laws.{scan}
use Rattle.rule_list.specs.Sound.{unread, may_join}
use Rattle.rule_file.specs.Accepted.{past_header, Parts}
use Rattle.rule_file.proofs.Accepted.{accepted_parts}
use Rattle.rule_file.specs.Format.{element, stored, gives, reading}
use Rattle.rule_file_repeats.specs.Once.{once, without_repeats}
use Rattle.rule_file_repeats.specs.Files.{numbers_of, numbers_past}

-- the clauses behind a literal y of an open one: the first goes on there, after all that was read of it, the others are whole
abbrev going_on : ℤ → List ℤ → List (List ℤ) → List (List ℤ)
going_on y read [] = (y ∷ []) ∷ []
going_on y read (c ∷ f) = (y ∷ once read c) ∷ map without_repeats f

-- a literal in front of them begins a clause, joins the open one, or is a repeat
clause_begun : (x : ℤ) (f : List (List ℤ)) → going_on x (x ∷ []) f ≡ map without_repeats (onto x f)
clause_begun x [] = refl
clause_begun x (c ∷ f) = refl

literal-joined : (x y : ℤ) (read : List ℤ) (f : List (List ℤ)) → may_join read x ≡ true → onto y (going_on x (x ∷ read) f) ≡ going_on y read (onto x f)
literal-joined x y read [] e = rw e
literal-joined x y read (c ∷ f) e = rw e

literal_dropped : (x y : ℤ) (read : List ℤ) (f : List (List ℤ)) → may_join read x ≡ false → going_on y read f ≡ going_on y read (onto x f)
literal_dropped x y read [] e = rw e
literal_dropped x y read (c ∷ f) e = rw e

-- what is stored of some numbers, where no clause is open, and behind a literal y of one that is
record Stored (l : List ℤ) : Type 0 where
  whole : (k m : ℕ) → clauses (stored (scan k m []) l) ≡ map without_repeats (clauses l)
  begun : (k m : ℕ) (read : List ℤ) (y : ℤ) → onto y (clauses (stored (scan k m read) l)) ≡ going_on y read (clauses l)

stored_all : (l : List ℤ) → Stored l
stored_all [] = record { whole = λ k m. refl; begun = λ k m read y. refl }
stored_all (x ∷ l) = go (closes x) refl (stored_all l)
  where
    literal : closes x ≡ false → Stored l → (k m : ℕ) (read : List ℤ) (y : ℤ) (b : Bool) → may_join read x ≡ b
        → onto y (clauses (stored (scan k m read) (x ∷ l))) ≡ going_on y read (clauses (x ∷ l))
    literal z rest k m read y true e = rw (z, e) (rw (z) (ap (onto y) (rest.begun k (suc m) (x ∷ read) x) ∙ literal-joined x y read (clauses l) e))
    literal z rest k m read y false e = rw (z, e) (rest.begun k m read y ∙ literal_dropped x y read (clauses l) e)

    go : (b : Bool) → closes x ≡ b → Stored l → Stored (x ∷ l)
    go true z rest = record {
      whole = λ k m. rw (z) (rw (z) (ap (λ (f : List (List ℤ)). [] ∷ f) (rest.whole (suc k) m)));
      begun = λ k m read y. rw (z) (rw (z) (ap (λ (f : List (List ℤ)). (y ∷ []) ∷ f) (rest.whole (suc k) m)));
    }
    go false z rest = record {
      whole = λ k m. rw (z) (rw (z) (rest.begun k (suc m) (x ∷ []) x ∙ clause_begun x (clauses l)));
      begun = λ k m read y. literal z rest k m read y (may_join read x) refl;
    }

-- Of any numbers, the clauses that are stored are theirs, each without its repeats.
pub stored-clauses : (l : List ℤ) → clauses (stored unread l) ≡ map without_repeats (clauses l)
stored-clauses l = (stored_all l).whole 0 0

-- So the rules that reading gives of a file are the file's rules, each without its repeats.
pub rules_read : (file : List ℕ) (n c : ℕ) (l : List ℤ) → reading file ≡ gives n c l → clauses l ≡ map without_repeats (clauses (numbers_of file))
rules_read file n c l e =
    let p : Parts file n c l = accepted_parts file n c l e in
    let all : numbers_of file ≡ map element (past_header file p.size) = ap (numbers_past file) p.head in
    ap clauses (p.gave ∙ ap (stored unread) (sym all)) ∙ stored-clauses (numbers_of file)
