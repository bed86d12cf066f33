-- How long the file of a sound list can be.
use Rattle.std.specs.Prelude.{◌≡◌, refl, Bool, true, false, cond, ◌&&◌, List, [], ◌∷◌, ℕ, suc, ◌*◌, ◌≤◌, leb, ltb, ℤ, length, None}
use Rattle.std.proofs.Common.{arith, length-append, leb-true, eqb-true}
use Rattle.literal.specs.Literal.{variable}
use Rattle.formula.specs.Formula.{closes, clauses}
use Rattle.limits.specs.Limits.{max_variables, max_clauses, max_literals}
use Rattle.rule_list.specs.Sound.{Scan, may_join, stands, after, unread, bad_rule, SoundList}
use Rattle.decimal.specs.Laws.{count_most}
use Rattle.rule_list_soundness.specs.Laws.{and_left}
use Rattle.text.specs.Laws.{numeral-most}
use Rattle.text.specs.Text.{numeral}
use Rattle.rule_file.proofs.RoundTrip.{header-length}
use Rattle.rule_file.proofs.Sizes.{sound_step, sound_length, sound_clauses}
use Rattle.rule_file.specs.Written.{separator, body, header_text, written}
use Rattle.program_rewrite_text.specs.Printed.{longest}

stands-within : (n : ℕ) (s : Scan) (x : ℤ) → stands n s x ≡ true → variable x ≤ n
stands-within n s x e = go (closes x) refl e
  where
    go : (b : Bool) → closes x ≡ b → cond b (ltb s.clauses max_clauses) (leb (variable x) n && (ltb s.literals max_literals && may_join s.clause x)) ≡ true → variable x ≤ n
    go true f g = omega (arith, eqb-true (variable x) 0 f)
    go false f g = leb-true (variable x) n (and_left (leb (variable x) n) (ltb s.literals max_literals && may_join s.clause x) g)

body-most : (l : List ℤ) (n : ℕ) (s : Scan) (i : ℕ) → n ≤ max_variables → bad_rule n s i l ≡ None → length (body l) ≤ 5 * length l
body-most [] n s i h e = omega arith
body-most (x ∷ l) n s i h e =
    let step = sound_step n s i x l e in
    let x-within = stands-within n s x step.0 in
    omega (
      arith,
      length-append (numeral x) (separator x ∷ body l),
      numeral-most 2 x (omega arith),
      body-most l n (after s x) (suc i) h step.1,
    )

-- the file of a sound list
pub written-most : (n : ℕ) (l : List ℤ) → n ≤ max_variables → SoundList n l → length (written n l) ≤ longest
written-most n l h e =
    let c : ℕ = length (clauses l) in
    omega (
      arith,
      length-append (header_text n c) (body l),
      header-length n c,
      count_most 2 n (omega arith),
      count_most 3 c (omega (arith, sound_clauses n l e)),
      body-most l n unread 0 h e,
      sound_length n l e,
    )
