-- An answer's refusal is 0 only where the call gave an answer, and never 5: for each of the calls that are lent values.
use Rattle.std.specs.Prelude.{◌≡◌, refl, Bool, true, false, cond, List, ℕ, ℤ, length, Option, None, Some}
use Rattle.std.proofs.Common.{sym, ap, ◌∙◌, true≢false, arith}
use Rattle.formula.specs.Formula.{clauses, models}
use Rattle.distance.specs.Distance.{disagreement, nearest}
use Rattle.refusal.specs.declared.Refusal.{Refusal}
use Rattle.refusal.specs.Reply.{Reply, refusing, answering, unless}
use Rattle.refusal_causes.specs.Lent.{Lent, refusal_of}
use Rattle.walk.specs.Walk.{walk, plain_walk}
use Rattle.checking.specs.Check.{lent_to_check, check_reply}
use Rattle.rule_file.specs.Written as rule-file
use Rattle.wish_file.specs.Format as wish-file
use Rattle.rule_file_writer.specs.Write as rules
use Rattle.wish_file_writer.specs.Write as wishes
use Rattle.search_meaning.specs.Searches.{found, broken_by, lent_to_search, lent_to_plain, search_reply, plain_reply, nearest_reply}
use Rattle.totalizer.specs.Totalizer.{rewritten_variables, rewritten}
use Rattle.totalizer_encoding.specs.Rewrite.{lent_to_rewrite, rewrite_reply}
use Rattle.opb_format.specs.Opb.{opb_of}
use Rattle.opb_writer.specs.Write as opb
use Rattle.c_answers.specs.Answers.{answer_of}
use Rattle.c_answer_meaning.specs.Numbers.{ordinary, Numbered, lent-numbered}

-- whether a reply is an answer, and no refusal
abbrev pub is_answer : Reply → Bool
is_answer (refusing r) = false
is_answer (answering verdict a b c) = true

-- the number 0 tells that a reply is an answer, and no reply has the number 5
pub record Told (reply : Reply) : Type 0 where
  pub answered : (answer_of reply).refusal ≡ 0 → is_answer reply ≡ true
  pub never5 : (answer_of reply).refusal ≡ 5 → ⊥

pub told_refusal : (r : Refusal) → Numbered (Some r) → Told (refusing r)
told_refusal r cause = record { answered = λ e. absurd (unlike 0 refl e); never5 = unlike 5 refl }
  where
    unlike : (k : ℕ) → ordinary k ≡ false → r.number ≡ k → ⊥
    unlike k h e = true≢false (sym (cause.number r refl) ∙ ap ordinary e ∙ h)

pub told_unless : (o : Option Refusal) (verdict a b c : ℕ) → Numbered o → Told (unless o (answering verdict a b c))
told_unless None verdict a b c cause = record { answered = λ e. refl; never5 = λ e. omega arith }
told_unless (Some r) verdict a b c cause = told_refusal r cause

told_search : (s : Lent) (o : Option ℕ) → Told (unless (refusal_of s) (found o))
told_search s None = told_unless (refusal_of s) 0 0 0 0 (lent-numbered s)
told_search s (Some broken) = told_unless (refusal_of s) 1 broken 0 0 (lent-numbered s)

-- the calls that are lent a rule list and no row
module _ (n : ℕ) (list : List ℤ) (room : ℕ) where
  pub plain_told : Told (plain_reply n list room)
  plain_told = told_search (lent_to_plain n list room) (broken_by (plain_walk n (clauses list)).answer)

  pub write_rules_told : Told (rules.write_reply n list room)
  write_rules_told =
      let s : Lent = rules.lent_to_write n list room in
      told_unless (refusal_of s) 1 (length (rule-file.written n list)) 0 0 (lent-numbered s)

-- a rule list and a row
module _ (n : ℕ) (list : List ℤ) (row : List ℕ) where
  pub check_told : (choice : List ℕ) → Told (check_reply n list row choice)
  check_told choice =
      let s : Lent = lent_to_check n list row choice in
      told_unless (refusal_of s) (cond (models choice (clauses list)) 1 0) (disagreement row choice) 0 0 (lent-numbered s)

  pub nearest_told : (room : ℕ) → Told (nearest_reply n list row room)
  nearest_told room = told_search (lent_to_search n list row 0 room) (nearest n list row)

  pub search_told : (d room : ℕ) → Told (search_reply n list row d room)
  search_told d room = told_search (lent_to_search n list row d room) (broken_by (walk n (clauses list) row d).answer)

  pub rewrite_told : (d room : ℕ) → Told (rewrite_reply n list row d room)
  rewrite_told d room =
      let s : Lent = lent_to_rewrite n list row d room in
      told_unless (refusal_of s) 1 (rewritten_variables n row) (length (rewritten n list row d)) 0 (lent-numbered s)

  pub write_opb_told : (d room : ℕ) → Told (opb.write_reply n list row d room)
  write_opb_told d room =
      let s : Lent = opb.lent_to_write n list row d room in
      told_unless (refusal_of s) 1 (length (opb_of n list row d)) 0 0 (lent-numbered s)

-- a row and no rule list
pub write_wishes_told : (n : ℕ) (row : List ℕ) (d room : ℕ) → Told (wishes.write_reply n row d room)
write_wishes_told n row d room =
    let s : Lent = wishes.lent_to_write n row d room in
    told_unless (refusal_of s) 1 (length (wish-file.written n row d)) 0 0 (lent-numbered s)
