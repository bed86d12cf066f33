-- How the call ends where it was admitted: without room, or with the three parts of the file written one after the other.
use Rattle.std.specs.Prelude.{◌≡◌, List, ℕ, ◌+◌, ◌≤◌, ℤ, length, None, Some, Ok}
use Rattle.std.proofs.Common.{sym, ap, ◌∙◌, arith}
use Rattle.formula.specs.Formula.{clauses}
use Rattle.wish.specs.Wish.{wish_count}
use Rattle.writing.specs.Wrote.{Wrote, wrote_as, wrote_more, wrote_whole}
use Rattle.refusal.specs.declared.Refusal.{Refusal}
use Rattle.refusal.specs.Laws.{enough_room}
use Rattle.refusal.specs.Reply.{refusing, answering, too_short}
use Rattle.refusal_causes.specs.Admitted.{admitted}
use Rattle.refusal_causes.specs.Lent.{Lent, exported_problem, unadmitted}
use Rattle.refusal_causes.specs.Texts as texts
use Rattle.admission_steps.specs.declared.Counts.{Counts}
use Rattle.admission_steps.specs.Admission.{counts_of, admission}
use Rattle.admission_steps.specs.Laws.{admitted_by}
use Rattle.rule_file.proofs.Sizes.{sound_length}
use Rattle.opb_format.specs.Opb.{header_text, opb_of}
use Rattle.opb_rules.specs.Lines.{rule_lines}
use Rattle.opb_writer.specs.Parts.{line_count, wish_lines, file_parts, file_size_lem}

-- it was admitted with these counts
module _ (n : ℕ) (rules : List ℤ) (row : List ℕ) (d : ℕ) (k : Counts) (e : Ok k ≡ admission (exported_problem n rules row d)) where
  abbrev lent : Lent
  lent = exported_problem n rules row d

  known : (unadmitted lent ≡ None) × (k ≡ counts_of lent)
  known = admitted_by (unadmitted lent) (counts_of lent) k (sym e)

  all_clauses : k.clauses ≡ length (clauses rules)
  all_clauses = ap (λ (c : Counts). c.clauses) known.1

  all_wishes : k.wishes ≡ wish_count row
  all_wishes = ap (λ (c : Counts). c.wishes) known.1

  pub rules_fit : length rules ≤ 40000
  rules_fit = sound_length n rules (admitted lent known.0).sound_rules

  -- so many lines follow the first, and the three parts were counted
  module _ (file : List ℕ) (lines : ℕ) (counted : lines ≡ line_count k.clauses k.wishes) {h r w : ℕ}
      (first : h ≡ length (header_text n lines)) (middle : r ≡ length (rule_lines rules)) (last : w ≡ length (wish_lines rules row d)) where
    whole : length (header_text n lines) + length (rule_lines rules) + length (wish_lines rules row d) ≡ length (opb_of n rules row d)
    whole = ap (λ (c : ℕ). length (header_text n c) + length (rule_lines rules) + length (wish_lines rules row d)) counted ∙ file_size_lem rules row d n k.clauses k.wishes all_clauses all_wishes

    size : h + r + w ≡ length (opb_of n rules row d)
    size = omega (arith, first, middle, last, whole)

    -- refused for want of room
    pub refused_late : (q : Refusal) → Some q ≡ too_short (h + r + w) (length file) → texts.Answers lent (opb_of n rules row d) file (refusing q) file
    refused_late q f = texts.refused_late lent (opb_of n rules row d) file known.0 (h + r + w) size q (sym f)

    -- written
    pub written : None ≡ too_short (h + r + w) (length file) → {a b c : List ℕ} {i j at : ℕ}
        → Wrote (header_text n lines) file 0 a i → Wrote (rule_lines rules) a i b j → Wrote (wish_lines rules row d) b j c at
        → texts.Answers lent (opb_of n rules row d) file (answering 1 at 0 0) c
    written enough {a} {b} {c} {i} {j} {at} head body end =
        let all : Wrote (opb_of n rules row d) file 0 c at =
        wrote_as (file_parts rules row d n k.clauses k.wishes all_clauses all_wishes) (wrote_more (wrote_as (ap (header_text n) counted) head) (wrote_more body end)) in
        texts.answered lent (opb_of n rules row d) file known.0 (h + r + w) size (sym enough) at (omega (arith, all.place)) c
        (wrote_whole all (omega (arith, size, enough_room (h + r + w) (length file) (sym enough))))
