-- What the calls' replies come to in the printed text.
use Rattle.std.specs.Prelude.{◌≡◌, refl, Bool, true, false, List, ℕ, ◌≤◌, ◌<◌, ltb, ℤ, length, take, Option, None, Some}
use Rattle.std.proofs.Common.{sym, ap, subst, ◌∙◌, arith}
use Rattle.refusal.specs.declared.Refusal.{Refusal}
use Rattle.refusal.specs.Reply.{refusing, answering, cause, unless, too_short, filled}
use Rattle.refusal_causes.specs.Lent.{refusal_of, plain_problem, wished_problem}
use Rattle.refusal_causes.specs.Admitted.{Admitted, admitted_room, plain_admitted}
use Rattle.limits.specs.Limits.{max_variables}
use Rattle.rule_list.specs.Sound.{unread, bad_rule, SoundList}
use Rattle.rule_file.proofs.Sizes.{sound_length}
use Rattle.rule_file.specs.Written.{written}
use Rattle.totalizer.proofs.Theorems.{rewritten_variables_lem, rewritten_sound}
use Rattle.totalizer.specs.Totalizer.{rewritten_variables, rewritten}
use Rattle.totalizer_encoding.specs.Rewrite.{lent_to_rewrite, rewrite_reply, rewrite_output}
use Rattle.rule_file_writer.specs.Write.{lent_to_write, write_reply, write_output}
use Rattle.program_report.specs.Report.{refusal_line, fitted}
use Rattle.program_files.specs.Problem.{unless_refused}
use Rattle.program_files.specs.ReadLaws.{front}
use Rattle.program_files.specs.Room.{enough, unrefused}
use Rattle.program_rewrite_text.specs.FileSize.{size_of}
use Rattle.program_rewrite_text.specs.Printed.{rewriting_refused, rewritten_text}

-- the file of a sound list
module _ (n : ℕ) (l : List ℤ) (out : List ℕ) (positive : 0 < n) (most : n ≤ max_variables) (sound : SoundList n l) where
  only_room : refusal_of (lent_to_write n l (length out)) ≡ too_short (length (written n l)) (length out)
  only_room = admitted_room (plain_problem n l) (length (written n l)) (length out) (plain_admitted n l positive most sound)

  pub file_size_lem : size_of (write_reply n l (length out)) ≡ length (written n l)
  file_size_lem = ap (λ (o : Option Refusal). size_of (unless o (answering 1 k 0 0))) only_room ∙ either (ltb (length out) k)
    where
      k : ℕ
      k = length (written n l)

      either : (b : Bool) → size_of (unless (cause b 15 k) (answering 1 k 0 0)) ≡ k
      either true = refl
      either false = refl

  pub file_put : write_output n l out ≡ fitted (written n l) out
  file_put = ap (λ (o : Option Refusal). filled o (written n l) out) only_room

-- what rewriting into a list that has room for every sound one answers and leaves
module _ (n : ℕ) (rules : List ℤ) (row : List ℕ) (d : ℕ) where
  abbrev N : ℕ
  N = rewritten_variables n row

  abbrev R : List ℤ
  R = rewritten n rules row d

  abbrev text : Option Refusal → List ℕ
  text o = unless_refused o (written N R)

  admitted_sound : Admitted (wished_problem n rules row d) → SoundList N R
  admitted_sound a = rewritten_sound n rules row d a.sound_rules a.long_row a.sound_row a.small.few a.small.short

  module _ (blank : List ℤ) (room : 40000 ≤ length blank) where
    same_cause : refusal_of (lent_to_rewrite n rules row d (length blank)) ≡ rewriting_refused n rules row d
    same_cause = enough n rules row d (length R) (length blank) (λ a. omega (arith, sound_length N R (admitted_sound a)))

    pub rewriting_refused_lem : (r : Refusal) → refusing r ≡ rewrite_reply n rules row d (length blank) → refusal_line r ≡ rewritten_text n rules row d
    rewriting_refused_lem r e = go (refusal_of (lent_to_rewrite n rules row d (length blank))) e ∙ ap text same_cause
      where
        go : (o : Option Refusal) → refusing r ≡ unless o (answering 1 N (length R) 0) → refusal_line r ≡ text o
        go (Some q) f = let same : q ≡ r = cc in ap refusal_line (sym same)
        go None f = let z : ◌≡◌ {A = ℕ} 0 1 = cc in absurd (omega arith)

    -- a list at the front of what was lent, which can be written, and its file
    pub record Rewrote (v k : ℕ) (result : List ℤ) : Type 0 where
      pub inside : k ≤ length result
      pub positive : 0 < v
      pub most : v ≤ max_variables
      pub sound : SoundList v (take k result)
      pub file : written v (take k result) ≡ rewritten_text n rules row d

    pub rewriting_done : (v k : ℕ) (result : List ℤ) → answering 1 v k 0 ≡ rewrite_reply n rules row d (length blank) → result ≡ rewrite_output n rules row d blank
        → Rewrote v k result
    rewriting_done v k result e f = go (refusal_of (lent_to_rewrite n rules row d (length blank))) refl e f
      where
        go : (o : Option Refusal) → refusal_of (lent_to_rewrite n rules row d (length blank)) ≡ o → answering 1 v k 0 ≡ unless o (answering 1 N (length R) 0) → result ≡ filled o R blank
            → Rewrote v k result
        go (Some q) g h i = absurd (let z : ◌≡◌ {A = ℕ} 0 1 = cc in omega arith)
        go None g h i =
            let a : Admitted (wished_problem n rules row d) = unrefused n rules row d (length R) (length blank) g in
            let v-is : N ≡ v = cc in
            let k-is : length R ≡ k = cc in
            let here = front R blank result k k-is i in
            subst (λ (u : ℕ). Rewrote u k result) v-is
            (record {
              inside = here.1;
              positive = omega (arith, a.positive);
              most = rewritten_variables_lem n row a.small.variables a.sound_row;
              sound = ap (bad_rule N unread 0) here.0 ∙ admitted_sound a;
              file = ap (written N) here.0 ∙ ap text (sym g ∙ same_cause);
            })
