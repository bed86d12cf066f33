-- What the call knows where it is not refused, and how it ends.
use Rattle.std.specs.Prelude.{◌≡◌, List, ℕ, ◌+◌, ◌≤◌, ℤ, length, None, Some, Ok}
use Rattle.std.proofs.Common.{sym, ap, ◌∙◌, arith, length-append}
use Rattle.wish.specs.Wish.{total_weight}
use Rattle.refusal.specs.declared.Refusal.{Refusal}
use Rattle.refusal.specs.Laws.{enough_room}
use Rattle.refusal.specs.Reply.{Reply, refusing, answering, filled, too_short}
use Rattle.replies.specs.declared.Sizes.{Sizes}
use Rattle.replies.specs.Rewritten.{reply_of}
use Rattle.rule_list_soundness.specs.Flat.{flat}
use Rattle.refusal_causes.specs.Laws.{sound_weight}
use Rattle.refusal_causes.specs.Lent.{Lent, wished_problem, unadmitted}
use Rattle.refusal_causes.specs.Outputs as outputs
use Rattle.limits.specs.Limits.{max_wishes}
use Rattle.refusal_causes.specs.Admitted.{Admitted, admitted}
use Rattle.admission_steps.specs.declared.Counts.{Counts}
use Rattle.admission_steps.specs.Admission.{counts_of, admission}
use Rattle.admission_steps.specs.Laws.{admitted_by}
use Rattle.totalizer.specs.Totalizer.{leaves, at_most, rewritten_variables, rewritten}
use Rattle.totalizer.proofs.Rows.{leaves-length}
use Rattle.totalizer_encoding.specs.Rewrite.{rewritten_sizes}

module _ (n : ℕ) (rules : List ℤ) (row : List ℕ) (d : ℕ) where
  abbrev lent : Lent
  lent = wished_problem n rules row d

  -- what is admitted has at most 64 leaves
  pub few_leaves : Admitted lent → length (leaves row) ≤ max_wishes
  few_leaves a = omega (arith, leaves-length row, sound_weight row a.sound_row)

  -- it was admitted with these counts
  module _ (k : Counts) (e : Ok k ≡ admission lent) where
    known : (unadmitted lent ≡ None) × (k ≡ counts_of lent)
    known = admitted_by (unadmitted lent) (counts_of lent) k (sym e)

    weighed : k.weight ≡ total_weight row
    weighed = ap (λ (c : Counts). c.weight) known.1

    pub few_leaves-weight : k.weight ≤ max_wishes
    few_leaves-weight = omega (arith, few_leaves (admitted lent known.0), leaves-length row, weighed)

    -- so many elements are needed, counted from the length of the rules and of what any so many leaves add
    module _ (out : List ℤ) (more : ℕ) (adds : (j : ℕ) (l : List ℤ) → length l ≡ k.weight → more ≡ length (flat (at_most j l d))) where
      needed : length rules + more ≡ length (rewritten n rules row d)
      needed = omega (arith, adds n (leaves row) (leaves-length row ∙ sym weighed), length-append rules (flat (at_most n (leaves row) d)))

      abbrev answer : Reply
      answer = answering 1 (rewritten_variables n row) (length (rewritten n rules row d)) 0

      -- the reply and the list of a call that ends so
      abbrev pub Answers : Reply → List ℤ → Type 0
      Answers = outputs.Answers lent answer (rewritten n rules row d) out

      -- refused for want of room
      pub refused_late : (r : Refusal) → Some r ≡ too_short (length rules + more) (length out) → Answers (refusing r) out
      refused_late r f = outputs.refused_late lent answer (rewritten n rules row d) out known.0 (length rules + more) needed r (sym f)

      module _ (enough : None ≡ too_short (length rules + more) (length out)) where
        pub writable : Admitted lent × (length (rewritten n rules row d) ≤ length out)
        writable = (admitted lent known.0, omega (arith, needed, enough_room (length rules + more) (length out) (sym enough)))

        pub answered : (s : Sizes) (result : List ℤ) → s ≡ rewritten_sizes n rules row d → result ≡ filled None (rewritten n rules row d) out
            → Answers (reply_of (Ok s)) result
        answered s result f =
            outputs.answered lent answer (rewritten n rules row d) out known.0 (length rules + more) needed (sym enough) (reply_of (Ok s))
            (ap (λ (z : Sizes). reply_of (Ok z)) f) result
