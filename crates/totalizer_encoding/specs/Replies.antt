-- The replies of the call by the cause to refuse it, and the length of the rewritten list by its parts.
use Rattle.std.specs.Prelude.{◌≡◌, List, ℕ, ◌+◌, ◌≤◌, ℤ, length, None, Some, Result, Ok, Err, ⊤}
use Rattle.std.proofs.Common.{sym, ap, ◌∙◌, arith, length-append}
use Rattle.wish.specs.Wish.{total_weight}
use Rattle.refusal.specs.declared.Refusal.{Refusal}
use Rattle.refusal.specs.Laws.{enough_room}
use Rattle.refusal.specs.Reply.{Reply, refused, refusing, answering, filled, too_short}
use Rattle.replies.specs.Rewritten.{Rewritten, reply_of, done}
use Rattle.limits.specs.Limits.{max_wishes}
use Rattle.rule_list_soundness.specs.Flat.{flat}
use Rattle.refusal_causes.specs.Admitted.{Admitted, admitted}
use Rattle.refusal_causes.specs.Lent.{wished_problem, unadmitted}
use Rattle.refusal_causes.specs.Outputs as outputs
use Rattle.totalizer.specs.Totalizer.{leaves, at_most, rewritten_variables, rewritten}
use Rattle.totalizer.proofs.Rows.{leaves-length}
use Rattle.totalizer_encoding.specs.Causes.{few_leaves}
use Rattle.totalizer_encoding.specs.Rewrite.{rewrite_reply, rewrite_output}

-- the length of the rewritten list, from that of the rules and of what any so many leaves add
pub rewritten-length : (n : ℕ) (rules : List ℤ) (row : List ℕ) (d m r : ℕ) → m ≡ total_weight row
    → ((k : ℕ) (l : List ℤ) → length l ≡ m → r ≡ length (flat (at_most k l d))) → length rules + r ≡ length (rewritten n rules row d)
rewritten-length n rules row d m r e f =
    omega (arith, f n (leaves row) (leaves-length row ∙ sym e), length-append rules (flat (at_most n (leaves row) d)))

module _ (n : ℕ) (rules : List ℤ) (row : List ℕ) (d : ℕ) where
  -- what is not refused has wishes that weigh at most 64
  pub few_leaves-weight : unadmitted (wished_problem n rules row d) ≡ None → (w : ℕ) → w ≡ total_weight row → w ≤ max_wishes
  few_leaves-weight e w ws = omega (arith, few_leaves n rules row d (admitted (wished_problem n rules row d) e), leaves-length row)

  module _ (out : List ℤ) where
    abbrev needed : ℕ
    needed = length (rewritten n rules row d)

    abbrev answer : Reply
    answer = answering 1 (rewritten_variables n row) needed 0

    -- refused for what was lent
    pub refused_early : (r : Refusal) → unadmitted (wished_problem n rules row d) ≡ Some r
        → (refusing r ≡ rewrite_reply n rules row d (length out)) × (out ≡ rewrite_output n rules row d out)
    refused_early = outputs.refused_early (wished_problem n rules row d) answer (rewritten n rules row d) out

    module _ (ok : unadmitted (wished_problem n rules row d) ≡ None) (h : ℕ) (hs : h ≡ needed) (v : Result ⊤ Refusal) (e : refused v ≡ too_short h (length out)) where
      -- refused for want of room
      pub refused_late : (r : Refusal) → v ≡ Err r
          → (refusing r ≡ rewrite_reply n rules row d (length out)) × (out ≡ rewrite_output n rules row d out)
      refused_late r f =
          outputs.refused_late (wished_problem n rules row d) answer (rewritten n rules row d) out ok h hs r (sym e ∙ ap (refused {A = ⊤}) f)

      module _ (f : v ≡ Ok tt) where
        enough : too_short h (length out) ≡ None
        enough = sym e ∙ ap (refused {A = ⊤}) f

        pub answered : (r : Rewritten) (result : List ℤ) → r ≡ done (rewritten_variables n row) needed → result ≡ filled None (rewritten n rules row d) out
            → (reply_of r ≡ rewrite_reply n rules row d (length out)) × (result ≡ rewrite_output n rules row d out)
        answered r result a =
            outputs.answered (wished_problem n rules row d) answer (rewritten n rules row d) out ok h hs enough (reply_of r) (ap reply_of a) result

        pub writable : Admitted (wished_problem n rules row d) × (length (rewritten n rules row d) ≤ length out)
        writable = (admitted (wished_problem n rules row d) ok, omega (arith, hs, enough_room h (length out) enough))
