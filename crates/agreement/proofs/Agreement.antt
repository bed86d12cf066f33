-- Demand 3 of document 01, proved as one claim.
use Rattle.std.specs.Prelude.{◌≡◌, List, ℕ, ◌≤◌, ℤ, length, Option, Some}
use Rattle.std.proofs.Common.{sym, ap, subst, ◌∙◌, arith}
use Rattle.std.proofs.lemmas.List.{length-replicate}
use Rattle.formula.specs.Formula.{clauses}
use Rattle.distance.specs.Distance.{nearest}
use Rattle.refusal.specs.declared.Refusal.{Refusal}
use Rattle.refusal.specs.Laws.{room_enough}
use Rattle.refusal.specs.Reply.{Reply, unless, too_short}
use Rattle.limits.specs.Limits.{max_limit}
use Rattle.refusal_causes.specs.Admitted.{Admitted, admitted_room}
use Rattle.refusal_causes.specs.Lent.{wished_problem}
use Rattle.walk.specs.Walk.{walk}
use Rattle.totalizer.specs.Totalizer.{rewritten_variables}
use Rattle.search_meaning.specs.Searches.{found, broken_by}
use Rattle.agreement.proofs.Causes.{short_fine, fine_passes, answered_past, admitted}
use Rattle.agreement.specs.Claim.{Admissible, Agree, both_find, both_none, Unrefused, Agreement}
use Rattle.agreement.proofs.Completing.{all_completions}
use Rattle.agreement.specs.Decided.{Reached, Decided, yes, no}
use Rattle.agreement.proofs.Decided.{search_decides}
use Rattle.agreement.proofs.First.{second_decides, nearest_is_first}
use Rattle.agreement_second_route.specs.Routes.{first_route, second_route, nearest_route, Answered, Passes}
use Rattle.agreement.proofs.Second.{found_answered, found_passes, second_passes, enough, second_enough}

-- two replies that say of one statement whether it holds agree
agree : (Holds : Type 0) (d : ℕ) (first second : Reply) → Decided Holds d first → Decided Holds 0 second → Agree d first second
agree Holds d first second (yes broken h e r) (yes count l f s) = both_find broken h e (f ∙ ap (λ (k : ℕ). found (Some k)) (omega arith))
agree Holds d first second (yes broken h e r) (no f s) = absurd (s r)
agree Holds d first second (no e r) (yes count l f s) = absurd (r s)
agree Holds d first second (no e r) (no f s) = both_none e f

-- a search that is refused only for want of room for the choice
module _ (n : ℕ) (choice : List ℕ) (o : Option ℕ) (reply : Reply) (e : reply ≡ unless (too_short n (length choice)) (found o)) where
  search_passes : Passes reply
  search_passes = subst Passes (sym e) (fine_passes (too_short n (length choice)) (found o) (short_fine n (length choice)) (found_passes o))

  search_answered : n ≤ length choice → Answered reply
  search_answered h = subst Answered (sym (e ∙ ap (λ (c : Option Refusal). unless c (found o)) (room_enough n (length choice) h))) (found_answered o)

  search_found : Answered reply → reply ≡ found o
  search_found u = e ∙ (answered_past (too_short n (length choice)) (found o) (subst Answered e u)).0

module _ (n : ℕ) (rules : List ℤ) (row : List ℕ) (ok : (d : ℕ) → d ≤ max_limit → Admitted (wished_problem n rules row d)) where
  first_says : (d : ℕ) → d ≤ max_limit → (choice : List ℕ) → first_route n rules row d choice ≡ unless (too_short n (length choice)) (found (broken_by (walk n (clauses rules) row d).answer))
  first_says d h choice =
      ap (λ (c : Option Refusal). unless c (found (broken_by (walk n (clauses rules) row d).answer))) (admitted_room (wished_problem n rules row d) n (length choice) (ok d h))

  nearest_says : (choice : List ℕ) → nearest_route n rules row choice ≡ unless (too_short n (length choice)) (found (nearest n rules row))
  nearest_says choice =
      ap (λ (c : Option Refusal). unless c (found (nearest n rules row))) (admitted_room (wished_problem n rules row 0) n (length choice) (ok 0 (omega arith)))

  all_unrefused : (d : ℕ) → d ≤ max_limit → Unrefused n rules row d
  all_unrefused d h =
      let b = enough n rules row d (ok d h) in
      let long : n ≤ length b.choice = omega (arith, length-replicate {A = ℕ} (rewritten_variables n row) 0) in
      record {
        first = λ choice. search_passes n choice (broken_by (walk n (clauses rules) row d).answer) (first_route n rules row d choice) (first_says d h choice);
        second = second_passes n rules row d (ok d h);
        nearest = λ choice. search_passes n choice (nearest n rules row) (nearest_route n rules row choice) (nearest_says choice);
        room = (
          b,
          search_answered n b.choice (broken_by (walk n (clauses rules) row d).answer) (first_route n rules row d b.choice) (first_says d h b.choice) long,
          second_enough n rules row d (ok d h),
          search_answered n b.choice (nearest n rules row) (nearest_route n rules row b.choice) (nearest_says b.choice) long,
        );
      }

  first_decides : (d : ℕ) → d ≤ max_limit → (choice : List ℕ) → Answered (first_route n rules row d choice) → Decided (Reached n rules row d) d (first_route n rules row d choice)
  first_decides d h choice u =
      subst (Decided (Reached n rules row d) d)
      (sym (search_found n choice (broken_by (walk n (clauses rules) row d).answer) (first_route n rules row d choice) (first_says d h choice) u))
      (search_decides n rules row d (ok d h))

  whole : Agreement n rules row
  whole =
      record {
        completions = λ d h. all_completions n rules row d (ok d h);
        unrefused = all_unrefused;
        routes = λ d h choice b u v.
            agree (Reached n rules row d) d (first_route n rules row d choice) (second_route n rules row d b) (first_decides d h choice u) (second_decides n rules row ok d h b v);
        nearest = λ choice u.
            nearest_is_first n rules row ok (nearest_route n rules row choice)
            (search_found n choice (nearest n rules row) (nearest_route n rules row choice) (nearest_says choice) u);
      }

-- the two routes agree, completions of the added counters are unique, and nearest's count is the first d at which the second route finds: over all admitted input
pub agreement : (n : ℕ) (rules : List ℤ) (row : List ℕ) → Admissible n rules row → Agreement n rules row
agreement n rules row a = whole n rules row (admitted n rules row a)
