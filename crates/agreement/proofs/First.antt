-- Nearest's count is the first d at which the second route finds.
use Rattle.std.specs.Prelude.{◌≡◌, refl, List, ℕ, ◌≤◌, ◌<◌, ℤ, Option, None, Some}
use Rattle.std.proofs.Common.{sym, ap, subst, ◌∙◌, le_refl, lt_of_not-le, arith}
use Rattle.formula.specs.Formula.{clauses}
use Rattle.distance.specs.Distance.{disagreement, nearest}
use Rattle.choices.specs.Choices.{Model, Nearest}
use Rattle.choices.proofs.Choices.{nearest-some, nearest_none}
use Rattle.refusal.specs.Reply.{Reply}
use Rattle.limits.specs.Limits.{max_limit}
use Rattle.wish.specs.Wish.{total_weight}
use Rattle.distance.specs.Laws.{disagreement-most}
use Rattle.refusal_causes.specs.Laws.{sound_weight}
use Rattle.refusal_causes.specs.Admitted.{Admitted}
use Rattle.refusal_causes.specs.Lent.{wished_problem}
use Rattle.search_meaning.specs.Searches.{found}
use Rattle.agreement.specs.Claim.{Finds, FindsNone, First, CountsUp}
use Rattle.agreement.specs.Decided.{Reached, Decided, yes, no}
use Rattle.agreement.proofs.Decided.{plain_decides}
use Rattle.agreement_second_route.specs.Routes.{Buffers, second_route, Answered}
use Rattle.agreement.proofs.Second.{second_outcome, enough, second_enough}

-- the answers of found are apart
found_some : (o : Option ℕ) (k : ℕ) → found o ≡ found (Some k) → o ≡ Some k
found_some None k e = cc
found_some (Some j) k e = cc

found_none : (o : Option ℕ) → found o ≡ found None → o ≡ None
found_none None e = refl
found_none (Some j) e = cc

-- a reply that says whether a statement holds, and breaks no wish
module _ (Holds : Type 0) (reply : Reply) where
  decided_yes : Decided Holds 0 reply → Holds → reply ≡ found (Some 0)
  decided_yes (yes broken h e r) holds = e ∙ ap (λ (k : ℕ). found (Some k)) (omega arith)
  decided_yes (no e r) holds = absurd (r holds)

  decided_no : Decided Holds 0 reply → (Holds → ⊥) → reply ≡ found None
  decided_no (yes broken h e r) fails = absurd (fails r)
  decided_no (no e r) fails = e

  yes_decided : Decided Holds 0 reply → reply ≡ found (Some 0) → Holds
  yes_decided (yes broken h e r) f = r
  yes_decided (no e r) f = let z : ◌≡◌ {A = ℕ} 0 1 = cc in absurd (omega arith)

  no_decided : Decided Holds 0 reply → reply ≡ found None → Holds → ⊥
  no_decided (yes broken h e r) f holds = let z : ◌≡◌ {A = ℕ} 0 1 = cc in absurd (omega arith)
  no_decided (no e r) f holds = r holds

module _ (n : ℕ) (rules : List ℤ) (row : List ℕ) (ok : (d : ℕ) → d ≤ max_limit → Admitted (wished_problem n rules row d)) where
  -- the second route says whether some choice is within d
  pub second_decides : (d : ℕ) → d ≤ max_limit → (b : Buffers) → Answered (second_route n rules row d b) → Decided (Reached n rules row d) 0 (second_route n rules row d b)
  second_decides d h b u =
      subst (Decided (Reached n rules row d) 0) (sym (second_outcome n rules row d (ok d h) b u)) (plain_decides n rules row d (ok d h))

  module _ (d : ℕ) (h : d ≤ max_limit) where
    within : Reached n rules row d → Finds n rules row d
    within r b u = decided_yes (Reached n rules row d) (second_route n rules row d b) (second_decides d h b u) r

    beyond : (Reached n rules row d → ⊥) → FindsNone n rules row d
    beyond r b u = decided_no (Reached n rules row d) (second_route n rules row d b) (second_decides d h b u) r

    abbrev lent : Buffers
    lent = enough n rules row d (ok d h)

    abbrev unrefused : Answered (second_route n rules row d lent)
    unrefused = second_enough n rules row d (ok d h)

    finds_within : Finds n rules row d → Reached n rules row d
    finds_within f = yes_decided (Reached n rules row d) (second_route n rules row d lent) (second_decides d h lent unrefused) (f lent unrefused)

    none_beyond : FindsNone n rules row d → Reached n rules row d → ⊥
    none_beyond f = no_decided (Reached n rules row d) (second_route n rules row d lent) (second_decides d h lent unrefused) (f lent unrefused)

  few : total_weight row ≤ max_limit
  few = omega (arith, sound_weight row (ok 0 (omega arith)).sound_row)

  nearest_first : (k : ℕ) → Nearest n (clauses rules) row k → First n rules row k
  nearest_first k c =
      let (a, model, count) = c.attained in
      let w : k ≤ total_weight row = omega (arith, disagreement-most row a) in
      let h : k ≤ max_limit = omega (arith, few) in
      record {
        limited = w;
        finds = within k h (a, model, omega arith);
        before = λ d l. beyond d (omega arith) (λ r. omega (arith, c.below r.0 r.1, r.2));
      }

  first_nearest_lem : (k : ℕ) → First n rules row k → Nearest n (clauses rules) row k
  first_nearest_lem k f = record { attained = (reached.0, reached.1, omega (arith, reached.2, below reached.0 reached.1)); below = below }
    where
      reached : Reached n rules row k
      reached = finds_within k (omega (arith, f.limited, few)) f.finds

      below : (a : List ℕ) → Model n (clauses rules) a → k ≤ disagreement row a
      below a m =
          let fewer : disagreement row a < k → ⊥ =
          λ l. none_beyond (disagreement row a) (omega (arith, disagreement-most row a, few)) (f.before (disagreement row a) l) (a, m, le_refl (disagreement row a)) in
          omega (arith, lt_of_not-le fewer)

  none_first : ((a : List ℕ) → Model n (clauses rules) a → ⊥) → (d : ℕ) → d ≤ max_limit → FindsNone n rules row d
  none_first g d h = beyond d h (λ r. g r.0 r.1)

  first_none : ((d : ℕ) → d ≤ total_weight row → FindsNone n rules row d) → (a : List ℕ) → Model n (clauses rules) a → ⊥
  first_none g a m = none_beyond (total_weight row) few (g (total_weight row) (le_refl (total_weight row))) (a, m, disagreement-most row a)

  pub nearest_is_first : (reply : Reply) → reply ≡ found (nearest n rules row) → CountsUp n rules row reply
  nearest_is_first reply e =
      let never : reply ≡ found None → (d : ℕ) → d ≤ max_limit → FindsNone n rules row d =
      λ f. none_first ((nearest_none n rules row).0 (found_none (nearest n rules row) (sym e ∙ f))) in
      record {
        count = λ k. (
          λ f. nearest_first k ((nearest-some n rules row k).0 (found_some (nearest n rules row) k (sym e ∙ f))),
          λ f. e ∙ ap found ((nearest-some n rules row k).1 (first_nearest_lem k f)),
        );
        nothing = (
          λ f d h. never f d (omega (arith, few)),
          λ f. e ∙ ap found ((nearest_none n rules row).1 (first_none f)),
        );
        never = never;
      }
