-- "The same terminal for the same wishes" (document 02, L5), said of the call.
use Rattle.std.specs.Prelude.{◌≡◌, ◌↔◌, List, ℕ, ℤ, length, Option, None, option_map}
use Rattle.std.proofs.Common.{sym, ap, ◌∙◌}
use Rattle.formula.specs.Formula.{clauses}
use Rattle.distance.specs.Distance.{disagreement, nearest}
use Rattle.choices.specs.Choices.{Model}
use Rattle.choices.proofs.Order.{first_count, twins}
use Rattle.refusal_causes.specs.Lent.{refusal_of}
use Rattle.search_meaning.specs.Searches.{found, with_broken, choice_after, lent_to_search, nearest_reply, nearest_choice}

-- Two rule lists that the same choices meet, however they are written: where neither is refused, nearest replies the same and leaves the same bytes.
module _ (n : ℕ) (rules other : List ℤ) (row choice : List ℕ) (same : (a : List ℕ) → Model n (clauses rules) a ↔ Model n (clauses other) a)
    (taken : refusal_of (lent_to_search n rules row 0 (length choice)) ≡ None) (other-taken : refusal_of (lent_to_search n other row 0 (length choice)) ≡ None) where
  pub same_reply : nearest_reply n rules row (length choice) ≡ nearest_reply n other row (length choice)
  same_reply =
      let count : nearest n rules row ≡ nearest n other row
      = sym (first_count n rules row) ∙ ap (option_map (disagreement row)) (twins n row rules other same) ∙ first_count n other row in
      rw (taken, other-taken) (ap found count)

  pub same_bytes : nearest_choice n rules row choice ≡ nearest_choice n other row choice
  same_bytes = rw (taken, other-taken) (ap (λ (o : Option (List ℕ)). choice_after None (with_broken row o) n choice) (twins n row rules other same))
