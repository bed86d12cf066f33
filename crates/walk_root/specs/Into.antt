-- A walk whose answer goes to a lent choice.
use Rattle.std.specs.Prelude.{◌≡◌, List, ◌++◌, ℕ, drop, refl, Option, None, Some}
use Rattle.std.proofs.Common.{sym, ap, ◌∙◌}
use Rattle.walk.specs.Walk.{Answer, Outcome}
use Rattle.search_meaning.specs.Searches.{broken_by, choice_after}
use Rattle.search_state.specs.declared.result.Tried.{Tried}
use Rattle.search_state.specs.Result.{clip}
use Rattle.search_state.specs.Tried.{RootSays, answer_in}

-- r tells what the walk came to, and the choice of n bytes has its answer
pub record Reaches (o : Outcome) (n : ℕ) (before after : List ℕ) (r : Tried) : Type 0 where
  pub answered : r.found ≡ broken_by o.answer
  pub output : after ≡ choice_after None o.answer n before
  pub forks_clipped : r.forks ≡ clip o.forks

module _ (o : Outcome) (n : ℕ) (before a : List ℕ) (r : Tried) (w : RootSays o a r) where
  same : (z : Option ℕ) → broken_by (answer_in a z) ≡ z
  same None = refl
  same (Some broken) = refl

  answered : r.found ≡ broken_by o.answer
  answered = sym (ap broken_by w.0 ∙ same r.found)

  pub reaches_found : (broken : ℕ) → r.found ≡ Some broken → (after : List ℕ) → after ≡ a ++ drop n before → Reaches o n before after r
  reaches_found broken q after e =
      let there : o.answer ≡ Some (record { choice = a; broken = broken }) = w.0 ∙ ap (answer_in a) q in
      record { answered = answered; output = e ∙ sym (ap (λ (x : Option Answer). choice_after None x n before) there); forks_clipped = w.1 }

  pub reaches_nothing : r.found ≡ None → Reaches o n before before r
  reaches_nothing q =
      let none : o.answer ≡ None = w.0 ∙ ap (answer_in a) q in
      record { answered = answered; output = sym (ap (λ (x : Option Answer). choice_after None x n before) none); forks_clipped = w.1 }
