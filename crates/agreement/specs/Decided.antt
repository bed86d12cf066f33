-- What the answers of both routes say: whether some choice meets the rules with at most d broken wishes.
use Rattle.std.specs.Prelude.{◌≡◌, List, ℕ, ◌≤◌, ℤ, None, Some}
use Rattle.formula.specs.Formula.{clauses}
use Rattle.distance.specs.Distance.{disagreement}
use Rattle.choices.specs.Choices.{Model}
use Rattle.refusal.specs.Reply.{Reply}
use Rattle.search_meaning.specs.Searches.{found}

-- some choice meets the rules with at most d broken wishes
abbrev pub Reached : ℕ → List ℤ → List ℕ → ℕ → Type 0
Reached n rules row d = (a : List ℕ) × Model n (clauses rules) a × (disagreement row a ≤ d)

-- a reply that says whether a statement holds, with a count of at most so many wishes where it does
pub data Decided (Holds : Type 0) (most : ℕ) (reply : Reply) : Type 0 where
  yes : (broken : ℕ) → broken ≤ most → reply ≡ found (Some broken) → Holds → Decided Holds most reply
  no : reply ≡ found None → (Holds → ⊥) → Decided Holds most reply
