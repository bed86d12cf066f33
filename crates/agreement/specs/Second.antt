-- The second route on admitted input, call by call: each is refused only for want of room, and plain search is asked for the rewritten rules.
use Rattle.std.specs.Prelude.{List, ℕ, ℤ}
use Rattle.formula.specs.Formula.{clauses}
use Rattle.refusal.specs.Reply.{Reply}
use Rattle.walk.specs.Walk.{plain_walk}
use Rattle.totalizer.specs.Totalizer.{rewritten_variables, rewritten}
use Rattle.search_meaning.specs.Searches.{found, broken_by}

-- what plain search answers on the rewritten rules
abbrev pub outcome : ℕ → List ℤ → List ℕ → ℕ → Reply
outcome n rules row d = found (broken_by (plain_walk (rewritten_variables n row) (clauses (rewritten n rules row d))).answer)
