-- What trying a state promises: the answer of the walk, or of any search that forks, from it, in the lent assignment, or nothing, with an earlier state in it again.
use Rattle.std.specs.Prelude.{◌≡◌, refl, true, false, List, ℕ, ◌≤◌, ◌<◌, length, get_or, take, Option, None, Some, option_map, is_some}
use Rattle.std.proofs.Common.{sym, true≢false}
use Rattle.walk.specs.Walk.{Answer, Outcome}
use Rattle.search_state.specs.declared.result.Tried.{Tried}
use Rattle.search_state.specs.Result.{clip}
use Rattle.walk_propagation.specs.Trail.{undone}

-- the answer whose choice is a, where a number of broken wishes was found
abbrev pub answer_in : List ℕ → Option ℕ → Option Answer
answer_in a found = option_map (λ (broken : ℕ). record { choice = a; broken = broken }) found

-- where that comes to o: the answer alone, whatever the state is then
abbrev pub RootSays : Outcome → List ℕ → Tried → Type 0
RootSays o a r = (o.answer ≡ answer_in a r.found) × (r.forks ≡ clip o.forks)

-- If that is nothing, the assignment is the state `back` again, and the first k places of the trail are as they were.
abbrev pub TriedBy : Outcome → ℕ → List ℕ → List ℕ → List ℕ → List ℕ → Tried → Type 0
TriedBy o k back trail trail' a' r =
    (o.answer ≡ answer_in a' r.found) × (r.forks ≡ clip o.forks) × (r.found ≡ None → (a' ≡ back) × (take k trail' ≡ take k trail))

-- after nothing was found, the variables vs are unassigned
abbrev pub unwound : Option ℕ → List ℕ → List ℕ → List ℕ
unwound (Some broken) vs a = a
unwound None vs a = undone vs a

-- what that asks for: these are the first variables of the trail, up to a place
abbrev pub MayUnwind : Option ℕ → ℕ → List ℕ → ℕ → Type 0
MayUnwind (Some broken) to trail n = Unit {0}
MayUnwind None to trail n = (to ≤ length trail) × ((j : ℕ) → j < to → (0 < get_or trail j 0) × (get_or trail j 0 ≤ n))

-- what the test of an answer says
pub is_found : (found : Option ℕ) → is_some found ≡ true → (broken : ℕ) × (found ≡ Some broken)
is_found (Some broken) e = (broken, refl)
is_found None e = absurd (true≢false (sym e))

pub not_found : (found : Option ℕ) → is_some found ≡ false → found ≡ None
not_found (Some broken) e = absurd (true≢false e)
not_found None e = refl
