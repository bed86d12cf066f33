-- What the three searches of document 01 are lent and reply ("The wish search"), and the bytes that they leave in the lent choice.
use Rattle.std.specs.Prelude.{List, ◌++◌, ℕ, ℤ, length, drop, Option, None, Some}
use Rattle.formula.specs.Formula.{clauses}
use Rattle.distance.specs.Distance.{disagreement, nearest, first_nearest}
use Rattle.refusal.specs.declared.Refusal.{Refusal}
use Rattle.refusal.specs.Reply.{Reply, answering, unless}
use Rattle.refusal_causes.specs.Lent.{Lent, with_room, plain_problem, wished_problem, refusal_of}
use Rattle.walk.specs.Walk.{Answer, walk, plain_walk}

-- found, with the number of broken wishes, or none
abbrev pub found : Option ℕ → Reply
found None = answering 0 0 0 0
found (Some broken) = answering 1 broken 0 0

abbrev pub broken_by : Option Answer → Option ℕ
broken_by None = None
broken_by (Some x) = Some x.broken

-- a choice, if there is one, with the number of wishes that it breaks
abbrev pub with_broken : List ℕ → Option (List ℕ) → Option Answer
with_broken row None = None
with_broken row (Some a) = Some (record { choice = a; broken = disagreement row a })

-- "The choice that a search writes needs n bytes": a choice that is found stands in the first n bytes; "None" and a refusal leave the choice unchanged, and "on success bytes past the needed length stay"
abbrev pub choice_after : Option Refusal → Option Answer → ℕ → List ℕ → List ℕ
choice_after (Some r) answer n choice = choice
choice_after None None n choice = choice
choice_after None (Some x) n choice = x.choice ++ drop n choice

-- The wish search: n, the rules, the row, the limit and the choice's room.
abbrev pub lent_to_search : ℕ → List ℤ → List ℕ → ℕ → ℕ → Lent
lent_to_search n rules row d room = with_room n room (wished_problem n rules row d)

abbrev pub search_reply : ℕ → List ℤ → List ℕ → ℕ → ℕ → Reply
search_reply n rules row d room = unless (refusal_of (lent_to_search n rules row d room)) (found (broken_by (walk n (clauses rules) row d).answer))

abbrev pub search_choice : ℕ → List ℤ → List ℕ → ℕ → List ℕ → List ℕ
search_choice n rules row d choice =
    choice_after (refusal_of (lent_to_search n rules row d (length choice))) (walk n (clauses rules) row d).answer n choice

-- "Plain search is this with no wishes and d = 0, up to the file's limits."
abbrev pub lent_to_plain : ℕ → List ℤ → ℕ → Lent
lent_to_plain n rules room = with_room n room (plain_problem n rules)

abbrev pub plain_reply : ℕ → List ℤ → ℕ → Reply
plain_reply n rules room = unless (refusal_of (lent_to_plain n rules room)) (found (broken_by (plain_walk n (clauses rules)).answer))

abbrev pub plain_choice : ℕ → List ℤ → List ℕ → List ℕ
plain_choice n rules choice = choice_after (refusal_of (lent_to_plain n rules (length choice))) (plain_walk n (clauses rules)).answer n choice

-- "Nearest gives the least number of broken wishes with a choice, or none when the rules can't be met; it takes no limit." "Nearest now returns the first nearest choice" (document 02, L5).
abbrev pub nearest_reply : ℕ → List ℤ → List ℕ → ℕ → Reply
nearest_reply n rules row room = unless (refusal_of (lent_to_search n rules row 0 room)) (found (nearest n rules row))

abbrev pub nearest_answer : ℕ → List ℤ → List ℕ → Option Answer
nearest_answer n rules row = with_broken row (first_nearest n rules row)

abbrev pub nearest_choice : ℕ → List ℤ → List ℕ → List ℕ → List ℕ
nearest_choice n rules row choice =
    choice_after (refusal_of (lent_to_search n rules row 0 (length choice))) (nearest_answer n rules row) n choice
