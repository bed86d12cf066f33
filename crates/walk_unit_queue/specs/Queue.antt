-- Unit propagation by occurrence lists (document 02, L10: "every search is to settle by an arrangement kept beside the list"). A clause is looked at by its number; after a variable was assigned, those clauses are that hold its literal which is false now.
use Rattle.std.specs.Prelude.{cond, List, [], ◌∷◌, ◌++◌, ℕ, zero, suc, ◌+◌, ◌-◌, ltb, ℤ, length, get_or, Option, None, Some}
use Rattle.literal.specs.Literal.{variable, value}
use Rattle.distance.specs.Distance.{disagreement}
use Rattle.walk.specs.State.{find, unassigned, satisfy, is_unassigned, is_unit, is_falsified}
use Rattle.walk_occurrences.specs.Occurrences.{arrangement, filled_clauses}

-- a state on its way: the values, and the variables whose clauses are still to be looked at, that which was assigned first at the front
pub record Pending : Type 0 where
  pub values : List ℕ
  pub queue : List ℕ

-- what follows a step, unless that was a dead end
abbrev pub and_then : {A : Type 0} → Option Pending → (Pending → Option A) → Option A
and_then None next = None
and_then (Some p) next = next p

-- A literal is made to hold, and its variable put into the queue; with more than d broken wishes it is a dead end.
abbrev pub make_hold : List ℕ → ℕ → Pending → Option ℤ → Option Pending
make_hold row d p None = Some p
make_hold row d p (Some x) =
    cond (ltb d (disagreement row (satisfy p.values x))) None (Some (record { values = satisfy p.values x; queue = p.queue ++ (variable x ∷ []) }))

-- A clause is looked at: where it is falsified it is a dead end, and where it is unit its literal is made to hold.
abbrev pub look : List ℕ → ℕ → Pending → List ℤ → Option Pending
look row d p c = cond (is_falsified p.values c) None (cond (is_unit p.values c) (make_hold row d p (find (is_unassigned p.values) c)) (Some p))

-- clauses by their numbers, which are from 1, one after the other
abbrev pub look_at : List (List ℤ) → List ℕ → ℕ → Pending → List ℕ → Option Pending
look_at f row d p [] = Some p
look_at f row d p (k ∷ ks) = and_then (look row d p (get_or f (k - 1) [])) (λ (q : Pending). look_at f row d q ks)

-- the clauses that hold the literal of variable v which is false, by the arrangement
abbrev pub false_in : List (List ℤ) → List ℕ → ℕ → List ℕ
false_in f a v = (arrangement f).holding v (1 - value a v)

-- The first variable is taken from the queue and its clauses are looked at; then comes the rest.
abbrev pub take_first : (Pending → Option (List ℕ)) → List (List ℤ) → List ℕ → ℕ → List ℕ → List ℕ → Option (List ℕ)
take_first rest f row d a [] = Some a
take_first rest f row d a (v ∷ vs) = and_then (look_at f row d (record { values = a; queue = vs }) (false_in f a v)) rest

-- the queue, until it is empty, of which at most j variables are taken
abbrev pub drain_by : ℕ → List (List ℤ) → List ℕ → ℕ → Pending → Option (List ℕ)
drain_by zero f row d p = Some p.values
drain_by (suc j) f row d p = take_first (drain_by j f row d) f row d p.values p.queue

-- A variable comes into the queue when it is assigned, so that no more are taken from it than are there or unassigned.
abbrev pub drain : List (List ℤ) → List ℕ → ℕ → Pending → Option (List ℕ)
drain f row d p = drain_by (length p.queue + unassigned p.values) f row d p

-- from a state in which only clauses of the queue's variables can ask for anything, as after a fork
abbrev pub follow : List (List ℤ) → List ℕ → ℕ → Pending → Option (List ℕ)
follow f row d p = cond (ltb d (disagreement row p.values)) None (drain f row d p)

-- Settling by the arrangement, from any state: each clause is looked at once, and then the queue is followed. It comes to a dead end (none) or to the settled state. The clauses with literals, each of which stands under some literal, are named in a list of their own, so that each is looked at once.
abbrev pub settle : List (List ℤ) → List ℕ → ℕ → List ℕ → Option (List ℕ)
settle f row d a =
    cond (ltb d (disagreement row a)) None (and_then (look_at f row d (record { values = a; queue = [] }) (filled_clauses f ++ (arrangement f).empty)) (drain f row d))
