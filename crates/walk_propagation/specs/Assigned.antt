-- What assigning a variable does to a state of the search.
use Rattle.std.specs.Prelude.{◌≡◌, List, ℕ, suc, ◌+◌, ◌≤◌, ◌<◌, set}
use Rattle.std.proofs.Common.{arith}
use Rattle.literal.specs.Literal.{value}
use Rattle.wish.specs.Wish.{cost}
use Rattle.walk.proofs.Assignment.{assign-fewer}
use Rattle.walk.specs.State.{unassigned, assign}
use Rattle.walk_tally.specs.declared.Tally.{Tally}
use Rattle.walk_propagation.specs.Searching.{Searching, assigned, not_all}
use Rattle.walk_propagation.specs.Trail.{Grown, grown_assigned}

-- the variable v takes the value b, from the state a with its trail and tally t to a', trail' and t': "a running tally of settled settings and broken wishes is updated by each settling" (document 01, step 1)
pub record AssignedTo (row : List ℕ) (v b : ℕ) (t : Tally) (a trail : List ℕ) (t' : Tally) (a' trail' : List ℕ) : Type 0 where
  pub settled : t'.settled ≡ t.settled + 1
  pub broken : t'.broken ≡ t.broken + cost (value row v) b
  pub values : a' ≡ assign a v b
  pub order : trail' ≡ set trail t.settled v

-- the variable was unassigned
module _ {n : ℕ} {row a trail : List ℕ} {t t' : Tally} {a' trail' : List ℕ} {v b : ℕ} (told : AssignedTo row v b t a trail t' a' trail')
    (h : Searching n row a trail t.settled t.broken) (low : 0 < v) (high : v ≤ n) (free : value a v ≡ 2) (bit : b < 2) where
  pub assigned_searching : Searching n row a' trail' t'.settled t'.broken
  assigned_searching = rw (told.values, told.order, told.settled, told.broken) (assigned n row a trail t.settled t.broken h v b low high free bit)

  pub assigned_grown : Grown t.settled a trail t'.settled a' trail'
  assigned_grown =
      let room = not_all n row a trail t.settled t.broken h v b low high free bit in
      rw (told.values, told.order, told.settled) (grown_assigned t.settled a trail v b (omega (arith, room, h.long)) free)

  pub assigned_fewer : suc (unassigned a') ≡ unassigned a
  assigned_fewer = rw told.values (assign-fewer h.state v b low high free bit)
