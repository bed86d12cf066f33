-- What assigning a variable asks and leaves, in the assignment and the running tally (document 01, step 1: "a running tally of settled settings and broken wishes is updated by each settling").
use Rattle.std.specs.Prelude.{◌≡◌, List, ℕ, ◌<◌, ◌^◌, ◌+◌, length, set}
use Rattle.walk_tally.specs.declared.Tally.{Tally}

-- there is a place i in the assignment a, and one can be added to the settled and the cost to the broken
abbrev pub MayAssign : ℕ → ℕ → List ℕ → Tally → Type 0
MayAssign i cost a t = (i < length a) × (t.settled + 1 < 2 ^ 64) × (t.broken + cost < 2 ^ 64)

-- from a and its tally t to a' and t': one more is settled and the cost is broken, and the place i has the value
abbrev pub HasAssigned : ℕ → ℕ → ℕ → List ℕ → Tally → List ℕ → Tally → Type 0
HasAssigned i bit cost a t a' t' = (t'.settled ≡ t.settled + 1) × (t'.broken ≡ t.broken + cost) × (a' ≡ set a i bit)
