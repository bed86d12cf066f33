-- Narrowing a state for a limit d: unit propagation, disjoint cores, and the wishes that every model within d keeps, until nothing more follows. It comes to a dead end (none), where no model within d extends the state, or to a state that every such model extends too.
use Rattle.std.specs.Prelude.{Bool, cond, ◌&&◌, List, ℕ, zero, suc, ◌+◌, eqb, ltb, ℤ, length, Option, None, Some}
use Rattle.literal.specs.Literal.{value}
use Rattle.wish.specs.Wish.{weight}
use Rattle.walk.specs.State.{unassigned}
use Rattle.walk.specs.Propagation.{propagate}
use Rattle.walk.specs.Walk.{is_dead_end}
use Rattle.nearest_cores.specs.Cores.{Scan, is_left, keep_wish, scan}

-- A wish in no core must be kept if breaking it would take more than d: its weight comes on top of the bound. A free variable weighs nothing, so this is false of it wherever the bound is within d.
abbrev pub must_keep : List ℕ → ℕ → List ℕ → ℕ → ℕ → Bool
must_keep row d taken bound v = is_left taken v && ltb d (bound + weight (value row v))

abbrev pub keep_if : List ℕ → ℕ → List ℕ → ℕ → List ℕ → ℕ → List ℕ
keep_if row d taken bound a v = cond (must_keep row d taken bound v) (keep_wish row a v) a

-- of the variables v, v + 1, .., k of them, and of all
abbrev pub keep_from : ℕ → List ℕ → ℕ → List ℕ → ℕ → List ℕ → ℕ → List ℕ
keep_from zero row d taken bound a v = a
keep_from (suc k) row d taken bound a v = keep_from k row d taken bound (keep_if row d taken bound a v) (suc v)

abbrev pub keep_all : List ℕ → ℕ → List ℕ → ℕ → List ℕ → List ℕ
keep_all row d taken bound b = keep_from (length b) row d taken bound b 1

-- where a wish had to be kept, which makes the state a of b and is told by the number of unassigned variables, it is narrowed on; else b is the narrowed state
abbrev pub unless_kept : (List ℕ → Option (List ℕ)) → List ℕ → List ℕ → Option (List ℕ)
unless_kept rest b a = cond (eqb (unassigned a) (unassigned b)) (Some b) (rest a)

-- where every model that extends the state breaks more than d, it is a dead end
abbrev pub by_cores : (List ℕ → Option (List ℕ)) → List ℕ → ℕ → List ℕ → Scan → Option (List ℕ)
by_cores rest row d b s = cond (ltb d s.bound) None (unless_kept rest b (keep_all row d s.taken s.bound b))

-- one round, of a state to which unit propagation adds nothing
abbrev pub narrowed : (List ℕ → Option (List ℕ)) → List (List ℤ) → List ℕ → ℕ → List ℕ → Option (List ℕ)
narrowed rest f row d b = cond (is_dead_end f row d b) None (by_cores rest row d b (scan f row b))

-- at most k rounds
abbrev pub narrow_by : ℕ → List (List ℤ) → List ℕ → ℕ → List ℕ → Option (List ℕ)
narrow_by zero f row d a = None
narrow_by (suc k) f row d a = narrowed (narrow_by k f row d) f row d (propagate f a)

-- Each round but the last assigns a variable, so that there are no more rounds than unassigned variables and one.
abbrev pub narrow : List (List ℤ) → List ℕ → ℕ → List ℕ → Option (List ℕ)
narrow f row d a = narrow_by (suc (unassigned a)) f row d a
