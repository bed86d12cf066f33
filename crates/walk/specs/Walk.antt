-- The wish search of document 01, as one definition that runs.
use Rattle.std.specs.Prelude.{Bool, cond, ◌&&◌, ◌||◌, List, [], ◌∷◌, ℕ, zero, suc, ◌+◌, ◌-◌, eqb, ltb, ℤ, replicate, Option, None, Some}
use Rattle.literal.specs.Literal.{value}
use Rattle.formula.specs.Formula.{any, models}
use Rattle.wish.specs.Wish.{free_byte, wished_value, unwished_value}
use Rattle.distance.specs.Distance.{disagreement}
use Rattle.walk.specs.State.{is_unset, unassigned, assign, is_falsified}
use Rattle.walk.specs.Propagation.{propagate}
use Rattle.walk.specs.Branching.{is_opposed, fewest, branching_variable}

-- a choice that was found, and the number of wishes that it breaks
pub record Answer : Type 0 where
  pub choice : List ℕ
  pub broken : ℕ

-- what a walk comes to: its answer or none, and how many forks it made
pub record Outcome : Type 0 where
  pub answer : Option Answer
  pub forks : ℕ

abbrev pub dead_end : Outcome
dead_end = record { answer = None; forks = 0 }

-- Step 1: "An open rule with no unsettled entry, or more than d broken wishes, is a dead end."
abbrev pub is_dead_end : List (List ℤ) → List ℕ → ℕ → List ℕ → Bool
is_dead_end f row d a = any (is_falsified a) f || ltb d (disagreement row a)

-- Step 2: "Complete: unsettled settings take their wish, unwished ones off. If all rules are met, that is the answer."
abbrev pub complete_byte : ℕ → ℕ → ℕ
complete_byte w b = cond (is_unset b) (wished_value w) b

abbrev pub complete : List ℕ → List ℕ → List ℕ
complete row [] = []
complete [] (b ∷ a) = complete_byte free_byte b ∷ complete [] a
complete (w ∷ row) (b ∷ a) = complete_byte w b ∷ complete row a

abbrev pub completed : List ℕ → List ℕ → Outcome
completed row a = record { answer = Some (record { choice = complete row a; broken = disagreement row (complete row a) }); forks = 0 }

-- Step 3: "If d wishes are broken and every unsettled entry of some open rule goes against a wish, it is a dead end."
abbrev pub is_exhausted : List (List ℤ) → List ℕ → ℕ → List ℕ → Bool
is_exhausted f row d a = eqb (disagreement row a) d && any (is_opposed row a) f

-- Step 5: "Fork: against the wish first if step 4's first kind of rule existed, else on first; then the other value."
abbrev pub first_value : List ℕ → Option ℕ → ℕ → ℕ
first_value row None v = 1
first_value row (Some size) v = unwished_value (value row v)

-- the first answer of two, if there is one
abbrev pub first_answer : Option Answer → Option Answer → Option Answer
first_answer (Some x) later = Some x
first_answer None later = later

-- The second state is tried only where the first gave no answer, and only then do its forks count.
abbrev pub forks_after : Option Answer → Outcome → ℕ
forks_after (Some x) second = 0
forks_after None second = second.forks

abbrev pub either_of : Outcome → Outcome → Outcome
either_of first second = record { answer = first_answer first.answer second.answer; forks = suc (first.forks + forks_after first.answer second) }

-- "a fork tries two states"; `try` is the walk from each
abbrev pub fork : (List ℕ → Outcome) → List ℕ → ℕ → ℕ → Outcome
fork try a v b = either_of (try (assign a v b)) (try (assign a v (1 - b)))

-- the fork on a branching variable, which exists (`branching_variable_lem` of Theorems) wherever it is asked for
abbrev pub fork_on : (List ℕ → Outcome) → List ℕ → List ℕ → Option ℕ → Option ℕ → Outcome
fork_on try row a size None = dead_end
fork_on try row a size (Some v) = fork try a v (first_value row size v)

-- steps 1 to 5 at a state to which unit propagation adds nothing
abbrev pub decide : List (List ℤ) → List ℕ → ℕ → (List ℕ → Outcome) → List ℕ → Outcome
decide f row d try a =
    cond (is_dead_end f row d a)
    dead_end
    (cond (models (complete row a) f)
    (completed row a)
    (cond (is_exhausted f row d a)
    dead_end
    (fork_on try row a (fewest row a f) (branching_variable row a f))))

-- "Trying a settled state may call for a fork": the walk from a state, less than k forks deep
abbrev pub walk_by : ℕ → List (List ℤ) → List ℕ → ℕ → List ℕ → Outcome
walk_by zero f row d a = dead_end
walk_by (suc k) f row d a = decide f row d (walk_by k f row d) (propagate f a)

-- A fork assigns a variable, so that it goes no more forks deep than there are unassigned variables.
abbrev pub walk_from : List (List ℤ) → List ℕ → ℕ → List ℕ → Outcome
walk_from f row d a = walk_by (suc (unassigned a)) f row d a

-- "a choice meeting all rules with at most d broken wishes, or none"
abbrev pub walk : ℕ → List (List ℤ) → List ℕ → ℕ → Outcome
walk n f row d = walk_from f row d (replicate n 2)

-- "Plain search is this with no wishes and d = 0"
abbrev pub plain_walk : ℕ → List (List ℤ) → Outcome
plain_walk n f = walk n f (replicate n free_byte) 0
