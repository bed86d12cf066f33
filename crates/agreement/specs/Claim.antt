-- Demand 3 of document 01 ("Rewriting into plain rules"), "a single claim about the completions, both whole routes and nearest, over all admitted input and every d": `Agreement n rules row` for every n, rules and row that are admitted. Its proof is `agreement` of Agreement.antt.
use Rattle.std.specs.Prelude.{◌≡◌, ◌↔◌, true, List, ℕ, ◌≤◌, ◌<◌, ℤ, take, None, Some}
use Rattle.literal.specs.Literal.{holds}
use Rattle.formula.specs.Formula.{clauses, models}
use Rattle.wish.specs.Wish.{total_weight}
use Rattle.distance.specs.Distance.{disagreement}
use Rattle.choices.specs.Choices.{Choice, Model}
use Rattle.refusal.specs.Reply.{Reply}
use Rattle.limits.specs.Limits.{max_limit}
use Rattle.totalizer.specs.Totalizer.{leaves, tree, rewritten_variables, rewritten, AllCount}
use Rattle.search_meaning.specs.Searches.{found}
use Rattle.totalizer_encoding.specs.Rewrite.{rewrite_reply}
use Rattle.agreement_second_route.specs.Routes.{first_route, Buffers, second_route, nearest_route, Answered, Passes}

-- "admitted are an n, a rule list and a wish row that rewriting, with a d from 0 to 64, does not refuse except with 15"
pub record Admissible (n : ℕ) (rules : List ℤ) (row : List ℕ) : Type 0 where
  pub d : ℕ
  pub limited : d ≤ max_limit
  pub room : ℕ
  pub passes : Passes (rewrite_reply n rules row d room)

-- The two routes agree: both find, the first with at most d broken wishes (plain search has none to break), or both answer none.
pub data Agree (d : ℕ) (first second : Reply) : Type 0 where
  both_find : (broken : ℕ) → broken ≤ d → first ≡ found (Some broken) → second ≡ found (Some 0) → Agree d first second
  both_none : first ≡ found None → second ≡ found None → Agree d first second

module _ (n : ℕ) (rules : List ℤ) (row : List ℕ) where
  -- "A completion of a choice gives every setting of the result a value, and settings 1 to n the values of the choice"
  pub record Completion (a e : List ℕ) : Type 0 where
    pub whole : Choice (rewritten_variables n row) e
    pub same : take n e ≡ a

  -- a completion "that meets every rewritten rule"
  pub record Completing (d : ℕ) (a e : List ℕ) : Type 0 where
    pub completion : Completion a e
    pub meets : models e (clauses (rewritten n rules row d)) ≡ true

  -- The completions at a limit d.
  pub record Completions (d : ℕ) : Type 0 where
    -- a choice that meets the rules with at most d broken wishes has one, and no other
    pub one : (a : List ℕ) → Model n (clauses rules) a → disagreement row a ≤ d → (e : List ℕ) × Completing d a e × ((o : List ℕ) → Completing d a o → o ≡ e)
    -- no other choice has one
    pub given : (a e : List ℕ) → Completing d a e → Model n (clauses rules) a × (disagreement row a ≤ d)
    -- "The one completion that meets every rewritten rule has r(k) of a group on exactly when at least k of that group's leaves hold."
    pub counts : (a e : List ℕ) → Completing d a e → AllCount (holds e) n (tree (leaves row))
    -- "where nothing was added it is the choice itself"
    pub alone : (a e : List ℕ) → Completion a e → rewritten_variables n row ≡ n → e ≡ a

  -- "no call named here is refused except with 15": the reply of a route is the refusal of the first of its calls that is refused
  pub record Unrefused (d : ℕ) : Type 0 where
    pub first : (choice : List ℕ) → Passes (first_route n rules row d choice)
    pub second : (b : Buffers) → Passes (second_route n rules row d b)
    pub nearest : (choice : List ℕ) → Passes (nearest_route n rules row choice)
    -- and with room enough no call is refused at all
    pub room : (b : Buffers) × Answered (first_route n rules row d b.choice) × Answered (second_route n rules row d b) × Answered (nearest_route n rules row b.choice)

  -- "answers are compared where none of the calls that give them is refused": the second route finds at d; it answers none there.
  -- Neither holds for want of an answer: `room` of `Unrefused` has, for each d up to 64, buffers with which the second route is answered.
  abbrev pub Finds : ℕ → Type 0
  Finds d = (b : Buffers) → Answered (second_route n rules row d b) → second_route n rules row d b ≡ found (Some 0)

  abbrev pub FindsNone : ℕ → Type 0
  FindsNone d = (b : Buffers) → Answered (second_route n rules row d b) → second_route n rules row d b ≡ found None

  -- d is counted up from 0 to what all wishes weigh: k is the first d at which the second route finds
  pub record First (k : ℕ) : Type 0 where
    pub limited : k ≤ total_weight row
    pub finds : Finds k
    pub before : (d : ℕ) → d < k → FindsNone d

  -- that first d is the count that nearest returns; the second route finds at no such d exactly when nearest says "none", and then at no d up to 64
  pub record CountsUp (reply : Reply) : Type 0 where
    pub count : (k : ℕ) → (reply ≡ found (Some k)) ↔ First k
    pub nothing : (reply ≡ found None) ↔ ((d : ℕ) → d ≤ total_weight row → FindsNone d)
    pub never : reply ≡ found None → (d : ℕ) → d ≤ max_limit → FindsNone d

  -- the claim
  pub record Agreement : Type 0 where
    pub completions : (d : ℕ) → d ≤ max_limit → Completions d
    pub unrefused : (d : ℕ) → d ≤ max_limit → Unrefused d
    pub routes : (d : ℕ) → d ≤ max_limit → (choice : List ℕ) (b : Buffers)
        → Answered (first_route n rules row d choice) → Answered (second_route n rules row d b)
        → Agree d (first_route n rules row d choice) (second_route n rules row d b)
    pub nearest : (choice : List ℕ) → Answered (nearest_route n rules row choice) → CountsUp (nearest_route n rules row choice)
