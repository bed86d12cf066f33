-- The clauses of one group, in the terms of the totalizer's definitions.
use Rattle.std.specs.Prelude.{List, ◌++◌, ℕ, suc, ◌+◌, ◌≤◌, ℤ, pos}
use Rattle.literal.specs.Literal.{variable}
use Rattle.limits.specs.Limits.{max_variables}
use Rattle.totalizer.specs.Totalizer.{up, down, below, adder}
use Rattle.totalizer_adder.specs.declared.clauses.Adder.{Adder}
use Rattle.totalizer_adder.specs.declared.outputs.Outputs.{Outputs}
use Rattle.totalizer_adder.specs.declared.outputs.Outputs.TheVariants.{Leaf, Counters}

-- output k of a group: "a group of one leaf is that entry"; else its variables stand after a base
abbrev pub outputs : Outputs → ℕ → ℤ
outputs (Leaf x) k = x
outputs (Counters base) k = pos (base + k)

-- the highest variable of the outputs 1 to k
abbrev pub reach : Outputs → ℕ → ℕ
reach (Leaf x) k = variable x
reach (Counters base) k = base + k

-- all of a group's literals are of variables within the limit
pub record Small (g : Adder) : Type 0 where
  pub left : reach g.left g.p ≤ max_variables
  pub right : reach g.right g.q ≤ max_variables
  pub own : g.base + (g.p + g.q) ≤ max_variables

-- the clause up and the clause down for i and j, both, and those for one i
abbrev pub up_clauses : Adder → ℕ → ℕ → List (List ℤ)
up_clauses g i j = up (outputs g.left) (outputs g.right) (outputs (Counters g.base)) i j

abbrev pub down_clauses : Adder → ℕ → ℕ → List (List ℤ)
down_clauses g i j = down (outputs g.left) g.p (outputs g.right) g.q (outputs (Counters g.base)) i j

abbrev pub pair : Adder → ℕ → ℕ → List (List ℤ)
pair g i j = up_clauses g i j ++ down_clauses g i j

abbrev pub row : Adder → ℕ → List (List ℤ)
row g i = below (suc g.q) (pair g i)

-- all clauses of the group
abbrev pub clauses : Adder → List (List ℤ)
clauses g = adder (outputs g.left) g.p (outputs g.right) g.q (outputs (Counters g.base))
