-- What a group of the totalizer leaves behind, once its clauses are written.
use Rattle.std.specs.Prelude.{◌≡◌, List, ℕ, ◌+◌, ◌≤◌, ℤ, pos, get_or}
use Rattle.literal.specs.Literal.{variable}
use Rattle.limits.specs.Limits.{max_variables}
use Rattle.rule_list_soundness.specs.Flat.{flat}
use Rattle.writing.specs.Wrote.{Wrote}
use Rattle.totalizer.specs.Totalizer.{tree, added, output, totalizer}
use Rattle.totalizer_adder.specs.declared.clauses.Adder.{Adder}
use Rattle.totalizer_adder.specs.declared.outputs.Outputs.TheVariants.{Counters}
use Rattle.totalizer_adder.specs.Adder.{outputs, clauses as adding}
use Rattle.totalizer_groups.specs.declared.Group.{Group}

-- every leaf is a literal of a variable within the limit
abbrev pub LeavesFit : List ℤ → Type 0
LeavesFit leaves = (i : ℕ) → variable (get_or leaves i (pos 0)) ≤ max_variables

-- over a list from place at on, the clauses of the group of these leaves, its variables numbered after n
pub record Written (n : ℕ) (leaves before : List ℤ) (at : ℕ) (after : List ℤ) (g : Group) : Type 0 where
  pub clauses : Wrote (flat (totalizer n (tree leaves))) before at after g.at
  pub last : g.last ≡ n + added (tree leaves)
  pub literals : outputs g.outputs ≡ output n (tree leaves)

-- two parts as the adder takes them: the group's own variables come after both
abbrev pub joined : Group → ℕ → Group → ℕ → Adder
joined left p right q =
    record { left = left.outputs; p = p; right = right.outputs; q = q; base = right.last }

-- after both parts, the own clauses of the group that has them
pub record Joined (left : Group) (p : ℕ) (right : Group) (q : ℕ) (before after : List ℤ) (g : Group) : Type 0 where
  pub own : Wrote (flat (adding (joined left p right q))) before right.at after g.at
  pub last : g.last ≡ right.last + (p + q)
  pub literals : g.outputs ≡ Counters right.last
