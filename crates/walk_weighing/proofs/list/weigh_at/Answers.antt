-- `walk_weighing::list::weigh_at` meets its contract: a satisfied clause changes nothing but its witness, and an open one is weighed or makes a dead end.
use mathlib.Core.Path.{◌≡◌, sym, ap, subst, ◌∙◌}
use mathlib.Core.Bool.{Bool, true, false, ◌&&◌, and-false}
use mathlib.Core.List.{List, []}
use Prim.Native.Nat.{ℕ, ◌-◌, ◌≤◌, ◌<◌}
use native.Mathlib.Omega.{arith}
use lib.IntN.{ℤ}
use lib.ListN.{length, get_or, take, drop}
use Rattle.formula.specs.Formula.{clauses, satisfied}
use Rattle.formula.specs.Laws.{end_inside}
use Rattle.walk_clause_standing.specs.Clause.{clause_at, clause_at_lem}
use Rattle.walk_clause_standing.specs.declared.ReadClause.{ReadClause}
use Rattle.walk_clause_standing.specs.declared.ReadClause.TheVariants.{Satisfied, Open}
use Rattle.walk_clause_standing.specs.Standing.{IsRead, HoldsAt, StandsOpen}
use Rattle.walk_occurrences.specs.Layout.{begins_of}
use Rattle.walk_occurrences.proofs.Table.{begins_inside, begins_clause}
use Rattle.walk.specs.Branching.{is_opposed}
use Rattle.walk_witnesses.specs.Laws.{held_satisfies, new_witness}
use Rattle.walk_weighing.specs.ClauseLaws.{weighed_satisfied, satisfied_unopposed}
use Rattle.walk_weighing.specs.Weights.{Weighed}
use Rattle.walk_weighing.proofs.list.weigh_at.Goals as goal

-- the clause, by its number
module _ (s : goal.In-Open) where
  abbrev rules-in-Open : List ℤ
  rules-in-Open = s.args.rules.now

  abbrev row-in-Open : List ℕ
  row-in-Open = s.args.row.now

  abbrev a-in-Open : List ℕ
  a-in-Open = s.args.assignment.now

  -- how many clauses are before it
  abbrev k-in-Open : ℕ
  k-in-Open = s.args.number.0 - 1

  less-in-Open : k-in-Open < length (clauses rules-in-Open)
  less-in-Open = omega (arith, s.requires.located.2, s.requires.located.3)

  abbrev clause-in-Open : List ℤ
  clause-in-Open = get_or (clauses rules-in-Open) k-in-Open []

  abbrev begin-in-Open : ℕ
  begin-in-Open = get_or (begins_of s.args.arrangement.now) k-in-Open 0

  begin_inside-in-Open : begin-in-Open < length rules-in-Open
  begin_inside-in-Open = begins_inside s.requires.located.0 k-in-Open less-in-Open

  abbrev same-in-Open : clause_at begin-in-Open rules-in-Open ≡ clause-in-Open
  same-in-Open = begins_clause s.requires.located.0 k-in-Open less-in-Open

  -- where it is satisfied, it makes no dead end, and weighing changes nothing
  module _ (met : satisfied a-in-Open clause-in-Open ≡ true) where
    no_dead_end-in-Open : false ≡ s.args.spent && is_opposed row-in-Open a-in-Open clause-in-Open
    no_dead_end-in-Open = sym (ap (λ (b : Bool). s.args.spent && b) (satisfied_unopposed row-in-Open a-in-Open clause-in-Open met) ∙ and-false s.args.spent)

    unchanged-in-Open : Weighed row-in-Open a-in-Open s.args.fewest clause-in-Open s.args.weights.now s.args.weights.now
    unchanged-in-Open = weighed_satisfied row-in-Open a-in-Open clause-in-Open met s.args.fewest s.args.weights.now

  -- read as open, it is the part of the list up to its end
  module _ (end count : ℕ) (h : StandsOpen a-in-Open rules-in-Open begin-in-Open end count) where
    ends_inside-in-Open : end ≤ length rules-in-Open
    ends_inside-in-Open = end_inside rules-in-Open begin-in-Open end (omega (arith, begin_inside-in-Open)) h.ends

    part-in-Open : take (end - begin-in-Open) (drop begin-in-Open rules-in-Open) ≡ clause-in-Open
    part-in-Open = clause_at_lem rules-in-Open begin-in-Open end h.ends ∙ same-in-Open

-- what was read is told of the place where the clause begins
read_as-in-Open : (c : goal.In-Open) (r : ReadClause) → c.read_clause.result ≡ r → IsRead (a-in-Open c) (rules-in-Open c) (begin-in-Open c) r
read_as-in-Open c r e =
    subst (IsRead (a-in-Open c) (rules-in-Open c) (begin-in-Open c)) e (subst (λ (i : ℕ). IsRead (a-in-Open c) (rules-in-Open c) i c.read_clause.result) c.begin_of-from.ensures c.read_clause.ensures)

module _ (c : goal.In-Open) where
  abbrev end : ℕ
  end = c.in-Open.end

  abbrev count : ℕ
  count = c.in-Open.count

  stands : StandsOpen (a-in-Open c) (rules-in-Open c) (begin-in-Open c) end count
  stands = read_as-in-Open c (Open end count) c.in-Open.is

  -- the part of the list that is read is the clause
  abbrev from : ℕ
  from = c.begin_of-from.result

  from_begin : from ≡ begin-in-Open c
  from_begin = c.begin_of-from.ensures

  read_part : take (end - from) (drop from (rules-in-Open c)) ≡ clause-in-Open c
  read_part = ap (λ (i : ℕ). take (end - i) (drop i (rules-in-Open c))) from_begin ∙ part-in-Open c end count stands

pub slice_bounds-clause-end : goal.slice_bounds-clause-end
slice_bounds-clause-end c = ends_inside-in-Open c (end c) (count c) (stands c)

-- the clause, by its number
module _ (s : goal.After-struct_known-1) where
  abbrev rules-after-struct_known-1 : List ℤ
  rules-after-struct_known-1 = s.args.rules.now

  abbrev row-after-struct_known-1 : List ℕ
  row-after-struct_known-1 = s.args.row.now

  abbrev a-after-struct_known-1 : List ℕ
  a-after-struct_known-1 = s.args.assignment.now

  -- how many clauses are before it
  abbrev k-after-struct_known-1 : ℕ
  k-after-struct_known-1 = s.args.number.0 - 1

  less-after-struct_known-1 : k-after-struct_known-1 < length (clauses rules-after-struct_known-1)
  less-after-struct_known-1 = omega (arith, s.requires.located.2, s.requires.located.3)

  abbrev clause-after-struct_known-1 : List ℤ
  clause-after-struct_known-1 = get_or (clauses rules-after-struct_known-1) k-after-struct_known-1 []

  abbrev begin-after-struct_known-1 : ℕ
  begin-after-struct_known-1 = get_or (begins_of s.args.arrangement.now) k-after-struct_known-1 0

  begin_inside-after-struct_known-1 : begin-after-struct_known-1 < length rules-after-struct_known-1
  begin_inside-after-struct_known-1 = begins_inside s.requires.located.0 k-after-struct_known-1 less-after-struct_known-1

  abbrev same-after-struct_known-1 : clause_at begin-after-struct_known-1 rules-after-struct_known-1 ≡ clause-after-struct_known-1
  same-after-struct_known-1 = begins_clause s.requires.located.0 k-after-struct_known-1 less-after-struct_known-1

  -- where it is satisfied, it makes no dead end, and weighing changes nothing
  module _ (met : satisfied a-after-struct_known-1 clause-after-struct_known-1 ≡ true) where
    no_dead_end-after-struct_known-1 : false ≡ s.args.spent && is_opposed row-after-struct_known-1 a-after-struct_known-1 clause-after-struct_known-1
    no_dead_end-after-struct_known-1 = sym (ap (λ (b : Bool). s.args.spent && b) (satisfied_unopposed row-after-struct_known-1 a-after-struct_known-1 clause-after-struct_known-1 met) ∙ and-false s.args.spent)

    unchanged-after-struct_known-1 : Weighed row-after-struct_known-1 a-after-struct_known-1 s.args.fewest clause-after-struct_known-1 s.args.weights.now s.args.weights.now
    unchanged-after-struct_known-1 = weighed_satisfied row-after-struct_known-1 a-after-struct_known-1 clause-after-struct_known-1 met s.args.fewest s.args.weights.now

  -- read as open, it is the part of the list up to its end
  module _ (end count : ℕ) (h : StandsOpen a-after-struct_known-1 rules-after-struct_known-1 begin-after-struct_known-1 end count) where
    ends_inside-after-struct_known-1 : end ≤ length rules-after-struct_known-1
    ends_inside-after-struct_known-1 = end_inside rules-after-struct_known-1 begin-after-struct_known-1 end (omega (arith, begin_inside-after-struct_known-1)) h.ends

    part-after-struct_known-1 : take (end - begin-after-struct_known-1) (drop begin-after-struct_known-1 rules-after-struct_known-1) ≡ clause-after-struct_known-1
    part-after-struct_known-1 = clause_at_lem rules-after-struct_known-1 begin-after-struct_known-1 end h.ends ∙ same-after-struct_known-1

-- what was read is told of the place where the clause begins
read_as-after-struct_known-1 : (c : goal.After-struct_known-1) (r : ReadClause) → c.read_clause.result ≡ r → IsRead (a-after-struct_known-1 c) (rules-after-struct_known-1 c) (begin-after-struct_known-1 c) r
read_as-after-struct_known-1 c r e =
    subst (IsRead (a-after-struct_known-1 c) (rules-after-struct_known-1 c) (begin-after-struct_known-1 c)) e (subst (λ (i : ℕ). IsRead (a-after-struct_known-1 c) (rules-after-struct_known-1 c) i c.read_clause.result) c.begin_of-from.ensures c.read_clause.ensures)

module _ (c : goal.After-struct_known-1) where
  abbrev at : ℕ
  at = c.in-Satisfied.at

  held : HoldsAt (a-after-struct_known-1 c) (rules-after-struct_known-1 c) (begin-after-struct_known-1 c) at
  held = read_as-after-struct_known-1 c (Satisfied at) c.in-Satisfied.is

pub returns-in-Satisfied : goal.returns-in-Satisfied
returns-in-Satisfied c =
    let satisfies = ap (satisfied (a-after-struct_known-1 c)) (sym (same-after-struct_known-1 c)) ∙ held_satisfies (rules-after-struct_known-1 c) (begin-after-struct_known-1 c) (at c) (held c).after (held c).before (begin_inside-after-struct_known-1 c) (a-after-struct_known-1 c) (held c).held in record { witness = new_witness c.requires.located.0 c.requires.located.1 (k-after-struct_known-1 c) (at c) (less-after-struct_known-1 c) (held c).after (held c).before; dead = no_dead_end-after-struct_known-1 c satisfies; weighed = λ e. unchanged-after-struct_known-1 c satisfies }
