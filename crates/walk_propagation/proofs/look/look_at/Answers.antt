-- `walk_propagation::look::look_at` meets its contract: by what the clause asks for (`Looking`).
use mathlib.Core.Path.{◌≡◌, sym, ap, ◌∙◌}
use mathlib.Core.List.{List, []}
use Prim.Native.Nat.{ℕ, ◌-◌}
use native.Mathlib.Omega.{arith}
use lib.IntN.{ℤ}
use lib.ListN.{get_or}
use Rattle.literal.specs.Laws.{as_read}
use Rattle.literal.specs.Literal.{variable, wanted}
use Rattle.formula.specs.Formula.{clauses}
use Rattle.walk_clause_standing.specs.Clause.{clause_at}
use Rattle.walk_propagation.specs.Assigned.{AssignedTo}
use Rattle.walk_propagation.specs.Looking as laws
use Rattle.walk_propagation.specs.Unit.{asks}
use Rattle.walk_propagation.specs.declared.unit.Unit.TheVariants.{Literal}
use Rattle.walk_propagation.proofs.look.look_at.Goals as goal

-- what the clause asks for
abbrev clause-after-assign_to-arg-in-Literal-1 : goal.After-assign_to-arg-in-Literal-1 → List ℤ
clause-after-assign_to-arg-in-Literal-1 c = get_or (clauses c.args.rules.now) (c.args.number.0 - 1) []

said-after-assign_to-arg-in-Literal-1 : (c : goal.After-assign_to-arg-in-Literal-1) → c.unit_at.result ≡ asks c.args.a.now (clause-after-assign_to-arg-in-Literal-1 c)
said-after-assign_to-arg-in-Literal-1 c =
    c.unit_at.ensures
    ∙ ap (λ (k : ℕ). asks c.args.a.now (clause_at k c.args.rules.now)) c.begin_of-from.ensures
    ∙ ap (asks c.args.a.now) (c.requires.looking.located.clause c.args.number.0 c.requires.number_nonzero.0 c.requires.number_nonzero.1)

-- its literal
abbrev x-after-assign_to-arg-in-Literal-1 : goal.After-assign_to-arg-in-Literal-1 → ℤ
x-after-assign_to-arg-in-Literal-1 c = c.in-Literal.x

unit-after-assign_to-arg-in-Literal-1 : (c : goal.After-assign_to-arg-in-Literal-1) → asks c.args.a.now (clause-after-assign_to-arg-in-Literal-1 c) ≡ Literal (x-after-assign_to-arg-in-Literal-1 c)
unit-after-assign_to-arg-in-Literal-1 c = sym (said-after-assign_to-arg-in-Literal-1 c) ∙ c.in-Literal.is

named-after-assign_to-arg-in-Literal-1 : (c : goal.After-assign_to-arg-in-Literal-1) → c.variable_of-v.result.0 ≡ variable (x-after-assign_to-arg-in-Literal-1 c)
named-after-assign_to-arg-in-Literal-1 c = c.variable_of-v.ensures ∙ ap variable (as_read (x-after-assign_to-arg-in-Literal-1 c) c.in-Literal.known_told-1-own.given.0.1)

pub assign_to-with-requires : goal.assign_to-with-requires
assign_to-with-requires c =
    let w = laws.inside c.requires.looking c.args.d c.args.number.0 c.requires.number_nonzero.0 c.requires.number_nonzero.1 (x-after-assign_to-arg-in-Literal-1 c) (unit-after-assign_to-arg-in-Literal-1 c) in
    let r = laws.room c.requires.looking c.args.d c.args.number.0 c.requires.number_nonzero.0 c.requires.number_nonzero.1 (x-after-assign_to-arg-in-Literal-1 c) (unit-after-assign_to-arg-in-Literal-1 c) in
    let e = named-after-assign_to-arg-in-Literal-1 c in record { v_nonzero = (omega (arith, e, w), omega (arith, e, w), omega (arith, e, w, c.requires.looking.few)); settled_in_bounds = (omega (arith, r, c.requires.looking.searching.long), omega (arith, r, c.requires.looking.few), omega (arith, c.requires.looking.searching.few, r, c.requires.looking.few)) }

-- what the clause asks for
abbrev clause-then-d-with : goal.Then-d-with → List ℤ
clause-then-d-with c = get_or (clauses c.args.rules.now) (c.args.number.0 - 1) []

said-then-d-with : (c : goal.Then-d-with) → c.unit_at.result ≡ asks c.args.a.now (clause-then-d-with c)
said-then-d-with c =
    c.unit_at.ensures
    ∙ ap (λ (k : ℕ). asks c.args.a.now (clause_at k c.args.rules.now)) c.begin_of-from.ensures
    ∙ ap (asks c.args.a.now) (c.requires.looking.located.clause c.args.number.0 c.requires.number_nonzero.0 c.requires.number_nonzero.1)

-- its literal
abbrev x-then-d-with : goal.Then-d-with → ℤ
x-then-d-with c = c.in-Literal.x

unit-then-d-with : (c : goal.Then-d-with) → asks c.args.a.now (clause-then-d-with c) ≡ Literal (x-then-d-with c)
unit-then-d-with c = sym (said-then-d-with c) ∙ c.in-Literal.is

named-then-d-with : (c : goal.Then-d-with) → c.variable_of-v.result.0 ≡ variable (x-then-d-with c)
named-then-d-with c = c.variable_of-v.ensures ∙ ap variable (as_read (x-then-d-with c) c.in-Literal.known_told-1-own.given.0.1)

wants-then-d-with : (c : goal.Then-d-with) → c.wanted_by-bit.result ≡ wanted (x-then-d-with c)
wants-then-d-with c = c.wanted_by-bit.ensures ∙ ap wanted (as_read (x-then-d-with c) c.in-Literal.known_told-1-own.given.0.1)

-- an assigned variable: the call, and the values and the trail after it
module _ (c : goal.Then-d-with) where
  abbrev values-then-d-with : List ℕ
  values-then-d-with = c.assign_to-with.new.a

  abbrev order-then-d-with : List ℕ
  order-then-d-with = c.assign_to-with.new.trail

  assigned-then-d-with : AssignedTo c.args.row.now (variable (x-then-d-with c)) (wanted (x-then-d-with c)) c.args.tally c.args.a.now c.args.trail.now c.assign_to-with.result values-then-d-with order-then-d-with
  assigned-then-d-with = rw (sym (named-then-d-with c), sym (wants-then-d-with c)) c.assign_to-with.ensures

pub returns-then-d-with : goal.returns-then-d-with
returns-then-d-with c =
    laws.look_over c.requires.looking c.args.d c.args.number.0 c.requires.number_nonzero.0 c.requires.number_nonzero.1 (x-then-d-with c) (unit-then-d-with c) (assigned-then-d-with c) c.if-d-with.true

-- what the clause asks for
abbrev clause-else-d-with : goal.Else-d-with → List ℤ
clause-else-d-with c = get_or (clauses c.args.rules.now) (c.args.number.0 - 1) []

said-else-d-with : (c : goal.Else-d-with) → c.unit_at.result ≡ asks c.args.a.now (clause-else-d-with c)
said-else-d-with c =
    c.unit_at.ensures
    ∙ ap (λ (k : ℕ). asks c.args.a.now (clause_at k c.args.rules.now)) c.begin_of-from.ensures
    ∙ ap (asks c.args.a.now) (c.requires.looking.located.clause c.args.number.0 c.requires.number_nonzero.0 c.requires.number_nonzero.1)

-- its literal
abbrev x-else-d-with : goal.Else-d-with → ℤ
x-else-d-with c = c.in-Literal.x

unit-else-d-with : (c : goal.Else-d-with) → asks c.args.a.now (clause-else-d-with c) ≡ Literal (x-else-d-with c)
unit-else-d-with c = sym (said-else-d-with c) ∙ c.in-Literal.is

named-else-d-with : (c : goal.Else-d-with) → c.variable_of-v.result.0 ≡ variable (x-else-d-with c)
named-else-d-with c = c.variable_of-v.ensures ∙ ap variable (as_read (x-else-d-with c) c.in-Literal.known_told-1-own.given.0.1)

wants-else-d-with : (c : goal.Else-d-with) → c.wanted_by-bit.result ≡ wanted (x-else-d-with c)
wants-else-d-with c = c.wanted_by-bit.ensures ∙ ap wanted (as_read (x-else-d-with c) c.in-Literal.known_told-1-own.given.0.1)

-- an assigned variable: the call, and the values and the trail after it
module _ (c : goal.Else-d-with) where
  abbrev values-else-d-with : List ℕ
  values-else-d-with = c.assign_to-with.new.a

  abbrev order-else-d-with : List ℕ
  order-else-d-with = c.assign_to-with.new.trail

  assigned-else-d-with : AssignedTo c.args.row.now (variable (x-else-d-with c)) (wanted (x-else-d-with c)) c.args.tally c.args.a.now c.args.trail.now c.assign_to-with.result values-else-d-with order-else-d-with
  assigned-else-d-with = rw (sym (named-else-d-with c), sym (wants-else-d-with c)) c.assign_to-with.ensures

pub returns-else-d-with : goal.returns-else-d-with
returns-else-d-with c =
    laws.look-held c.requires.looking c.args.d c.args.number.0 c.requires.number_nonzero.0 c.requires.number_nonzero.1 (x-else-d-with c) (unit-else-d-with c) (assigned-else-d-with c) c.if-d-with.false
