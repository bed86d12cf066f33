-- `nearest_narrowing::keep::keep_wish` meets its contract.
use Rattle.std.proofs.Common.{sym, ◌∙◌, arith}
use Rattle.nearest_narrowing.specs.Keeping.{one_room, one_kept}
use Rattle.nearest_narrowing.proofs.keep.keep_wish.Goals as goal

pub assign_to-requires : goal.assign_to-requires
assign_to-requires c =
    let s = c.requires.searching in
    let v = c.requires.v_nonzero in
    let room = one_room s.0 c.args.d c.args.taken.now c.args.bound c.args.v.0 v.0 v.1 v.2 (sym c.must_keep.ensures ∙ c.if-must_keep.true) in
    record { v_nonzero = (v.0, v.1, omega (arith, v.1, s.1)); settled_in_bounds = (omega (arith, room, s.0.long), omega (arith, room, s.1), omega (arith, room, s.1, s.0.few)) }

pub returns-then-must_keep : goal.returns-then-must_keep
returns-then-must_keep c =
    let v = c.requires.v_nonzero in
    one_kept c.requires.searching.0 c.args.d c.args.taken.now c.args.bound c.args.v.0 v.0 v.1 v.2 (sym c.must_keep.ensures ∙ c.if-must_keep.true)
    (rw (c.wished_value-wished.ensures, c.value_of.ensures) at c.assign_to.ensures)
