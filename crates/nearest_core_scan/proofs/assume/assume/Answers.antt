-- `nearest_core_scan::assume::assume` meets its contract, by what its callees ensure (`Assuming`).
use Rattle.std.proofs.Common.{arith}
use Rattle.walk_propagation.specs.Looking.{following_moved}
use Rattle.nearest_core_scan.specs.Assuming as laws
use Rattle.nearest_core_scan.proofs.assume.assume.Goals as goal

pub assign_to-with-requires : goal.assign_to-with-requires
assign_to-with-requires c =
    let s = c.requires.following.0.looking in
    let v = c.requires.v_nonzero in
    let room = laws.assume_room c.requires.following.0 c.requires.following.1 c.args.v.0 v.0 v.1 v.2 in
    record {
      v_nonzero = (v.0, v.1, omega (arith, v.1, s.few));
      settled_in_bounds = (omega (arith, room, s.searching.long), omega (arith, room, s.few), omega (arith, s.searching.few, room, s.few));
    }

pub propagate_units-requires : goal.propagate_units-requires
propagate_units-requires c =
    let v = c.requires.v_nonzero in
    let told = rw (c.wished_value-wished.ensures, c.value_of.ensures) at c.assign_to-with.ensures in
    let m = laws.assume_moved c.requires.following.0 c.requires.following.1 c.args.v.0 v.0 v.1 v.2 told in
    (following_moved c.requires.following.0 m, m.grown.more)

pub returns : goal.returns
returns c =
    let v = c.requires.v_nonzero in
    let told = rw (c.wished_value-wished.ensures, c.value_of.ensures) at c.assign_to-with.ensures in
    laws.assumed_by c.requires.following.0 c.requires.following.1 c.args.v.0 v.0 v.1 v.2 told _ _ c.propagate_units.result c.propagate_units.ensures
