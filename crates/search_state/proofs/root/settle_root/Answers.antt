-- `search_state::root::settle_root` meets its contract: propagation begins where every variable is unassigned.
use mathlib.Core.List.{List}
use Prim.Native.Nat.{ℕ}
use lib.ListN.{length}
use Rattle.search_state.specs.ReadyLaws.{following}
use Rattle.search_state.specs.RootLaws.{root_searching, settled_root}
use Rattle.search_state.proofs.root.settle_root.Goals as goal

-- what is left of `a`
abbrev unassigned-after-propagate_all-arg-2-1 : goal.After-propagate_all-arg-2-1 → List ℕ
unassigned-after-propagate_all-arg-2-1 c = c.fill.new.self

pub propagate_all-requires : goal.propagate_all-requires
propagate_all-requires c =
    let n = length c.args.a.now in
    following c.requires.0 c.requires.1 c.requires.2 (root_searching n c.args.row.now c.args.trail.now (unassigned-after-propagate_all-arg-2-1 c) c.requires.3 (c.fill.ensures.after (λ y e. e)))

-- what is left of `a`
abbrev unassigned-after-slice_known-5-1 : goal.After-slice_known-5-1 → List ℕ
unassigned-after-slice_known-5-1 c = c.fill.new.self

pub returns : goal.returns
returns c =
    let n = length c.args.a.now in
    settled_root n c.args.rules.now c.requires.1 c.args.row.now c.args.d (unassigned-after-slice_known-5-1 c) c.args.trail.now _ _ c.propagate_all.result c.fill.auto.self
    (c.fill.ensures.after (λ y e. e)) c.propagate_all.ensures
