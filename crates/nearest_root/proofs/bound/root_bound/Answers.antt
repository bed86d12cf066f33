-- `nearest_root::bound::root_bound` meets its contract: the cores of the settled root bound what every model breaks.
use Rattle.std.proofs.Common.{arith}
use Rattle.std.proofs.Math.Seq.{length-take-le}
use Rattle.nearest_core_scan.specs.Assuming.{no_limit}
use Rattle.search_state.specs.ReadyLaws.{following}
use Rattle.search_state.specs.RootLaws.{root_quiet}
use Rattle.nearest_root.specs.Start.{root_bounded}
use Rattle.nearest_root.proofs.bound.root_bound.Goals as goal

pub find_cores-requires : goal.find_cores-requires
find_cores-requires c =
    let h = c.requires in
    let told = c.in-Ok.ensures in
    let size = told.2.searching.state.size in
    record {
      following = (following h.0 h.1 h.2 told.2.searching, root_quiet _ c.args.rules.now h.1 c.args.row.now no_limit told);
      taken_len = (length-take-le _ _ (omega (arith, size, h.0)), omega (arith, size, h.0));
    }

pub returns : goal.returns
returns c = λ x m. omega (arith, c.find_cores.ensures.bound, root_bounded _ c.args.rules.now c.requires.1 c.args.row.now no_limit c.in-Ok.ensures x m)
