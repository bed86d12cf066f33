-- `nearest_core_scan::scan::scan_wish` meets its contract: the wish is left out, assumed, or the last of a core (`ScanLaws`).
use Rattle.std.proofs.Common.{sym, ◌∙◌, arith, rules, length-set}
use Rattle.nearest_core_scan.specs.ScanLaws as laws
use Rattle.nearest_core_scan.proofs.scan.scan_wish.Goals as goal

pub close_at-requires : goal.close_at-requires
close_at-requires c =
    let s = c.requires in
    record {
      among = (rw s.0.wide (laws.among_with s.0 s.1), laws.bound_small s.0 s.1);
      to_in_bounds = laws.undoable_later s.0 c.in-Err.ensures.1;
    }

pub assume_unless_broken-requires : goal.assume_unless_broken-requires
assume_unless_broken-requires c =
    let s = c.requires in
    let w = c.in-Ok.ensures in
    let long = w.3.searching.state.size in
    record {
      a_value = laws.still_none s.0 s.1 (sym c.is_assumable.ensures ∙ c.if-not-is_assumable.false) w;
      among = (
        rw s.0.wide (laws.among_with s.0 s.1),
        omega (arith, s.0.few, s.0.room, s.1, length-set c.args.assumed.now c.args.progress.assumed c.args.v.0),
        s.0.wide ∙ sym long,
        omega (arith, long, s.0.following.looking.few),
        laws.bound_small s.0 s.1,
      );
      settled_in_bounds = laws.undoable_later s.0 w.3;
    }

pub returns-in-Err : goal.returns-in-Err
returns-in-Err c =
    laws.scan_dead c.requires.0 c.requires.1 (sym c.is_assumable.ensures ∙ c.if-not-is_assumable.false) c.in-Err.ensures c.close_at.ensures

pub returns-in-Ok : goal.returns-in-Ok
returns-in-Ok c =
    laws.scan_settled c.requires.0 c.requires.1 (sym c.is_assumable.ensures ∙ c.if-not-is_assumable.false) c.in-Ok.ensures (search rules) c.assume_unless_broken.ensures
