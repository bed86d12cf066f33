-- `nearest_core_scan::scan::assume_unless_broken` meets its contract: nothing is broken, or a core is closed with the wish that is found, which is that of a variable.
use Rattle.std.proofs.Common.{arith}
use Rattle.nearest_core_scan.specs.Broken.{lowest_inside}
use Rattle.nearest_core_scan.specs.Closing.{among_more, assumed_more}
use Rattle.nearest_core_scan.proofs.scan.assume_unless_broken.Goals as goal

pub overflow_cast-assumed : goal.overflow_cast-assumed
overflow_cast-assumed c =
    let known = lowest_inside c.args.row.now c.args.taken.now c.args.a.now c.in-Some.v c.in-Some.ensures in
    record { fits = omega (arith, known.1, c.requires.among.3) }

pub close_at-requires : goal.close_at-requires
close_at-requires c =
    let v = c.in-Some.v.0 in
    let known = lowest_inside c.args.row.now c.args.taken.now c.args.a.now c.in-Some.v c.in-Some.ensures in
    record {
      among = (
        rw (assumed_more c.args.assumed.now c.args.count v c.requires.among.1) (among_more c.requires.among.0 v known.0 (omega (arith, known.1, c.requires.among.2))),
        c.requires.among.4,
      );
      to_in_bounds = c.requires.settled_in_bounds;
    }
