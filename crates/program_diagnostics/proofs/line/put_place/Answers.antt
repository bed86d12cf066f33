-- `program_diagnostics::line::put_place` meets its contract: six texts, one after the other, each with room for the rest.
use Rattle.std.proofs.Common.{arith}
use Rattle.text.specs.Laws.{digits-most}
use Rattle.writing.specs.Wrote.{wrote_more}
use Rattle.program_diagnostics.proofs.line.put_place.Goals as goal

pub put_number-second_colon-requires : goal.put_number-second_colon-requires
put_number-second_colon-requires c = omega (arith, digits-most c.args.line c.ranges.line.fits)

pub put_byte-second-requires : goal.put_byte-second-requires
put_byte-second-requires c = omega (arith, digits-most c.args.line c.ranges.line.fits)

pub put_number-third_colon-requires : goal.put_number-third_colon-requires
put_number-third_colon-requires c =
    omega (arith, digits-most c.args.line c.ranges.line.fits, digits-most c.args.column c.ranges.column.fits)

pub put_bytes-requires : goal.put_bytes-requires
put_bytes-requires c =
    omega (arith, digits-most c.args.line c.ranges.line.fits, digits-most c.args.column c.ranges.column.fits)

pub returns-clause-text : goal.returns-clause-text
returns-clause-text c =
    wrote_more c.put_bytes-colon.ensures
    (wrote_more c.put_byte-first.ensures
    (wrote_more c.put_number-second_colon.ensures
    (wrote_more c.put_byte-second.ensures (wrote_more c.put_number-third_colon.ensures c.put_bytes.ensures))))

pub returns-clause-bound : goal.returns-clause-bound
returns-clause-bound c =
    omega (arith, digits-most c.args.line c.ranges.line.fits, digits-most c.args.column c.ranges.column.fits)
