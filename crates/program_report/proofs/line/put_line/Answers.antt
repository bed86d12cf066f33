-- `program_report::line::put_line` meets its contract: no room, or four texts, one after the other.
use native.Mathlib.Omega.{arith}
use Rattle.writing.specs.Wrote.{wrote_more}
use Rattle.program_report.specs.Laws.{fitted_whole, line-length}
use Rattle.program_report.proofs.line.put_line.Goals as goal

pub returns : goal.returns
returns c =
    let end = c.before.before.before in
    let place = end.before.before.before.before in
    let space = place.before.before.before.before in
    let number = space.before.before.before.before in
    let fits = number.before.before in
    let args = fits.args in
    let size = line-length args.number args.place in
    let first = fits.number_length.ensures in
    let second = fits.number_length-2.ensures in
    let whole = wrote_more number.put_number-space.ensures (wrote_more space.put_byte-next.ensures (wrote_more place.put_number-end.ensures end.put_byte.ensures)) in
    let said = fitted_whole whole (omega (arith, size, first, second, fits.if-out-needed.false)) in
    (said.0, said.1, omega (arith, said.0, size, first, second))
