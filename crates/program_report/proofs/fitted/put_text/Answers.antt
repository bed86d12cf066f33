-- `program_report::fitted::put_text` meets its contract: no room, or the text is copied.
use native.Mathlib.Omega.{arith}
use Rattle.program_report.specs.Laws.{fitted_whole}
use Rattle.program_report.proofs.fitted.put_text.Goals as goal

pub returns : goal.returns
returns c = fitted_whole c.put_bytes.ensures (omega arith)
