-- `routes::books::run` meets its contract: each book leaves less of the input.
use Rattle.std.proofs.Common.{length}
use Rattle.routes.proofs.books.run.Given as goal

abbrev pub decreases-loop-rest : goal.decreases-loop-rest
decreases-loop-rest g l = length l.rest
