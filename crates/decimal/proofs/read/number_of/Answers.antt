use Rattle.decimal.specs.ReadLaws.{number_begins}
use Rattle.decimal.proofs.read.number_of.Goals as goal

pub loop-b-init : goal.loop-b-init
loop-b-init c = number_begins c.args.word.now c.in_ok-first.first.now c.in_ok-first.others.now c.in_ok-value.value c.in_ok-first.ensures.cases.0 c.in_ok-value.ensures
