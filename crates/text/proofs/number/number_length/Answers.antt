use native.Mathlib.Omega.{arith}
use Rattle.decimal.specs.Laws.{count_one, count_more}
use Rattle.text.specs.Laws.{digits-most}
use Rattle.text.proofs.number.number_length.Goals as goal

pub loop-rest-preserved : goal.loop-rest-preserved
loop-rest-preserved c = omega (arith, count_more c.loop-rest.rest c.loop-rest-test.true)

pub returns : goal.returns
returns c =
    omega (arith, count_one c.loop-rest.rest c.loop-rest-test.false, digits-most c.args.v c.ranges.v.fits)
