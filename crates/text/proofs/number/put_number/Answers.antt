use Rattle.std.proofs.Common.{◌≡◌, ◌+◌, ◌≤◌, ◌<◌, ◌/◌, ℕ, length, set, sym, ap, ◌∙◌, arith}
use Rattle.decimal.specs.Decimal.{decimal}
use Rattle.decimal.specs.Laws.{count_one, count_more, decimal-some}
use Rattle.text.specs.Laws.{written_last, written_only, written-sets}
use Rattle.text.proofs.number.put_number.Goals as goal

pub loop-i-init : goal.loop-i-init
loop-i-init c =
    let end : c.args.at + c.number_length.result ≡ c.args.at + length (decimal c.args.v) = omega (arith, c.number_length.ensures.0) in
    (end, written-sets c.args.out.now c.args.at (decimal c.args.v) (c.args.at + c.number_length.result) end (omega (arith, end)))

pub loop-i-preserved : goal.loop-i-preserved
loop-i-preserved c =
    let rest = c.loop-i.rest in
    let inside : c.loop-i.i ≤ length c.loop-i.out = omega (arith, c.number_length.ensures.0, c.loop-i.auto.i, c.loop-i.auto.out) in
    let several : 10 ≤ rest = grind (arith, c.loop-i.invariant.0, c.loop-i-test.true, count_one rest) in (
      omega (arith, c.loop-i.invariant.0, count_more rest several),
      sym (written_last c.loop-i.out c.args.at c.loop-i.i rest several c.loop-i.invariant.0 inside) ∙ c.loop-i.invariant.1,
    )

pub bounds-out-at : goal.bounds-out-at
bounds-out-at c = omega (arith, decimal-some c.args.v)

pub returns : goal.returns
returns c =
    let rest = c.loop-i.rest in
    let inside : c.loop-i.i ≤ length c.loop-i.out = omega (arith, c.number_length.ensures.0, c.loop-i.auto.i, c.loop-i.auto.out) in
    let one : rest < 10 = grind (arith, c.loop-i.invariant.0, c.loop-i-test.false, count_more rest, decimal-some (rest / 10)) in
    record {
      place = omega (arith, c.number_length.ensures.0);
      list =
          ap (λ (d : ℕ). set c.loop-i.out c.args.at d) (omega (arith, one))
          ∙ sym (written_only c.loop-i.out c.args.at c.loop-i.i rest one c.loop-i.invariant.0 inside)
          ∙ c.loop-i.invariant.1;
    }
