-- `text::column::put_column` meets its contract: the spaces, and the number behind them.
use Rattle.std.proofs.Common.{◌≡◌, ℕ, ◌-◌, List, ◌++◌, length, replicate, ap, arith}
use Rattle.decimal.specs.Decimal.{decimal}
use Rattle.writing.specs.Wrote.{wrote_more, wrote_as}
use Rattle.text.proofs.column.put_column.Goals as goal

pub returns : goal.returns
returns c =
    let digits : List ℕ = decimal c.args.v in
    let spaces : c.saturating_sub-spaces.result ≡ c.args.width - length digits = omega (arith, c.number_length.ensures.0, c.saturating_sub-spaces.ensures) in
    wrote_as (ap (λ (k : ℕ). replicate k 32 ++ digits) spaces) (wrote_more c.put_times-at.ensures c.put_number.ensures)
