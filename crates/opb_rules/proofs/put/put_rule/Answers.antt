-- `opb_rules::put::put_rule` meets its contract: the terms, and behind them the bound.
use mathlib.Core.Path.{ap}
use Prim.Native.Nat.{ℕ}
use lib.IntN.{pos, ◌-ℤ◌}
use Rattle.writing.specs.Wrote.{wrote_as, wrote_more}
use Rattle.opb_format.specs.Opb.{bound_text}
use Rattle.opb_rules.proofs.put.put_rule.Goals as goal

pub returns : goal.returns
returns c =
    wrote_more c.put_terms-end.ensures
    (wrote_as (ap (λ (k : ℕ). bound_text (pos 1 -ℤ pos k)) c.negatives_of.ensures) c.put_bound.ensures)
