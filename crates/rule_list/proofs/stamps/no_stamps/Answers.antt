-- `rule_list::stamps::no_stamps` meets its contract.
use mathlib.Core.Path.{◌≡◌, refl}
use Prim.Native.Nat.{ℕ, zero, suc}
use lib.ListN.{get_or, replicate}
use Rattle.rule_list.proofs.stamps.no_stamps.Goals as goal

zero_at : (k v : ℕ) → get_or {A = ℕ} (replicate k 0) v 0 ≡ 0
zero_at zero v = refl
zero_at (suc k) zero = refl
zero_at (suc k) (suc v) = zero_at k v

pub returns : goal.returns
returns c = (refl, zero_at 1282)
