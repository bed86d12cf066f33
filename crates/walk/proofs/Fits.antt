-- Formulas over the variables 1 to n.
use Rattle.std.specs.Prelude.{◌≡◌, true, ℕ, ◌≤◌, ◌<◌, ltb, leb, ℤ}
use Rattle.std.proofs.Math.Bool.{and-eq-true_iff}
use mathlib.Core.List.{List, Memᴰ}
use Rattle.std.proofs.Common.{ltb-true, leb-true}
use Rattle.literal.specs.Literal.{variable}
use Rattle.formula.specs.Formula.{all}
use Rattle.choices.proofs.Lists.{all_at}
use Rattle.walk.specs.State.{has_variable, fits}

pub variable_bounds : (n : ℕ) (x : ℤ) → has_variable n x ≡ true → (0 < variable x) × (variable x ≤ n)
variable_bounds n x h = let r = (and-eq-true_iff (ltb 0 (variable x)) (leb (variable x) n)).0 h in (ltb-true 0 (variable x) r.0, leb-true (variable x) n r.1)

pub fits_at : (n : ℕ) (f : List (List ℤ)) → fits n f ≡ true → {c : List ℤ} {x : ℤ} → Memᴰ c f → Memᴰ x c → (0 < variable x) × (variable x ≤ n)
fits_at n f h {c} {x} m w = variable_bounds n x (all_at (has_variable n) (all_at (all (has_variable n)) h m) w)
