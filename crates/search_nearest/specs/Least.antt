-- From a model to the least count of broken wishes.
use Rattle.std.specs.Prelude.{◌≡◌, refl, true, false, List, ℕ, ◌+◌, ◌≤◌, ℤ, take, drop}
use Rattle.std.proofs.Common.{arith}
use Rattle.distance.specs.Distance.{disagreement}
use Rattle.choices.specs.Choices.{Model, Nearest}
use Rattle.nearest_root.specs.Root.{FoundWithin}

-- every model breaks at least d
abbrev pub AtLeast : ℕ → List (List ℤ) → List ℕ → ℕ → Type 0
AtLeast n f row d = (c : List ℕ) → Model n f c → d ≤ disagreement row c

-- the first n bytes are a model that breaks k wishes, no model breaks fewer, and the rest is as it was
pub record Least (n : ℕ) (f : List (List ℤ)) (row before after : List ℕ) (k : ℕ) : Type 0 where
  pub model : Model n f (take n after)
  pub limited : disagreement row (take n after) ≤ k
  pub below : AtLeast n f row k
  pub rest : drop n after ≡ drop n before

-- so k is the nearest count
pub least-nearest : {n : ℕ} {f : List (List ℤ)} {row before after : List ℕ} {k : ℕ} → Least n f row before after k → Nearest n f row k
least-nearest {n} {f} {row} {before} {after} h = record { attained = (take n after, h.model, omega (arith, h.limited, h.below (take n after) h.model)); below = h.below }

module _ (n : ℕ) (f : List (List ℤ)) (row before : List ℕ) (d : ℕ) (bound : AtLeast n f row d) where
  -- a search with the limit d finds one
  pub least_found : (after : List ℕ) → FoundWithin n f row d before after true → Least n f row before after d
  least_found after w = record { model = w.0; limited = w.1; below = bound; rest = w.2 }

  -- it finds none
  pub least_more : (after : List ℕ) → FoundWithin n f row d before after false → AtLeast n f row (d + 1)
  least_more after w c m = omega (arith, w.0 c m)

  -- the model at hand breaks no more than d
  pub least_kept : (most : ℕ) → Model n f (take n before) → disagreement row (take n before) ≤ most → most ≤ d → Least n f row before before most
  least_kept most m l e = record { model = m; limited = l; below = λ c k. omega (arith, bound c k); rest = refl }
