-- A guide is written byte by byte.
use Rattle.std.specs.Prelude.{◌≡◌, true, List, ℕ, zero, suc, ◌+◌, ◌≤◌, ◌<◌, length, get_or, set}
use Rattle.std.proofs.Common.{sym, ap, ◌∙◌, arith, get_or-set_same, get_or-set_other}
use Rattle.std.proofs.Math.Decide.{ℕ_discrete}
use Rattle.literal.specs.Literal.{value}
use Rattle.wish.specs.Wish.{is_wish, wished_value}
use Rattle.nearest_cores.specs.SearchRight.{Guides}

-- of no variable anything is asked
pub guide_start : (row guide : List ℕ) → Guides 0 row guide
guide_start row guide = record { asks = λ v l u e. absurd (omega arith) }

-- one byte more
pub guide_next : (row guide : List ℕ) (i b : ℕ) → i < length guide → Guides i row guide → (is_wish (value row (i + 1)) ≡ true → wished_value b ≡ wished_value (value row (i + 1))) → Guides (i + 1) row (set guide i b)
guide_next row guide i b inside g told = record { asks = at }
  where
    at : (v : ℕ) → 0 < v → v ≤ i + 1 → is_wish (value row v) ≡ true → wished_value (value (set guide i b) v) ≡ wished_value (value row v)
    at zero l u e = absurd (omega arith)
    at (suc j) l u e =
        elim (ℕ_discrete j i) [
          | yes z ↦
              let here : suc j ≡ i + 1 = omega arith in
              ap wished_value (ap (λ (k : ℕ). get_or (set guide i b) k 2) z ∙ get_or-set_same guide i b 2 inside)
              ∙ told (ap (λ (k : ℕ). is_wish (value row k)) (sym here) ∙ e)
              ∙ ap (λ (k : ℕ). wished_value (value row k)) (sym here)
          | no z ↦ ap wished_value (get_or-set_other guide i j b 2 z) ∙ g.asks (suc j) l (omega arith) e
        ]
