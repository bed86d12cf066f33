-- Every wish weighs 1, so that a row weighs as much as it has wishes. What cites this module holds only while that is so.
use Rattle.std.specs.Prelude.{◌≡◌, refl, Bool, true, false, cond, List, [], ◌∷◌, ℕ, zero, suc, ◌+◌, ◌<◌}
use Rattle.std.proofs.Common.{sym, ap, ◌∙◌, arith}
use Rattle.wish.specs.Wish.{is_wish, wished_value, weight, on_weight, wish_count, total_weight}
use Rattle.wish.specs.Laws.{wished_bit, weight_free, on_wished, on_unwished, on_free}

pub unit_weight : (w : ℕ) → is_wish w ≡ true → weight w ≡ 1
unit_weight w e = rw e

pub weight-count : (row : List ℕ) → total_weight row ≡ wish_count row
weight-count [] = refl
weight-count (w ∷ row) = go (is_wish w) refl (weight-count row)
  where
    go : (t : Bool) → is_wish w ≡ t → total_weight row ≡ wish_count row → weight w + total_weight row ≡ cond t (suc (wish_count row)) (wish_count row)
    go true e h = omega (arith, unit_weight w e)
    go false e h = omega (arith, weight_free w e)

-- a wish for on counts 1, and no other byte counts: the weight of the wishes for on is "the number wished on" (document 02, L2)
pub on_value : (w : ℕ) → on_weight w ≡ wished_value w
on_value w = go (is_wish w) refl
  where
    of_wish : is_wish w ≡ true → (b : ℕ) → b < 2 → wished_value w ≡ b → on_weight w ≡ b
    of_wish e zero h q = on_unwished w q
    of_wish e (suc zero) h q = on_wished w q ∙ unit_weight w e
    of_wish e (suc (suc b)) h q = absurd (omega arith)

    go : (t : Bool) → is_wish w ≡ t → on_weight w ≡ wished_value w
    go true e = of_wish e (wished_value w) (wished_bit w) refl
    go false e = on_free w e ∙ sym (ap (λ (t : Bool). cond t w 0) e)
