-- Sound wish rows and choices (document 01, "Refusals", 13): "bad byte, 65th wish"; the place is the "first bad index".
use Rattle.std.specs.Prelude.{cond, ◌&&◌, List, [], ◌∷◌, ℕ, suc, ◌+◌, ltb, leb, Option, None, Some}
use Rattle.wish.specs.Wish.{is_row_byte, weight}
use Rattle.limits.specs.Limits.{max_wishes}

-- the first bad index of a wish row from index i on, after wishes that weigh m
abbrev pub bad_wish : ℕ → ℕ → List ℕ → Option ℕ
bad_wish m i [] = None
bad_wish m i (w ∷ row) = cond (is_row_byte w && leb (m + weight w) max_wishes) (bad_wish (m + weight w) (suc i) row) (Some i)

-- the first bad index of a choice from index i on
abbrev pub bad_choice : ℕ → List ℕ → Option ℕ
bad_choice i [] = None
bad_choice i (b ∷ a) = cond (ltb b 2) (bad_choice (suc i) a) (Some i)
