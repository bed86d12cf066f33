-- A copy, one element after the other: what is stored so far, and what is still to be.
use Rattle.std.specs.Prelude.{◌≡◌, List, ◌++◌, ℕ, ◌+◌, ◌≤◌, ◌<◌, length, get_or, set, drop}
use Rattle.std.proofs.Common.{sym, ap, ◌∙◌, append-nil, zero-add, add-one, arith, drop_of_length-le, drop-cons}
use Rattle.std.proofs.lemmas.List.Edits.{sets, sets-eq}

pub copy_step : (from to : List ℕ) (i : ℕ) → i < length from → sets (set to i (get_or from i 0)) (i + 1) (drop (i + 1) from) ≡ sets to i (drop i from)
copy_step from to i h = sym (rw (drop-cons from i 0 h, add-one i))

pub copy_done : (from to to₀ : List ℕ) (i : ℕ) → length from ≤ i → length from ≤ length to₀ → sets to i (drop i from) ≡ sets to₀ 0 from → to ≡ from ++ drop (length from) to₀
copy_done from to to₀ i h k e =
    sym (ap (sets to i) (drop_of_length-le from {i = i} h))
    ∙ e
    ∙ sets-eq from to₀ 0 (omega arith)
    ∙ ap (λ (j : ℕ). from ++ drop j to₀) (zero-add (length from))

-- to a list that is as long
pub copied_whole : (from to₀ to : List ℕ) → length to₀ ≡ length from → to ≡ from ++ drop (length from) to₀ → to ≡ from
copied_whole from to₀ to e f =
    let past : length to₀ ≤ length from = omega arith in
    f ∙ ap (λ (l : List ℕ). from ++ l) (drop_of_length-le to₀ past) ∙ append-nil from
