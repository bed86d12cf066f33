-- A variable's value in the completion, from its wish and its value.
use Rattle.std.specs.Prelude.{◌≡◌, List, ℕ, ◌-◌, ◌≤◌, ◌<◌, length, get_or}
use Rattle.std.proofs.Common.{sym, ap₂, ◌∙◌, arith}
use Rattle.literal.specs.Literal.{value}
use Rattle.literal.specs.Laws.{get_or_inside, value_at, value_past}
use Rattle.walk.specs.Walk.{complete, complete_byte}
use Rattle.walk.proofs.Completion.{complete-length, complete_at}

pub completed_at : (row a : List ℕ) (v : ℕ) → 0 < v → v - 1 < length a → value (complete row a) v ≡ complete_byte (value row v) (get_or a (v - 1) 0)
completed_at row a v h l =
    value_at (complete row a) v h
    ∙ complete_at row a (v - 1) 2 l
    ∙ ap₂ complete_byte (sym (value_at row v h)) (get_or_inside a (v - 1) 2 0 l)

pub completed_past : (row a : List ℕ) (v : ℕ) → 0 < v → length a ≤ v - 1 → value (complete row a) v ≡ 2
completed_past row a v h l = value_past (complete row a) v h (omega (arith, complete-length row a))
