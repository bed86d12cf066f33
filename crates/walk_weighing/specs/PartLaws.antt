-- The laws of the two parts of one list, the weights and the marks: how long they are, and what is left after one of them was written.
use Rattle.std.specs.Prelude.{◌≡◌, List, [], ◌++◌, ℕ, ◌+◌, ◌-◌, ◌*◌, ◌≤◌, ◌<◌, ℤ, length, take, drop}
use Rattle.std.proofs.Common.{sym, ap, ◌∙◌, append-nil, arith, length-append, length-drop, drop_of_length-le, length-take-le, take_at, drop_at}
use Rattle.std.proofs.Math.Seq.{take-length}
use Rattle.literal.specs.Literal.{variable}
use Rattle.literal.specs.Slots.{slot, wanted_bit}
use Rattle.walk_weighing.specs.Weights.{weights_of, marks_of, marks_lent, with_weights, with_marks}

module _ (n : ℕ) (weights : List ℕ) (wide : 3 * n + 2 < length weights) where
  -- there is a weight for each literal
  pub weights_length : length (weights_of n weights) ≡ 2 * n + 2
  weights_length = length-take-le (2 * n + 2) weights (omega arith)

  pub slot_inside : (x : ℤ) → variable x ≤ n → slot x < length (weights_of n weights)
  slot_inside x h = omega (arith, weights_length, wanted_bit x)

  -- what is lent up to the end are all marks
  pub marks_whole : marks_lent n weights ≡ marks_of n weights
  marks_whole = ap (λ (k : ℕ). take k (marks_of n weights)) (sym (length-drop (2 * n + 2) weights)) ∙ take-length (marks_of n weights)

  -- there is a mark for each variable
  pub place_inside : (v : ℕ) → v ≤ n → v < length (marks_lent n weights)
  place_inside v h = omega (arith, ap length marks_whole, length-drop (2 * n + 2) weights)

  -- the weights are written
  module _ (part : List ℕ) (same : length part ≡ length (weights_of n weights)) where
    pub weights_new : weights_of n (with_weights n weights part) ≡ part
    weights_new = take_at part (marks_of n weights) (2 * n + 2) (same ∙ weights_length)

    pub marks_left : marks_of n (with_weights n weights part) ≡ marks_of n weights
    marks_left = drop_at part (marks_of n weights) (2 * n + 2) (same ∙ weights_length)

    pub weights_long : length (with_weights n weights part) ≡ length weights
    weights_long = omega (arith, length-append part (marks_of n weights), length-drop (2 * n + 2) weights, same, weights_length)

  -- the marks are written
  module _ (part : List ℕ) (same : length part ≡ length (marks_lent n weights)) where
    none_behind : drop (length weights - (2 * n + 2)) (marks_of n weights) ≡ []
    none_behind = let all : length (marks_of n weights) ≤ length weights - (2 * n + 2) = omega (arith, length-drop (2 * n + 2) weights) in drop_of_length-le (marks_of n weights) all

    whole : part ++ drop (length weights - (2 * n + 2)) (marks_of n weights) ≡ part
    whole = ap (λ (l : List ℕ). part ++ l) none_behind ∙ append-nil part

    pub weights_left : weights_of n (with_marks n weights part) ≡ weights_of n weights
    weights_left = take_at (weights_of n weights) (part ++ drop (length weights - (2 * n + 2)) (marks_of n weights)) (2 * n + 2) weights_length

    pub marks_new : marks_of n (with_marks n weights part) ≡ part
    marks_new = drop_at (weights_of n weights) (part ++ drop (length weights - (2 * n + 2)) (marks_of n weights)) (2 * n + 2) weights_length ∙ whole

    pub marks_long : length (with_marks n weights part) ≡ length weights
    marks_long = omega (arith, length-append (weights_of n weights) (part ++ drop (length weights - (2 * n + 2)) (marks_of n weights)), ap length whole, same, ap length marks_whole, length-drop (2 * n + 2) weights, weights_length)
