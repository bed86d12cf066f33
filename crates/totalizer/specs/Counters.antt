-- In bytes: a totalizer's clauses hold of a choice exactly when the bytes of its variables are the counters.
use Rattle.std.specs.Prelude.{List, ℕ, take, drop}

-- the bytes of m variables after n
abbrev pub segment : List ℕ → ℕ → ℕ → List ℕ
segment e n m = take m (drop n e)
