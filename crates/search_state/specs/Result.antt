-- What trying a state comes to, in numbers.
use Rattle.std.specs.Prelude.{ℕ, ◌+◌, min}
use Rattle.search_state.specs.declared.result.Tried.{Tried}

-- forks are counted as far as 64 bits go
abbrev pub clip : ℕ → ℕ
clip k = min k 18446744073709551615

-- what the second value of a fork came to, with the forks of the first and one more
abbrev pub with_forks : ℕ → Tried → Tried
with_forks first second = record { found = second.found; forks = min (first + second.forks + 1) 18446744073709551615 }
