-- The equations by which a loop fills a part of a list with one byte.
use Rattle.std.specs.Prelude.{◌≡◌, List, ℕ, suc, ◌+◌, ◌-◌, ◌≤◌, ◌<◌, set, replicate}
use Rattle.std.proofs.Common.{add-one, arith}
use Rattle.std.proofs.lemmas.List.Edits.{sets}

pub fill_step : (b : ℕ) (out : List ℕ) (i end : ℕ) → i < end
    → sets out i (replicate (end - i) b) ≡ sets (set out i b) (i + 1) (replicate (end - (i + 1)) b)
fill_step b out i end h =
    let more : end - i ≡ suc (end - (i + 1)) = omega arith in
    rw (more, add-one i)

pub fill_done : (b : ℕ) (out : List ℕ) (i end : ℕ) → end ≤ i → sets out i (replicate (end - i) b) ≡ out
fill_done b out i end h =
    let done : end - i ≡ 0 = omega arith in
    rw (done)
