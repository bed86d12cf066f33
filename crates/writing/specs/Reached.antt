-- How far writing has come, and what is left of the room: for texts whose length is only known to be at most so much.
use Rattle.std.specs.Prelude.{◌≡◌, List, ℕ, ◌+◌, ◌≤◌, length}
use Rattle.std.proofs.Common.{◌∙◌, arith}
use Rattle.writing.specs.Wrote.{Wrote, wrote_length}

-- a list as long as the lent one, written up to a place that is at most so far
pub record Reached {A : Type 0} (l m : List A) (i far : ℕ) : Type 0 where
  pub long : length m ≡ length l
  pub near : i ≤ far

pub reached : {A : Type 0} {l m w k : List A} {i j far : ℕ} (more : ℕ) → Reached l m i far → Wrote w m i k j → length w ≤ more → Reached l k j (far + more)
reached more r a h = record { long = wrote_length a ∙ r.long; near = omega (arith, r.near, a.place, h) }

pub reached_room : {A : Type 0} {l m : List A} {i far : ℕ} (w : List A) (more : ℕ) → Reached l m i far → length w ≤ more → far + more ≤ length l → i + length w ≤ length m
reached_room w more r h e = omega (arith, r.long, r.near, h, e)
