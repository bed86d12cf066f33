-- The length of a file, as its writer tells it.
use Rattle.std.specs.Prelude.{ℕ}
use Rattle.refusal.specs.Reply.{Reply, refusing, answering}

-- from the writer's reply: written, or "length needed"
abbrev pub size_of : Reply → ℕ
size_of (refusing r) = r.place
size_of (answering v x y z) = x
