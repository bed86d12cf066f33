-- A reply loses nothing of its answer: the numbers give the answer back, so that no two answers of a call have the same reply.
use Rattle.std.specs.Prelude.{◌≡◌, refl, Ok, Err}
use Rattle.refusal.specs.Reply.{Reply, refusing, answering}
use Rattle.replies.specs.Rewritten as rewritten
use Rattle.replies.specs.Rewritten.{Rewritten}
use Rattle.replies.specs.Written as written
use Rattle.replies.specs.Written.{Written}

abbrev pub to_written : Reply → Written
to_written (refusing r) = Err r
to_written (answering v size y z) = Ok size

pub written_exact : (a : Written) → to_written (written.reply_of a) ≡ a
written_exact (Err r) = refl
written_exact (Ok size) = refl

abbrev pub to_rewritten : Reply → Rewritten
to_rewritten (refusing r) = Err r
to_rewritten (answering v variables size z) = rewritten.done variables size

pub rewritten_exact : (a : Rewritten) → to_rewritten (rewritten.reply_of a) ≡ a
rewritten_exact (Err r) = refl
rewritten_exact (Ok sizes) = refl
