-- The reply and the output of a call that fills a lent list: refused for what it was lent, refused for want of room, or answered.
use Rattle.std.specs.Prelude.{◌≡◌, refl, List, ℕ, length, Option, None, Some}
use Rattle.std.proofs.Common.{sym, ap, ◌∙◌}
use Rattle.refusal.specs.declared.Refusal.{Refusal}
use Rattle.refusal.specs.Reply.{Reply, refusing, unless, filled, too_short}
use Rattle.refusal_causes.specs.Lent.{Lent, with_room, unadmitted, refusal_of}
use Rattle.refusal_causes.specs.Admitted as lent

-- a call that is lent s, puts the list w into out, and then answers so
module _ {A : Type 0} (s : Lent) (answer : Reply) (w out : List A) where
  abbrev refused_for : Option Refusal
  refused_for = refusal_of (with_room (length w) (length out) s)

  -- the answer, and w in front of what was lent, unless it is refused
  abbrev pub Answers : Reply → List A → Type 0
  Answers reply result = (reply ≡ unless refused_for answer) × (result ≡ filled refused_for w out)

  refused_for_lem : (r : Refusal) → refused_for ≡ Some r → Answers (refusing r) out
  refused_for_lem r e = rw (e) (refl, refl)

  pub refused_early : (r : Refusal) → unadmitted s ≡ Some r → Answers (refusing r) out
  refused_early r e = refused_for_lem r (lent.refused-lent s (length w) (length out) r e)

  -- what was lent is admitted, and so many elements are needed
  module _ (ok : unadmitted s ≡ None) (k : ℕ) (size : k ≡ length w) where
    by_room : (o : Option Refusal) → too_short k (length out) ≡ o → refused_for ≡ o
    by_room o e = lent.room_decides s (length w) (length out) ok ∙ ap (λ (j : ℕ). too_short j (length out)) (sym size) ∙ e

    pub refused_late : (r : Refusal) → too_short k (length out) ≡ Some r → Answers (refusing r) out
    refused_late r e = refused_for_lem r (by_room (Some r) e)

    pub answered : too_short k (length out) ≡ None → (reply : Reply) → reply ≡ answer → (result : List A) → result ≡ filled None w out → Answers reply result
    answered e reply f result g = rw (by_room None e) (f, g)
