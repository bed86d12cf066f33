-- A call with wishes is refused for what it is lent, or only for want of room: with room for its output, 15 is no answer.
use Rattle.std.specs.Prelude.{◌≡◌, refl, List, ℕ, ◌≤◌, ℤ, Option, None, Some}
use Rattle.std.proofs.Common.{sym, ◌∙◌, le_refl}
use Rattle.refusal.specs.declared.Refusal.{Refusal}
use Rattle.refusal.specs.Laws.{room_enough}
use Rattle.refusal_causes.specs.Admitted as lent
use Rattle.refusal_causes.specs.Admitted.{Admitted, admitted, refused-lent, room_decides}
use Rattle.refusal_causes.specs.Lent.{Lent, wished_problem, with_room, unadmitted, refusal_of}

module _ (n : ℕ) (rules : List ℤ) (row : List ℕ) (d : ℕ) where
  abbrev s : Lent
  s = wished_problem n rules row d

  -- room for whatever is admitted is as good as room for just the output
  pub enough : (needed room : ℕ) → (Admitted s → needed ≤ room) → refusal_of (with_room needed room s) ≡ refusal_of (with_room needed needed s)
  enough needed room h = go (unadmitted s) refl
    where
      go : (o : Option Refusal) → unadmitted s ≡ o → refusal_of (with_room needed room s) ≡ refusal_of (with_room needed needed s)
      go (Some r) e = refused-lent s needed room r e ∙ sym (refused-lent s needed needed r e)
      go None e =
          room_decides s needed room e ∙ room_enough needed room (h (admitted s e))
          ∙ sym (room_decides s needed needed e ∙ room_enough needed needed (le_refl needed))

  -- what is not refused is admitted
  pub unrefused : (needed room : ℕ) → refusal_of (with_room needed room s) ≡ None → Admitted s
  unrefused needed room e = (lent.unrefused s needed room e).0
