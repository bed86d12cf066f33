-- No cause to refuse has the number 0 (document 01, "Refusals"), so that C can tell a refusal by its number; and none has 5 (document 02, L3): "number 5 is never returned".
use Rattle.std.specs.Prelude.{refl, Bool, not, ◌&&◌, ℕ, eqb, ltb, Option}
use Rattle.refusal.specs.declared.Refusal.{Refusal}
use Rattle.refusal.specs.Laws.{first_number}
use Rattle.refusal.specs.Passing.{Passes, last, more, by_place, by_first}
use Rattle.refusal.specs.Reply.{place_if}
use Rattle.refusal_causes.specs.Lent.{Lent, causes, refusal_of}

-- a number that is neither 0 nor 5, and a cause that has one, if it applies
abbrev pub ordinary : ℕ → Bool
ordinary k = not (eqb k 0) && not (eqb k 5)

abbrev pub Numbered : Option Refusal → Type 0
Numbered = Passes ordinary

-- the refusal for what a call was lent: the numbers in the list of causes tell it, and 15 comes last
pub lent-numbered : (s : Lent) → Numbered (refusal_of s)
lent-numbered s =
    by_first
    (more (record { number = first_number ordinary (causes s) refl })
    (more (by_place 15 refl (place_if (ltb s.output.room s.output.needed) s.output.needed)) last))
