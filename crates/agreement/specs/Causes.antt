-- What a call that is refused with 15 at most tells, and the causes of the calls along the routes.
use Rattle.std.specs.Prelude.{◌≡◌, Option, None, Some}
use Rattle.refusal.specs.declared.Refusal.{Refusal}
use Rattle.refusal.specs.Reply.{cause}

-- no cause, or one with 15
abbrev pub Fine : Option Refusal → Type 0
Fine None = Unit {0}
Fine (Some r) = r.number ≡ 15
