-- `refusal_causes::choice::scan_choice` meets its contract. The loop's invariant: the bytes passed are 0 or 1.
use Rattle.std.proofs.Common.{◌≡◌, ◌≤◌, length, drop}
use Rattle.refusal_causes.specs.Sound.{bad_choice}
use Rattle.refusal_causes.proofs.choice.scan_choice.Given as goal

abbrev pub invariant-loop-place : goal.invariant-loop-place
invariant-loop-place l = (l.place ≤ length l.choice) × (bad_choice 0 l.choice ≡ bad_choice l.place (drop l.place l.choice))
