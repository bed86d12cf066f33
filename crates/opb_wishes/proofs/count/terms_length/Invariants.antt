-- `opb_wishes::count::terms_length` meets its contract. The loop's invariant: what was counted, and what is left to count.
use Rattle.std.proofs.Common.{◌≡◌, ◌+◌, ◌*◌, ◌≤◌, length, drop}
use Rattle.opb_pseudo_boolean.specs.Export.{wish_terms}
use Rattle.opb_format.specs.Opb.{terms_text}
use Rattle.opb_wishes.proofs.count.terms_length.Given as goal

abbrev pub invariant-loop-i : goal.invariant-loop-i
invariant-loop-i l = (l.total ≤ 44 * l.i) × (length (terms_text (wish_terms 1 l.row)) ≡ l.total + length (terms_text (wish_terms (l.i + 1) (drop l.i l.row))))
