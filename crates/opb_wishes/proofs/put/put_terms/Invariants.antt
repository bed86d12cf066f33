-- `opb_wishes::put::put_terms` meets its contract. The loop's invariant: the terms of the row from index i on are still to be put.
use Rattle.std.proofs.Common.{◌+◌, drop}
use Rattle.writing.specs.Wrote.{Remaining}
use Rattle.opb_pseudo_boolean.specs.Export.{wish_terms}
use Rattle.opb_format.specs.Opb.{terms_text}
use Rattle.opb_wishes.proofs.put.put_terms.Given as goal

abbrev pub invariant-loop-i : goal.invariant-loop-i
invariant-loop-i l = Remaining (terms_text (wish_terms 1 l.row)) l.initial.out l.from (terms_text (wish_terms (l.i + 1) (drop l.i l.row))) l.out l.at
