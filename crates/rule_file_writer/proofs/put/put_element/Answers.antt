-- `rule_file_writer::put::put_element` meets its contract: the number, and the byte after it.
use mathlib.Core.Path.{ap, ◌∙◌}
use mathlib.Core.List.{[], ◌∷◌}
use Prim.Native.Nat.{ℕ}
use mir.Syntax.{w32}
use mir.ValLaws.{to_z-of_z}
use Rattle.text.specs.Text.{numeral}
use Rattle.writing.specs.Wrote.{wrote_more, wrote_as}
use Rattle.rule_file.specs.Written.{separator}
use Rattle.rule_file_writer.proofs.put.put_element.Goals as goal

pub returns : goal.returns
returns c =
    let same = to_z-of_z w32 c.args.x c.ranges.x in
    wrote_more
    (wrote_as (ap numeral same) c.put_signed-end.ensures)
    (wrote_as (ap (λ (b : ℕ). b ∷ []) (c.separator_of.ensures ∙ ap separator same)) c.put_byte.ensures)
