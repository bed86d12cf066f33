-- `wish_file_writer::put::put_wish` meets its contract: a free variable has no line; the line of a wish has two columns and a line feed.
use mathlib.Core.Path.{◌≡◌, sym, ap, ◌∙◌}
use mathlib.Core.List.{[], ◌∷◌}
use Prim.Native.Nat.{ℕ}
use borrow.Author.Tests.{not-false}
use Rattle.wish.specs.Wish.{wished_value}
use Rattle.writing.specs.Wrote.{wrote_more, wrote_as}
use Rattle.wish_file.specs.Format.{wish_lines}
use Rattle.wish_file.specs.Layout.{line}
use Rattle.wish_file.specs.Wishes.{wish_list}
use Rattle.wish_file_writer.specs.Writing.{line_wish}
use Rattle.wish_file_writer.proofs.put.put_wish.Goals as goal

-- past the test: the byte is a wish, and its line has two columns
module _ (c : goal.After-slice_known-4-1) where
  abbrev variable : ℕ
  variable = c.args.variable.0

  abbrev byte : ℕ
  byte = c.args.wish

  line_of : wish_lines (wish_list variable (byte ∷ [])) ≡ line (variable ∷ wished_value byte ∷ [])
  line_of = line_wish variable byte (sym c.is_wish.ensures ∙ not-false _ c.if-not-is_wish.false-raw)

pub returns : goal.returns
returns c =
    wrote_as (ap (λ (k : ℕ). line (variable c ∷ k ∷ [])) c.wished_value.ensures ∙ sym (line_of c))
    (wrote_more c.put_column-second.ensures (wrote_more c.put_column-end.ensures c.put_byte.ensures))
