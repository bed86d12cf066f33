-- `opb_parts::term::put_term` meets its contract: five texts, one after the other, each with room for the rest.
use mathlib.Core.Path.{◌≡◌, ap, ◌∙◌}
use mathlib.Core.List.{List, [], ◌∷◌, ◌++◌}
use Prim.Native.Nat.{ℕ, ◌+◌, ◌≤◌}
use native.Mathlib.Omega.{arith}
use lib.ListN.{length}
use mir.Syntax.{w32}
use mir.ValLaws.{to_z-of_z}
use Rattle.literal.specs.Literal.{variable}
use Rattle.decimal.specs.Decimal.{decimal}
use Rattle.writing.specs.Wrote.{wrote_as, wrote_more}
use Rattle.opb_pseudo_boolean.specs.Export.{term}
use Rattle.opb_format.specs.Laws.{sign_of, term_parts}
use Rattle.opb_format.specs.Opb.{term_text}
use Rattle.opb_parts.proofs.term.put_term.Goals as goal

-- what is still to be put, after the x, the weight and the sign
abbrev from_variable : ℕ → List ℕ
from_variable v = decimal v ++ (32 ∷ [])

abbrev from_name : ℕ → List ℕ
from_name v = (32 ∷ 120 ∷ []) ++ from_variable v

abbrev from_weight : ℕ → ℕ → List ℕ
from_weight w v = decimal w ++ from_name v

-- once the variable and the sign are known: the term is these texts
module _ (c : goal.After-slice_known-6-1) where
  abbrev v : ℕ
  v = c.variable_of-variable.result.0

  abbrev w : ℕ
  w = c.args.weight

  parts : (c.sign_of.result ∷ []) ++ from_weight w v ≡ term_text (term w c.args.x)
  parts =
      let same = to_z-of_z w32 c.args.x c.ranges.x in
      ap (λ (b : ℕ). b ∷ from_weight w v) (c.sign_of.ensures ∙ ap sign_of same)
      ∙ term_parts w c.args.x v c.requires.0 (c.variable_of-variable.ensures ∙ ap variable same)

  room : c.args.at + length ((c.sign_of.result ∷ []) ++ from_weight w v) ≤ length c.args.out.now
  room = omega (arith, ap length parts, c.requires.1)

pub returns : goal.returns
returns c =
    wrote_as (parts c)
    (wrote_more c.put_byte-number.ensures
    (wrote_more c.put_number-between.ensures
    (wrote_more c.put_bytes-name.ensures (wrote_more c.put_number-end.ensures c.put_byte.ensures))))
