-- A clause that is being read for its standing, literal by literal.
use Rattle.std.specs.Prelude.{◌≡◌, true, false, List, [], ◌∷◌, ℕ, suc, ◌+◌, ◌≤◌, ◌<◌, ℤ, pos, length, get_or}
use Rattle.std.proofs.Common.{sym, ap, ◌∙◌, arith}
use Rattle.literal.specs.Literal.{closes, holds}
use Rattle.formula.specs.Laws.{length-literal}
use Rattle.walk.specs.State.{is_unassigned, unassigned_in}
use Rattle.walk_clause_standing.specs.Clause.{clause_at, at_literal, at_closed, at_past, Tested, Passing, passing_start, passing_closed, passing_past, passing_next}
use Rattle.walk_clause_standing.specs.Standing.{HoldsAt, StandsOpen}

-- of the literals from `from` to i none holds and `count` are unassigned
pub record Reads (a : List ℕ) (l : List ℤ) (from i count : ℕ) : Type 0 where
  pub after : from ≤ i
  pub passing : Passing (holds a) l from i
  pub few : count ≤ i
  pub total : unassigned_in a (clause_at from l) ≡ count + unassigned_in a (clause_at i l)

pub reads_start : (a : List ℕ) (l : List ℤ) (from : ℕ) → Reads a l from from 0
reads_start a l from =
    record { after = omega arith; passing = passing_start (holds a) l from; few = omega arith; total = omega arith }

module _ (a : List ℕ) (l : List ℤ) (from i count : ℕ) (s : Reads a l from i count) where
  -- the clause's end
  closed : clause_at i l ≡ [] → Tested (holds a) l from i false → StandsOpen a l from i count
  closed e t = record { ends = t.ends; none = sym t.verdict; counted = omega (arith, s.total, ap (unassigned_in a) e) }

  pub reads_closed : i < length l → closes (get_or l i (pos 0)) ≡ true → StandsOpen a l from i count
  reads_closed h z = closed (at_closed l i h z) (passing_closed (holds a) l from i s.passing h z)

  pub reads_past : length l ≤ i → StandsOpen a l from i count
  reads_past h = closed (at_past l i h) (passing_past (holds a) l from i s.passing h)

  module _ (h : i < length l) (literal : closes (get_or l i (pos 0)) ≡ false) where
    abbrev x : ℤ
    x = get_or l i (pos 0)

    next : clause_at i l ≡ x ∷ clause_at (i + 1) l
    next = at_literal l i h literal

    -- a literal that holds
    pub reads_satisfied : holds a x ≡ true → HoldsAt a l from i
    reads_satisfied t =
        record { after = s.after; before = omega (arith, s.passing.far, length-literal l i h literal); held = t }

    -- one that does not, unassigned or not
    module _ (t : holds a x ≡ false) where
      pub reads_unassigned : is_unassigned a x ≡ true → Reads a l from (i + 1) (count + 1)
      reads_unassigned u =
          let one : unassigned_in a (clause_at i l) ≡ suc (unassigned_in a (clause_at (i + 1) l)) = ap (unassigned_in a) next ∙ rw u in
          record {
            after = omega (arith, s.after);
            passing = passing_next (holds a) l from i s.passing h literal t;
            few = omega (arith, s.few);
            total = omega (arith, s.total, one);
          }

      pub reads_assigned : is_unassigned a x ≡ false → Reads a l from (i + 1) count
      reads_assigned u =
          let same : unassigned_in a (clause_at i l) ≡ unassigned_in a (clause_at (i + 1) l) = ap (unassigned_in a) next ∙ rw u in
          record {
            after = omega (arith, s.after);
            passing = passing_next (holds a) l from i s.passing h literal t;
            few = omega (arith, s.few);
            total = omega (arith, s.total, same);
          }
