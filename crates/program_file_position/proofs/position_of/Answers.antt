use Rattle.std.proofs.Common.{◌≡◌, ℕ, suc, ◌+◌, List, length, ◌∷◌, ap, ◌∙◌, arith, add-one, eq-eqb, ne_eqb}
use Rattle.program_file_position.specs.Position.{position_from}
use Rattle.program_file_position.proofs.position_of.Goals as goal

-- past a byte: a line feed, and any other
module _ (line column n k b : ℕ) (left rest : List ℕ) (e : left ≡ b ∷ rest) (f : k + 1 ≡ n) where
  abbrev more : n ≡ suc k
  more = omega (arith, f)

  feed : b ≡ 10 → position_from line column n left ≡ position_from (line + 1) 1 k rest
  feed h = rw (more, e, eq-eqb b 10 h, add-one line)

  no_feed : (b ≡ 10 → ⊥) → position_from line column n left ≡ position_from line (column + 1) k rest
  no_feed h = rw (more, e, ne_eqb b 10 h, add-one column)

pub loop-b-preserved-then-b-eq10 : goal.loop-b-preserved-then-b-eq10
loop-b-preserved-then-b-eq10 c =
    let at = c.loop-b in
    let next = c.next.new.self in
    let gone = c.in-Some.ensures.steps in
    let past = ap length gone.0 in
    record {
      line_few = omega (arith, past);
      column_few = omega (arith, past, at.invariant.column_few);
      same = at.invariant.same ∙ feed at.line at.column at.b-iterator.n next.n c.in-Some.b.now at.b-iterator.iter.rest.now next.iter.rest.now gone.0 gone.1 c.if-b-eq10.true;
    }

pub loop-b-preserved : goal.loop-b-preserved
loop-b-preserved c =
    let at = c.loop-b in
    let next = c.next.new.self in
    let gone = c.in-Some.ensures.steps in
    let past = ap length gone.0 in
    record {
      line_few = omega (arith, past);
      column_few = omega (arith, past);
      same = at.invariant.same ∙ no_feed at.line at.column at.b-iterator.n next.n c.in-Some.b.now at.b-iterator.iter.rest.now next.iter.rest.now gone.0 gone.1 c.if-b-eq10.false;
    }
