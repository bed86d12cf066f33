use Rattle.std.proofs.Common.{[], ◌∷◌, ◌+◌, arith, subst}
use Rattle.writing.specs.Wrote.{Wrote, wrote_next}
use Rattle.writing.proofs.put_all.Goals as goal

pub loop-i-preserved : goal.loop-i-preserved
loop-i-preserved g c =
    let i = c.loop-i.i in
    let one = subst (λ (x : g.row.T.Denot). Wrote (x ∷ []) c.loop-i.out (c.args.at + i) c.put.new.out c.put.result) c.index-list-i.is c.put.ensures in
    let next = wrote_next c.args.list.now i c.index-list-i.result c.loop-i-test.true c.loop-i.invariant one in
    record { place = omega (arith, next.place, c.put.ensures.place); list = next.list }
