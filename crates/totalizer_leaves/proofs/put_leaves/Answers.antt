use Rattle.std.proofs.Common.{ℕ, ℤ, replicate, ap₂, ◌∙◌, arith}
use Rattle.literal.specs.Laws.{as_read}
use Rattle.writing.specs.Wrote.{wrote_as, wrote_more, wrote_length}
use Rattle.totalizer_leaves.specs.Leaves.{leaves_next, leaves_room}
use Rattle.totalizer_leaves.proofs.put_leaves.Goals as goal

pub put_times-at-requires : goal.put_times-at-requires
put_times-at-requires c =
    omega (
      arith,
      leaves_room c.args.row.now c.loop-i.i c.loop-i-test.true,
      c.weight_of.ensures,
      c.loop-i.invariant.place,
      wrote_length c.loop-i.invariant,
      c.requires.1,
    )

pub loop-i-preserved : goal.loop-i-preserved
loop-i-preserved c =
    let own = ap₂ (λ (k : ℕ) (x : ℤ). replicate k x) c.weight_of.ensures (as_read c.breaking_of-leaf.result c.breaking_of-leaf.type_inv ∙ c.breaking_of-leaf.ensures) in
    wrote_as (leaves_next c.args.row.now c.loop-i.i c.loop-i-test.true) (wrote_more c.loop-i.invariant (wrote_as own c.put_times-at.ensures))
