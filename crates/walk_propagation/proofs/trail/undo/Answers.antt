use mathlib.Core.Path.{sym, ◌∙◌}
use Prim.Native.Nat.{ℕ, ◌-◌, ◌≤◌, ◌<◌}
use native.Mathlib.Omega.{arith}
use lib.ListN.{length, get_or, length-set}
use Rattle.walk_propagation.specs.Trail.{undone_step}
use Rattle.walk_propagation.proofs.trail.undo.Goals as goal

-- the variable at a place of the trail that is still to be undone
inside : (c : goal.After-shared_slice_known-1) (j : ℕ) → j < c.loop-k.k → (j < length c.args.trail.now) × ((0 < get_or c.args.trail.now j 0) × (get_or c.args.trail.now j 0 ≤ length c.loop-k.a))
inside c j l =
    let k : j < c.args.to = omega arith in
    (omega (arith, k, c.requires.0), ((c.requires.1 j k).0, omega (arith, (c.requires.1 j k).1, c.loop-k.invariant.0)))

pub loop-k-preserved : goal.loop-k-preserved
loop-k-preserved c =
    let w = inside c (c.loop-k.k - 1) (omega (arith, c.loop-k-test.true)) in (
      length-set c.loop-k.a (get_or c.args.trail.now (c.loop-k.k - 1) 0 - 1) 2 ∙ c.loop-k.invariant.0,
      sym (undone_step c.args.trail.now c.args.from c.loop-k.k c.loop-k.a c.loop-k-test.true w.0 w.1.0) ∙ c.loop-k.invariant.1,
    )
