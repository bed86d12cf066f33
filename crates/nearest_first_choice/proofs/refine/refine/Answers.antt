use Rattle.std.proofs.Common.{refl, subst, ◌∙◌, arith, ℕ, length, replicate}
use Rattle.choices.specs.Order.{FirstWithin}
use Rattle.formula.specs.Formula.{clauses}
use Rattle.search_state.specs.ReadyLaws.{ready_still}
use Rattle.nearest_first_choice.specs.Fixing.{settled}
use Rattle.nearest_first_choice.specs.Refining.{Refining, refining_start, refining_alive, refining_end}
use Rattle.nearest_first_choice.proofs.refine.refine.Goals as goal
use Rattle.nearest_first_choice.proofs.refine.refine.Goals.{Start}

-- no variable is fixed yet
unfixed : (c : Start) → Refining (length c.args.a.now) (clauses c.args.rules.now) c.args.row.now c.args.d 0 (replicate (length c.args.a.now) 2) c.args.choice.now
unfixed c = refining_start (length c.args.a.now) (clauses c.args.rules.now) c.args.row.now c.args.d c.args.choice.now c.requires.model.0 c.requires.model.1

pub settle_first-tally-requires : goal.settle_first-tally-requires
settle_first-tally-requires c =
    let ready = c.requires.trail_len.1 in
    record { a_len_bound = (ready.few, ready.sound, ready.beside, c.requires.trail_len.0); a_value = refining_alive (unfixed (goal.at.settle_first-tally-requires c).Start) }

pub loop-i-init : goal.loop-i-init
loop-i-init c =
    let ready = c.requires.trail_len.1 in
    record {
      fixing = settled (length c.args.a.now) ready.sound (unfixed (goal.at.loop-i-init c).Start) c.settle_first-tally.ensures.0 c.settle_first-tally.ensures.1;
      ready = ready_still c.settle_first-tally.auto.a ready.witnessed refl ready;
    }

pub returns : goal.returns
returns c =
    subst (λ (k : ℕ). FirstWithin k (clauses c.args.rules.now) c.args.row.now c.args.d c.loop-i.choice) (c.loop-i.auto.a ∙ c.settle_first-tally.auto.a)
    (refining_end c.loop-i.invariant.fixing.fixed.refining (omega arith))
