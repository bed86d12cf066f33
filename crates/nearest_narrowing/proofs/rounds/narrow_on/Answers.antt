use Rattle.std.specs.Prelude.{Ok, Err}
use Rattle.std.proofs.Common.{ℕ}
use Rattle.std.proofs.lemmas.Result.{err_from_is_err_and}
use Rattle.formula.specs.Formula.{clauses}
use Rattle.nearest_narrowing.specs.declared.rounds.Round.TheVariants.{Narrowed, Kept}
use Rattle.nearest_narrowing.specs.Rounds.{RoundBy, narrowing_sized, narrowing_dead, narrowing_end, narrowing_next}
use Rattle.nearest_narrowing.proofs.rounds.narrow_on.Goals as goal

pub returns-in_err-t : goal.returns-in_err-t
returns-in_err-t c =
    let p = err_from_is_err_and c.from_residual.result c.from_residual.ensures.1 in
    let said = narrowing_sized c.loop-t.invariant (λ (n : ℕ). RoundBy n (clauses c.args.rules.now) c.args.row.now c.args.d c.loop-t.present c.loop-t.a c.loop-t.trail c.narrow_round.new.a c.narrow_round.new.trail (Err c.in_err-t.field-0.0)) c.in_err-t.ensures in
    rw (p.1, p.2) (narrowing_dead c.loop-t.invariant said)

pub returns-in-Narrowed : goal.returns-in-Narrowed
returns-in-Narrowed c =
    let said = rw c.in-Narrowed.is at c.in_ok-t.ensures in
    narrowing_end c.loop-t.invariant
    (narrowing_sized c.loop-t.invariant (λ (n : ℕ). RoundBy n (clauses c.args.rules.now) c.args.row.now c.args.d c.loop-t.present c.loop-t.a c.loop-t.trail c.narrow_round.new.a c.narrow_round.new.trail (Ok (Narrowed c.in-Narrowed.t))) said)

pub loop-t-preserved : goal.loop-t-preserved
loop-t-preserved c =
    let said = rw c.in-Kept.is at c.in_ok-t.ensures in
    narrowing_next c.loop-t.invariant
    (narrowing_sized c.loop-t.invariant (λ (n : ℕ). RoundBy n (clauses c.args.rules.now) c.args.row.now c.args.d c.loop-t.present c.loop-t.a c.loop-t.trail c.narrow_round.new.a c.narrow_round.new.trail (Ok (Kept c.in-Kept.place c.in-Kept.t))) said)
