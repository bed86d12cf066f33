-- `checking::check` meets its contract: refused for what was lent, or answered.
use Rattle.std.proofs.Common.{sym, ◌∙◌}
use Rattle.refusal_causes.specs.Admitted.{admitted}
use Rattle.refusal_causes.specs.Laws.{sound_weight}
use Rattle.refusal_causes.specs.Lent.{unadmitted}
use Rattle.admission_steps.specs.Admission.{counts_of}
use Rattle.admission_steps.specs.Laws.{admitted_by}
use Rattle.checking.specs.Check.{lent_to_check}
use Rattle.checking.proofs.check.Goals as goal

pub judge-requires : goal.judge-requires
judge-requires c =
    let s = lent_to_check c.args.n c.args.rules.now c.args.row.now c.args.choice.now in
    let known = admitted_by (unadmitted s) (counts_of s) c.in_ok-admit_choice.field-0 (sym c.admit_choice.ensures ∙ c.in_ok-admit_choice.was) in
    sound_weight c.args.row.now (admitted s known.0).sound_row
