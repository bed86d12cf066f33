-- `case_calls::forks_case::walk` is safe: the walk is lent what was admitted.
use Rattle.std.proofs.Common.{sym, ◌∙◌, length}
use Rattle.refusal_causes.specs.Admitted.{unrefused}
use Rattle.refusal_causes.specs.Lent.{wished_problem, with_room, refusal_of}
use Rattle.admission_steps.specs.Admission.{counts_of}
use Rattle.admission_steps.specs.Laws.{admitted_by, started}
use Rattle.search_state.specs.ReadyLaws.{startable}
use Rattle.case_calls.proofs.forks_case.walk.Goals as goal

pub walk_into-requires : goal.walk_into-requires
walk_into-requires g c =
    let args = c.args.lent in
    let problem = wished_problem args.n args.rules.now args.row.now args.d in
    let room = length c.args.choice.now in
    let admissible = with_room args.n room problem in
    let told = c.with_room.ensures ∙ started c.admit_wishes-admitted.result problem args.n room c.admit_wishes-admitted.ensures in
    let passed = (admitted_by (refusal_of admissible) (counts_of admissible) c.in-Ok.field-0 (sym told ∙ c.in-Ok.is)).0 in
    startable problem room (unrefused problem args.n room passed)
