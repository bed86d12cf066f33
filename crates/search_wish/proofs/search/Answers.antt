-- `search_wish::search` meets its contract: refused, or what the walk comes to.
use Rattle.std.specs.Prelude.{Option, Ok}
use Rattle.std.proofs.Common.{refl, sym, ap, subst, ◌∙◌, ℕ, length}
use Rattle.formula.specs.Formula.{clauses}
use Rattle.refusal_causes.specs.Admitted.{unrefused}
use Rattle.refusal_causes.specs.Lent.{wished_problem, refusal_of}
use Rattle.admission_steps.specs.Admission.{counts_of}
use Rattle.admission_steps.specs.Laws.{admitted_by, started}
use Rattle.walk.specs.Walk.{walk}
use Rattle.search_meaning.specs.Answers.{SearchMeans, search_means}
use Rattle.search_meaning.specs.Searches.{lent_to_search, broken_by}
use Rattle.search_wish.proofs.search.Goals as goal

pub returns-clause-meaning : goal.returns-clause-meaning
returns-clause-meaning c =
    let n = c.args.n in
    let room : ℕ = length c.args.choice.now in
    let problem = wished_problem n c.args.rules.now c.args.row.now c.args.d in
    let lent = lent_to_search n c.args.rules.now c.args.row.now c.args.d room in
    let told = c.with_room.ensures ∙ started c.admit_wishes-admitted.result problem n room c.admit_wishes-admitted.ensures in
    let passed = (admitted_by (refusal_of lent) (counts_of lent) c.in_ok-with_room.field-0 (sym told ∙ c.in_ok-with_room.was)).0 in
    let answer = (walk n (clauses c.args.rules.now) c.args.row.now c.args.d).answer in
    subst (SearchMeans n c.args.rules.now c.args.row.now c.args.d c.walk_into.new.choice) (sym (c.answer_of.ensures ∙ ap Ok c.walk_into.ensures.answered))
    (search_means n c.args.choice.now c.args.rules.now (unrefused problem n room passed).0.sound_rules c.args.row.now c.walk_into.new.choice c.args.d answer refl c.walk_into.ensures.output)
