-- `search_nearest::search` meets its contract: refused, or the first nearest choice.
use Rattle.std.specs.Prelude.{Option, Ok}
use Rattle.std.proofs.Common.{refl, sym, ap, subst, ◌∙◌, ℕ, length}
use Rattle.refusal.specs.Reply.{unless}
use Rattle.refusal_causes.specs.Lent.{wished_problem, refusal_of}
use Rattle.admission_steps.specs.Admission.{counts_of}
use Rattle.admission_steps.specs.Laws.{admitted_by, started}
use Rattle.search_meaning.specs.Answers.{NearestMeans, given-answer, nearest_means}
use Rattle.search_meaning.specs.Meaning.{nearest_is}
use Rattle.search_meaning.specs.Searches.{lent_to_search, found, nearest_answer}
use Rattle.search_nearest.proofs.search.Goals as goal

pub returns-clause-reply : goal.returns-clause-reply
returns-clause-reply c =
    let n = c.args.n in
    let room : ℕ = length c.args.choice.now in
    let lent = lent_to_search n c.args.rules.now c.args.row.now 0 room in
    let told = c.with_room.ensures ∙ started c.admit_wishes-admitted.result (wished_problem n c.args.rules.now c.args.row.now 0) n room c.admit_wishes-admitted.ensures in
    let passed = (admitted_by (refusal_of lent) (counts_of lent) c.in_ok-counts.counts (sym told ∙ c.in_ok-counts.was)).0 in
    let w = given-answer (refusal_of lent) (nearest_answer n c.args.rules.now c.args.row.now) n c.args.choice.now passed (Ok c.first_nearest.result) c.first_nearest.new.choice (ap Ok c.first_nearest.ensures.answer) c.first_nearest.ensures.output in
    w.0 ∙ ap (λ (o : Option ℕ). unless (refusal_of lent) (found o)) (nearest_is n c.args.rules.now c.args.row.now)

pub returns-clause-meaning : goal.returns-clause-meaning
returns-clause-meaning c =
    let n = c.args.n in
    let after = c.first_nearest.new.choice in
    subst (NearestMeans n c.args.rules.now c.args.row.now after) (sym (ap Ok c.first_nearest.ensures.answer))
    (nearest_means n c.args.choice.now c.args.rules.now c.args.row.now after (nearest_answer n c.args.rules.now c.args.row.now) refl c.first_nearest.ensures.output)
