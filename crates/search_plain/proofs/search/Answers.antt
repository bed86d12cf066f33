-- `search_plain::search` meets its contract: refused, or what the walk without wishes comes to.
use Rattle.std.specs.Prelude.{Ok}
use Rattle.std.proofs.Common.{◌≡◌, refl, sym, ap, subst, ◌∙◌, ℕ, List, length}
use Rattle.std.proofs.lemmas.List.{take-replicate}
use Rattle.formula.specs.Formula.{clauses}
use Rattle.wish.specs.Wish.{free_byte}
use Rattle.refusal_causes.specs.Admitted.{unrefused}
use Rattle.refusal_causes.specs.Lent.{plain_problem, refusal_of}
use Rattle.admission_steps.specs.Admission.{counts_of}
use Rattle.admission_steps.specs.Laws.{admitted_by, started}
use Rattle.walk.specs.Walk.{walk, plain_walk}
use Rattle.search_meaning.specs.Answers.{PlainMeans, given-answer, plain_means}
use Rattle.search_meaning.specs.Searches.{lent_to_plain, broken_by}
use Rattle.walk_root.specs.Into.{Reaches}
use Rattle.search_plain.proofs.search.Goals as goal

pub returns : goal.returns
returns c =
    let n = c.args.n in
    let room : ℕ = length c.args.choice.now in
    let problem = plain_problem n c.args.rules.now in
    let lent = lent_to_plain n c.args.rules.now room in
    let told = c.with_room.ensures ∙ started c.admit_rules-admitted.result problem n room c.admit_rules-admitted.ensures in
    let passed = (admitted_by (refusal_of lent) (counts_of lent) c.in_ok-with_room.field-0 (sym told ∙ c.in_ok-with_room.was)).0 in
    let ready = (unrefused problem n room passed).0 in
    let answer = (plain_walk n (clauses c.args.rules.now)).answer in
    let after : List ℕ = c.walk_into.new.choice in
    let reaches = subst (λ (row : List ℕ). Reaches (walk n (clauses c.args.rules.now) row 0) n c.args.choice.now after c.walk_into.result) (take-replicate n 640 free_byte ready.most) c.walk_into.ensures in
    let answered : c.answer_of.result ≡ Ok (broken_by answer) = c.answer_of.ensures ∙ ap Ok reaches.answered in
    let w = given-answer (refusal_of lent) answer n c.args.choice.now passed c.answer_of.result after answered reaches.output in
    record {
      reply = w.0;
      output = w.1;
      meaning = subst (PlainMeans n c.args.rules.now after) (sym answered) (plain_means n c.args.choice.now c.args.rules.now ready.sound_rules after answer refl reaches.output);
    }
