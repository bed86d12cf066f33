-- `search_nearest::nearest_with` meets its contract: the least count is the nearest count, and the first choice within it is the first nearest.
use Rattle.std.specs.Prelude.{None, Some}
use Rattle.std.proofs.Common.{◌≡◌, sym, ap, subst, ◌∙◌, ℕ, List, ◌≤◌, arith, length, take}
use Rattle.formula.specs.Formula.{clauses}
use Rattle.choices.specs.Choices.{Model}
use Rattle.distance.specs.Distance.{disagreement, first_within}
use Rattle.search_meaning.specs.Searches.{choice_after, with_broken}
use Rattle.walk.specs.Walk.{walk}
use Rattle.search_state.specs.Tried.{answer_in}
use Rattle.search_nearest.specs.First.{found_model, found_rest, first_answered, first_written}
use Rattle.search_nearest.specs.Least.{Least}
use Rattle.search_nearest.proofs.nearest_with.Goals as goal
use Rattle.search_nearest.proofs.nearest_with.Goals.{In_ok-most, After-least_count-least}

-- the walk found a number
there : (c : In_ok-most) → (walk (length c.args.a.now) (clauses c.args.rules.now) c.args.row.now c.args.total).answer ≡ Some (record { choice = c.walk_from_root-tried.new.a; broken = c.in_ok-most.most })
there c = c.walk_from_root-tried.ensures.root.0 ∙ ap (answer_in c.walk_from_root-tried.new.a) c.in_ok-most.was

pub least_count-least-requires-clause-a_in_bounds : goal.least_count-least-requires-clause-a_in_bounds
least_count-least-requires-clause-a_in_bounds c =
    let after : List ℕ = c.copy_to.new.choice in
    let n : ℕ = length c.args.a.now in
    let model = found_model n c.args.rules.now c.requires.trail_len.1.sound c.args.row.now c.args.total c.walk_from_root-tried.new.a c.in_ok-most.most (there (goal.at.least_count-least-requires-clause-a_in_bounds c).In_ok-most) c.args.choice.now after c.copy_to.ensures in
    subst (λ (j : ℕ). (j ≤ length after) × Model j (clauses c.args.rules.now) (take j after) × (disagreement c.args.row.now (take j after) ≤ c.in_ok-most.most)) (sym c.walk_from_root-tried.auto.a)
    (omega (arith, c.copy_to.auto.choice, c.requires.a_in_bounds.0), model.0, model.1)

-- the least count, of as many variables as were lent
said : (c : After-least_count-least) → Least (length c.args.a.now) (clauses c.args.rules.now) c.args.row.now c.copy_to.new.choice c.least_count-least.new.choice c.least_count-least.result
said c =
    subst (λ (j : ℕ). Least j (clauses c.args.rules.now) c.args.row.now c.copy_to.new.choice c.least_count-least.new.choice c.least_count-least.result) c.walk_from_root-tried.auto.a c.least_count-least.ensures.least

pub returns-clause-answer : goal.returns-clause-answer
returns-clause-answer c =
    first_answered (length c.args.a.now) c.args.rules.now c.requires.trail_len.1.sound c.args.row.now (said (goal.at.returns-clause-answer c).After-least_count-least)

pub returns-clause-output : goal.returns-clause-output
returns-clause-output c =
    let n : ℕ = length c.args.a.now in
    let sound = c.requires.trail_len.1.sound in
    let size : length c.least_count-least.new.a ≡ n = c.least_count-least.auto.a ∙ c.walk_from_root-tried.auto.a in
    let rest = found_rest n c.args.rules.now sound c.args.row.now c.args.total c.walk_from_root-tried.new.a c.in_ok-most.most (there (goal.at.returns-clause-output c).In_ok-most) c.args.choice.now c.copy_to.new.choice c.copy_to.ensures in
    first_written n c.args.rules.now sound c.args.row.now (said (goal.at.returns-clause-output c).After-least_count-least) c.args.choice.now c.make_first.new.choice rest
    (subst (λ (j : ℕ). c.make_first.new.choice ≡ choice_after None (with_broken c.args.row.now (first_within j c.args.rules.now c.args.row.now c.least_count-least.result)) j c.least_count-least.new.choice) size c.make_first.ensures)
