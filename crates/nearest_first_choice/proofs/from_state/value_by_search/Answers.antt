-- `nearest_first_choice::from_state::value_by_search` meets its contract: what the search from a copy of the state comes to, guided by the choice at hand.
use Rattle.std.proofs.Common.{subst, arith, ℕ, length}
use Rattle.std.proofs.Math.Seq.{length-take-le}
use Rattle.nearest_cores.specs.SearchRight.{Guides}
use Rattle.nearest_first_choice.specs.Deciding.{decided_off, decided_on}
use Rattle.nearest_first_choice.proofs.from_state.value_by_search.Goals as goal
use Rattle.nearest_first_choice.proofs.from_state.value_by_search.Goals.{After-write_guide}

guides : (c : After-write_guide) → Guides (length c.args.a.now) c.args.row.now c.write_guide.new.guide
guides c =
    subst (λ (k : ℕ). Guides k c.args.row.now c.write_guide.new.guide) (length-take-le _ _ (omega (arith, c.requires.ready.0.few))) c.write_guide.ensures

pub returns-in-Some-clause-decided : goal.returns-in-Some-clause-decided
returns-in-Some-clause-decided c =
    decided_off c.args.rules.now c.requires.ready.0.sound (guides (goal.at.returns-in-Some-clause-decided c).After-write_guide) c.args.d c.requires.searching.0.state c.args.v.0
    c.copy_from_slice.new.self c.search_off.new.a c.search_off.result c.copy_from_slice.ensures.after c.search_off.ensures.found c.args.choice.now
    c.in-Some.is c.copy_from_slice-in-Some.new.self c.copy_from_slice-in-Some.ensures.after

pub returns-in-None-clause-decided : goal.returns-in-None-clause-decided
returns-in-None-clause-decided c =
    decided_on c.args.rules.now c.requires.ready.0.sound (guides (goal.at.returns-in-None-clause-decided c).After-write_guide) c.args.d c.requires.searching.0.state c.args.v.0
    c.copy_from_slice.new.self c.search_off.new.a c.search_off.result c.copy_from_slice.ensures.after c.search_off.ensures.found c.args.choice.now c.in-None.is
