-- `search_state::preparing::prepare` meets its contract: where the clauses begin, which the arrangement has, are the first witnesses.
use Rattle.std.proofs.Common.{◌≡◌, List, ℕ, ◌++◌, ap, ◌∙◌, append-nil, arith, length}
use Rattle.std.proofs.Math.ListN.{drop_of_length-le}
use Rattle.walk_occurrences.proofs.LayoutLaws.{begins-length}
use Rattle.writing.specs.Wrote.{Wrote, wrote_whole}
use Rattle.search_state.specs.ReadyLaws.{prepared}
use Rattle.search_state.proofs.preparing.prepare.Goals as goal

-- numbers written over a list of the same length take its place
over : {w l m : List ℕ} {i : ℕ} → Wrote w l 0 m i → length w ≡ length l → m ≡ w
over {w} {l} a long =
    wrote_whole a (omega (arith, long))
    ∙ ap (λ (rest : List ℕ). w ++ rest) (drop_of_length-le l (omega (arith, long)))
    ∙ append-nil w

pub put_all-requires : goal.put_all-requires
put_all-requires c =
    let long = begins-length c.arrange.new.arrangement (omega (arith, c.arrange.ensures.room)) in
    omega (arith, c.requires, ap length c.begins_of.ensures, long)

pub returns : goal.returns
returns c =
    let long = begins-length c.arrange.new.arrangement (omega (arith, c.arrange.ensures.room)) in
    let first = over c.put_all.ensures (omega (arith, c.requires, ap length c.begins_of.ensures, long)) in
    prepared c.arrange.ensures (first ∙ c.begins_of.ensures) c.clause_count.ensures
