-- `rule_file_header::has_preamble` meets its contract: the slice's own test.
use Rattle.std.specs.Prelude.{List, ℕ, ◌-◌, eqb, length, take, drop}
use Rattle.std.specs.Cmp.Lexicographic.{pointwise}
use Rattle.std.proofs.Common.{ap, ◌∙◌, arith, take_all, length-drop}
use Rattle.rule_file.specs.Format.{preamble}
use Rattle.rule_file_header.specs.Laws.{starts_pointwise}
use Rattle.rule_file_header.proofs.has_preamble.Goals as goal

pub returns : goal.returns
returns c =
    let s : List ℕ = c.args.file.now in
    let at : ℕ = c.args.at in
    c.starts_with.ensures.value
    ∙ ap (λ (t : List ℕ). pointwise eqb preamble (take 6 t)) (take_all (length s - at) (drop at s) (omega (arith, length-drop at s)))
    ∙ starts_pointwise preamble (drop at s)
