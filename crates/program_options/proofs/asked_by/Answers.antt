-- `program_options::asked_by` meets its contract: std compares two texts as the definition does.
use Rattle.std.proofs.Common.{◌≡◌, refl, Bool, false, ◌&&◌, List, [], ◌∷◌, ℕ, sym, ap, ◌∙◌, eqb}
use lib.Pointwise.{pointwise}
use Rattle.words.specs.Words.{ascii}
use Rattle.program_options.specs.Laws.{by_version}
use Rattle.program_options.specs.Options.{same_bytes}
use Rattle.program_options.proofs.asked_by.Goals as goal

same : (a b : List ℕ) → same_bytes a b ≡ pointwise eqb a b
same [] [] = refl
same [] (y ∷ b) = refl
same (x ∷ a) [] = refl
same (x ∷ a) (y ∷ b) = ap (λ (t : Bool). eqb x y && t) (same a b)

-- a word that differs from another, as std finds
differs : (word text bytes : List ℕ) (t : Bool) → bytes ≡ text → t ≡ pointwise eqb word bytes → t ≡ false → same_bytes word text ≡ false
differs word text bytes t e f g = same word text ∙ ap (pointwise eqb word) (sym e) ∙ sym f ∙ g

pub returns : goal.returns
returns c =
    let word = c.args.word.now in
    by_version word false
    (differs word (ascii "--help") c.as_slice.result.now c.eq.result c.as_slice.ensures c.eq.ensures c.if-eq.false)
    (differs word (ascii "--version") c.as_slice-2.result.now c.eq-2.result c.as_slice-2.ensures c.eq-2.ensures c.if-eq-2.false)
