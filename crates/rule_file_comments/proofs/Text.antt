-- A walk over the bytes of a comment's text.
use Rattle.std.specs.Prelude.{◌≡◌, true, false, not, List, [], ◌∷◌, ◌++◌, ℕ, suc, ◌+◌, eqb, length}
use Rattle.std.proofs.Common.{ap, ◌∙◌, arith}
use Rattle.std.proofs.Math.Bool.{and-eq-true_iff}
use Rattle.std.proofs.lemmas.Bool.{not-true}
use Rattle.rule_file_comments.specs.Lines.{is_text}

-- Where each byte that is no line feed leaves what a walk from a place on comes to as it is, it comes to that of what follows the text.
pub over : {A : Type 0} (walk : ℕ → List ℕ → A) (s : List ℕ) (rest : ℕ → A) → ((b at : ℕ) (r : List ℕ) → eqb b 10 ≡ false → walk at (b ∷ r) ≡ walk (suc at) r)
    → ((at : ℕ) → walk at s ≡ rest at) → (text : List ℕ) (at : ℕ) → is_text text ≡ true → walk at (text ++ s) ≡ rest (at + length text)
over walk s rest on end [] at h =
    let same : at ≡ at + 0 = omega arith in
    end at ∙ ap rest same
over walk s rest on end (b ∷ text) at h =
    let parts = (and-eq-true_iff (not (eqb b 10)) (is_text text)).0 h in
    let same : suc at + length text ≡ at + suc (length text) = omega arith in
    on b at (text ++ s) (not-true (eqb b 10) parts.0) ∙ over walk s rest on end text (suc at) parts.1 ∙ ap rest same
