-- What follows from the definitions of specs/Preface.antt.
use Rattle.std.specs.Prelude.{◌≡◌, refl, Bool, true, false, cond, not, List, [], ◌∷◌, ◌++◌, ◌⊎◌, ℕ, suc, ◌+◌, eqb, length}
use Rattle.std.proofs.Common.{sym, ap, ◌∙◌, inl, inr, arith}
use Rattle.rule_file.specs.Class.{letter_c, class_of}
use Rattle.rule_file.specs.Format.{past_comments}
use Rattle.rule_file.proofs.TokenLaws.{letter_line}
use Rattle.rule_file_comments.specs.Lines.{is_text, ends_line}
use Rattle.rule_file_comments.proofs.Text.{over}
use Rattle.rule_file_comments.specs.Preface.{Passes, Stops}

-- bytes that stand so much later have their first line that is no comment so much later
pub past_later : (by : ℕ) (inside : Bool) (at : ℕ) (s : List ℕ) → past_comments inside (at + by) s ≡ past_comments inside at s + by
past_later by inside at [] = refl
past_later by false at (b ∷ s) = go (eqb (class_of b) letter_c) (past_later by true (suc at) s)
  where
    go : (t : Bool) → past_comments true (suc at + by) s ≡ past_comments true (suc at) s + by
        → cond t (past_comments true (suc (at + by)) s) (at + by) ≡ cond t (past_comments true (suc at) s) at + by
    go true e =
        let same : suc (at + by) ≡ suc at + by = omega arith in
        ap (λ (k : ℕ). past_comments true k s) same ∙ e
    go false e = refl
past_later by true at (b ∷ s) =
    let same : suc (at + by) ≡ suc at + by = omega arith in
    ap (λ (k : ℕ). past_comments (not (eqb b 10)) k s) same ∙ past_later by (not (eqb b 10)) (suc at) s

-- the rest of a comment line, or of one that ends with the file
pub past_over : (s : List ℕ) (rest : ℕ → ℕ) → ((at : ℕ) → past_comments true at s ≡ rest at) → (text : List ℕ) (at : ℕ) → is_text text ≡ true
    → past_comments true at (text ++ s) ≡ rest (at + length text)
past_over s rest end text at h = over (past_comments true) s rest (λ b k r e. ap (λ (t : Bool). past_comments (not t) (suc k) r) e) end text at h

further : (inside inside' : Bool) (at b : ℕ) (s : List ℕ) → ((x : List ℕ) → past_comments inside at (b ∷ (s ++ x)) ≡ past_comments inside' (suc at) (s ++ x))
    → Passes inside' (suc at) s ⊎ Stops inside' (suc at) s → Passes inside at (b ∷ s) ⊎ Stops inside at (b ∷ s)
further inside inside' at b s e (inl p) =
    let same : suc at + length s ≡ at + suc (length s) = omega arith in
    inl (λ x. e x ∙ p x ∙ ap (λ (k : ℕ). past_comments false k x) same)
further inside inside' at b s e (inr p) =
    let same : suc at + p.offset ≡ at + suc p.offset = omega arith in
    inr (record { offset = suc p.offset; before = omega (arith, p.before); place = λ x. e x ∙ p.place x ∙ same; ends = p.ends })

pub whole_lines : (front : List ℕ) (t inside : Bool) (at : ℕ) → ends_line t front ≡ true → (t ≡ true → inside ≡ false) → Passes inside at front ⊎ Stops inside at front
whole_lines [] t inside at e start =
    let same : at ≡ at + 0 = omega arith in
    inl (λ x. ap (λ (b : Bool). past_comments b at x) (start e) ∙ ap (λ (k : ℕ). past_comments false k x) same)
whole_lines (b ∷ s) t true at e start =
    further true (not (eqb b 10)) at b s (λ x. refl) (whole_lines s (eqb b 10) (not (eqb b 10)) (suc at) e (λ f. ap not f))
whole_lines (b ∷ s) t false at e start = go (eqb (class_of b) letter_c) refl (λ f. whole_lines s (eqb b 10) true (suc at) e f)
  where
    go : (u : Bool) → eqb (class_of b) letter_c ≡ u → ((eqb b 10 ≡ true → true ≡ false) → Passes true (suc at) s ⊎ Stops true (suc at) s) → Passes false at (b ∷ s) ⊎ Stops false at (b ∷ s)
    go true f later = further false true at b s (λ x. rw f) (later (λ g. sym g ∙ letter_line b f))
    go false f later =
        let same : at ≡ at + 0 = omega arith in
        inr (record { offset = 0; before = omega arith; place = λ x. rw (f) same; ends = e })
