-- The equations by which proofs count and put the wishes, byte by byte.
use Rattle.std.specs.Prelude.{◌≡◌, refl, Bool, true, false, cond, List, [], ◌∷◌, ◌++◌, ℕ, suc, ◌+◌, ◌≤◌, ◌<◌, ltb, ℤ, pos, ◌-ℤ◌, length, get_or, drop}
use Rattle.std.proofs.Common.{sym, ap, ap₂, ◌∙◌, append-nil, add-one, arith, length-append, drop_of_length-le, drop-cons, lt-ltb}
use Rattle.wish.specs.Laws.{on-weight, weight-most}
use Rattle.wish.specs.Wish.{is_wish, weight, max_weight, keeping, on_weight, wish_count, wished_on}
use Rattle.opb_pseudo_boolean.specs.Export.{term, wish_terms, wish_constraint, wish_constraints}
use Rattle.opb_format.specs.Opb.{term_text, terms_text, bound_text, line_text, lines_text}

-- a byte adds at most a wish's weight to what the wishes for on weigh
pub on-weight-most : (w : ℕ) → on_weight w ≤ max_weight
on-weight-most w = omega (arith, on-weight w, weight-most w)

-- what the wishes for on weigh in what is left of a row: that of its first byte and of the rest; nothing past its end
pub on_step : (row : List ℕ) (i : ℕ) → i < length row → wished_on (drop i row) ≡ on_weight (get_or row i 0) + wished_on (drop (i + 1) row)
on_step row i h = rw (drop-cons row i 0 h, add-one i)

pub on_end : (row : List ℕ) (i : ℕ) → length row ≤ i → wished_on (drop i row) ≡ 0
on_end row i h = rw (drop_of_length-le row h)

-- the text of one byte of a row: none for a free variable, and the term of a wish
pub term_free : (v w : ℕ) → is_wish w ≡ false → terms_text (wish_terms v (w ∷ [])) ≡ []
term_free v w e = ap (λ (t : Bool). terms_text (cond t (term (weight w) (keeping v w) ∷ []) [])) e

pub term_wish : (v w k : ℕ) (x : ℤ) → is_wish w ≡ true → k ≡ weight w → x ≡ keeping v w → term_text (term k x) ≡ terms_text (wish_terms v (w ∷ []))
term_wish v w k x e p q =
    ap₂ (λ (n : ℕ) (y : ℤ). term_text (term n y)) p q
    ∙ sym (
    ap (λ (t : Bool). terms_text (cond t (term (weight w) (keeping v w) ∷ []) [])) e
    ∙ append-nil (term_text (term (weight w) (keeping v w)))
    )

-- the terms of what is left of a row: that of its first byte, and those of the rest; none past its end
terms_cons : (v w : ℕ) (row : List ℕ) → terms_text (wish_terms v (w ∷ row)) ≡ terms_text (wish_terms v (w ∷ [])) ++ terms_text (wish_terms (suc v) row)
terms_cons v w row = go (is_wish w)
  where
    go : (t : Bool)
        → terms_text (cond t (term (weight w) (keeping v w) ∷ wish_terms (suc v) row) (wish_terms (suc v) row))
        ≡ terms_text (cond t (term (weight w) (keeping v w) ∷ []) []) ++ terms_text (wish_terms (suc v) row)
    go true = ap (λ (l : List ℕ). l ++ terms_text (wish_terms (suc v) row)) (sym (append-nil (term_text (term (weight w) (keeping v w)))))
    go false = refl

module _ (row : List ℕ) (i : ℕ) (h : i < length row) where
  abbrev pub here : List ℕ
  here = terms_text (wish_terms (i + 1) (get_or row i 0 ∷ []))

  abbrev pub rest : List ℕ
  rest = terms_text (wish_terms (i + 1 + 1) (drop (i + 1) row))

  pub terms_split : terms_text (wish_terms (i + 1) (drop i row)) ≡ here ++ rest
  terms_split = rw (drop-cons row i 0 h, add-one (i + 1), add-one i) (terms_cons (suc i) (get_or row i 0) (drop (suc i) row))

  pub terms_length : length (terms_text (wish_terms (i + 1) (drop i row))) ≡ length here + length rest
  terms_length = ap length terms_split ∙ length-append here rest

pub terms_end : (row : List ℕ) (i v : ℕ) → length row ≤ i → terms_text (wish_terms v (drop i row)) ≡ []
terms_end row i v h = rw (drop_of_length-le row h)

-- the line of so many wishes: none without a wish, else the terms and the bound
module _ (row : List ℕ) (m d : ℕ) (count : m ≡ wish_count row) where
  pub line_none : m ≡ 0 → lines_text (wish_constraints row d) ≡ []
  line_none none = ap (λ (k : ℕ). lines_text (cond (ltb 0 k) (wish_constraint row d ∷ []) [])) (sym count ∙ none)

  pub line_parts : (m ≡ 0 → ⊥) → (on : ℕ) → on ≡ wished_on row → terms_text (wish_terms 1 row) ++ bound_text (pos on -ℤ pos d) ≡ lines_text (wish_constraints row d)
  line_parts some on e =
      ap (λ (k : ℕ). terms_text (wish_terms 1 row) ++ bound_text (pos k -ℤ pos d)) e
      ∙ sym (
      ap (λ (t : Bool). lines_text (cond t (wish_constraint row d ∷ []) [])) (lt-ltb 0 (wish_count row) (omega arith))
      ∙ append-nil (line_text (wish_constraint row d))
      )

  pub line-length : (m ≡ 0 → ⊥) → (on : ℕ) → on ≡ wished_on row
      → length (terms_text (wish_terms 1 row)) + length (bound_text (pos on -ℤ pos d)) ≡ length (lines_text (wish_constraints row d))
  line-length some on e = sym (length-append (terms_text (wish_terms 1 row)) (bound_text (pos on -ℤ pos d))) ∙ ap length (line_parts some on e)
