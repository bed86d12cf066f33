-- The equations by which proofs count and write a file, element by element.
use Rattle.std.specs.Prelude.{◌≡◌, List, [], ◌∷◌, ◌++◌, ℕ, ◌+◌, ◌≤◌, ◌<◌, ℤ, pos, length, get_or, drop}
use Rattle.std.proofs.Common.{sym, ap, ◌∙◌, append_assoc, add-one, length-append, drop_of_length-le, drop-cons}
use Rattle.formula.specs.Formula.{clauses}
use Rattle.text.specs.Text.{numeral}
use Rattle.rule_file.specs.Written.{separator, body, header_text, written}
use Rattle.rule_file_writer.specs.Write.{element_text}

pub element-size : (x : ℤ) → length (element_text x) ≡ length (numeral x) + 1
element-size x = length-append (numeral x) (separator x ∷ [])

-- what is left of a list to write: an element and the rest, or nothing
pub body_split : (l : List ℤ) (i : ℕ) → i < length l → body (drop i l) ≡ element_text (get_or l i (pos 0)) ++ body (drop (i + 1) l)
body_split l i h =
    let x : ℤ = get_or l i (pos 0) in
    let rest : List ℕ = body (drop (i + 1) l) in
    let split : body (drop i l) ≡ numeral x ++ separator x ∷ rest = rw (drop-cons l i (pos 0) h, add-one i) in
    split ∙ sym (append_assoc (numeral x) (separator x ∷ []) rest)

pub body-length_step : (l : List ℤ) (i : ℕ) → i < length l
    → length (body (drop i l)) ≡ length (element_text (get_or l i (pos 0))) + length (body (drop (i + 1) l))
body-length_step l i h =
    ap length (body_split l i h) ∙ length-append (element_text (get_or l i (pos 0))) (body (drop (i + 1) l))

pub body_past : (l : List ℤ) (i : ℕ) → length l ≤ i → body (drop i l) ≡ []
body_past l i h = rw (drop_of_length-le l h)

-- the header and the lines are the file
pub written_parts : (n c : ℕ) (l : List ℤ) → c ≡ length (clauses l) → header_text n c ++ body l ≡ written n l
written_parts n c l e = ap (λ (k : ℕ). header_text n k ++ body l) e

pub written-length : (n c : ℕ) (l : List ℤ) → c ≡ length (clauses l) → length (header_text n c) + length (body l) ≡ length (written n l)
written-length n c l e = sym (length-append (header_text n c) (body l)) ∙ ap length (written_parts n c l e)
