-- What follows from the definitions of specs/ByLines.antt.
use Rattle.std.specs.Prelude.{◌≡◌, refl, Bool, true, false, cond, not, ◌||◌, List, [], ◌∷◌, ◌++◌, ℕ, zero, suc, ◌+◌, ◌<◌, eqb, length, get_or, drop, None, Some}
use Rattle.std.proofs.Common.{sym, ap, ap₂, ◌∙◌, true≢false, append-nil, arith, get_or-drop, eqb-true}
use Rattle.std.proofs.Math.Bool.{and-eq-true_iff, and-false}
use Rattle.std.proofs.lemmas.Bool.{not-true}
use Rattle.formula.specs.Formula.{any}
use Rattle.decimal.specs.Decimal.{number, is_digit, only_digits}
use Rattle.rule_file.specs.Class.{letter_c, minus, class_of}
use Rattle.rule_file.specs.Format.{Header, header, positive, negative, signed}
use Rattle.rule_file.proofs.Laws.{class_other}
use Rattle.rule_file.specs.Tokens.{leading, is_gap, in_token, Token, Position, line_start, between, within, comment, tokens, position_at, tokens_from}
use Rattle.rule_file_comments.proofs.Headers.{header-some, header_feed, no_number}
use Rattle.rule_file_comments.specs.Lines.{is_text}
use Rattle.rule_file_comments.proofs.Shifted.{comment_over}
use Rattle.rule_file_comments.specs.ByLines.{line_tokens, runs}

-- behind a byte of a token, where one is going on, or behind a blank
abbrev behind : Bool → Position
behind true = within
behind false = between

-- A line w, and what comes after it: nothing, or its line feed and other lines. The tokens of these are `rest`, by where they stand.
module _ (s : List ℕ) (rest : ℕ → List Token)
    (cut : (w : List ℕ) → leading in_token (w ++ s) ≡ leading in_token w)
    (next : (going : Bool) (at : ℕ) → tokens (behind going) at s ≡ rest at)
    (first : (at : ℕ) → tokens line_start at s ≡ rest at)
    (ended : (at : ℕ) → tokens comment at s ≡ rest at) where
  line-runs : (w : List ℕ) (going : Bool) (at : ℕ) → is_text w ≡ true → tokens (behind going) at (w ++ s) ≡ runs going at w ++ rest (at + length w)
  line-runs [] going at h =
      let same : at ≡ at + 0 = omega arith in
      next going at ∙ ap rest same
  line-runs (b ∷ w) going at h = go going (is_gap b) refl (line-runs w false (suc at) parts.1) (line-runs w true (suc at) parts.1)
    where
      parts : (not (eqb b 10) ≡ true) × (is_text w ≡ true)
      parts = (and-eq-true_iff (not (eqb b 10)) (is_text w)).0 h

      no_feed : eqb b 10 ≡ false
      no_feed = not-true (eqb b 10) parts.0

      same : suc at + length w ≡ at + suc (length w)
      same = omega arith

      go : (g t : Bool) → is_gap b ≡ t → tokens between (suc at) (w ++ s) ≡ runs false (suc at) w ++ rest (suc at + length w)
          → tokens within (suc at) (w ++ s) ≡ runs true (suc at) w ++ rest (suc at + length w)
          → tokens (behind g) at (b ∷ (w ++ s)) ≡ runs g at (b ∷ w) ++ rest (at + suc (length w))
      go true true e blank token = rw (no_feed, e) (blank ∙ ap (λ (k : ℕ). runs false (suc at) w ++ rest k) same)
      go true false e blank token = rw (no_feed, e) (token ∙ ap (λ (k : ℕ). runs true (suc at) w ++ rest k) same)
      go false true e blank token = rw (no_feed, e) (blank ∙ ap (λ (k : ℕ). runs false (suc at) w ++ rest k) same)
      go false false e blank token =
          rw (no_feed, e)
          (ap₂ (λ (l : List ℕ) (ts : List Token). record { place = at; bytes = b ∷ l } ∷ ts) (cut w) (token ∙ ap (λ (k : ℕ). runs true (suc at) w ++ rest k) same))

  line : (w : List ℕ) (at : ℕ) → is_text w ≡ true → tokens line_start at (w ++ s) ≡ line_tokens at w ++ rest (at + length w)
  line [] at h =
      let same : at ≡ at + 0 = omega arith in
      first at ∙ ap rest same
  line (b ∷ w) at h = go (eqb (class_of b) letter_c) refl
    where
      same : suc at + length w ≡ at + suc (length w)
      same = omega arith

      go : (t : Bool) → eqb (class_of b) letter_c ≡ t → tokens line_start at (b ∷ (w ++ s)) ≡ cond t [] (runs false at (b ∷ w)) ++ rest (at + suc (length w))
      go true e = rw (e) (comment_over s rest ended w (suc at) ((and-eq-true_iff (not (eqb b 10)) (is_text w)).0 h).1 ∙ ap rest same)
      go false e =
          let plain : tokens line_start at (b ∷ (w ++ s)) ≡ tokens between at (b ∷ (w ++ s)) = rw (e) in
          plain ∙ line-runs (b ∷ w) false at h

-- a run ends before a line feed
feed_ends : (r w : List ℕ) → leading in_token (w ++ 10 ∷ r) ≡ leading in_token w
unfolding class_of
feed_ends r [] = refl
feed_ends r (x ∷ w) = ap (λ (l : List ℕ). cond (in_token x) (x ∷ l) []) (feed_ends r w)

feed_next : (r : List ℕ) (going : Bool) (at : ℕ) → tokens (behind going) at (10 ∷ r) ≡ tokens line_start (suc at) r
feed_next r true at = refl
feed_next r false at = refl

feed_first : (r : List ℕ) (at : ℕ) → tokens line_start at (10 ∷ r) ≡ tokens line_start (suc at) r
unfolding class_of
feed_first r at = refl

none_next : (going : Bool) (at : ℕ) → tokens (behind going) at [] ≡ []
none_next going at = refl

-- The tokens of a line and of those behind it.
pub line_by_line : (w r : List ℕ) (at : ℕ) → is_text w ≡ true → tokens line_start at (w ++ 10 ∷ r) ≡ line_tokens at w ++ tokens line_start (suc (at + length w)) r
line_by_line w r at h =
    line (10 ∷ r) (λ (k : ℕ). tokens line_start (suc k) r) (feed_ends r) (feed_next r) (feed_first r) (λ k. refl) w at h

-- The tokens of a last line without a line feed.
pub last_line : (w : List ℕ) (at : ℕ) → is_text w ≡ true → tokens line_start at w ≡ line_tokens at w
last_line w at h =
    sym (ap (tokens line_start at) (append-nil w))
    ∙ line [] (λ (k : ℕ). []) (λ v. ap (leading in_token) (append-nil v)) none_next (λ k. refl) (λ k. refl) w at h
    ∙ append-nil (line_tokens at w)

-- Behind the header a line begins, so what reading takes for the tokens of a file are those of the lines there.
pub body_lines : (file : List ℕ) (at : ℕ) (h : Header) → header (drop at file) ≡ Some h → tokens_from file (at + h.size) ≡ tokens line_start (at + h.size) (drop (at + h.size) file)
body_lines file at h e = go h.size refl (header-some (drop at file) h e)
  where
    go : (size : ℕ) → h.size ≡ size → 0 < size → tokens_from file (at + size) ≡ tokens line_start (at + size) (drop (at + size) file)
    go zero f l = absurd (omega arith)
    go (suc k) f l =
        let next : at + suc k ≡ suc (at + k) = omega arith in
        let feed : get_or file (at + k) 0 ≡ 10 = sym (get_or-drop at file k 0) ∙ header_feed (drop at file) h e k f in
        let place : position_at file (at + suc k) ≡ line_start = ap (position_at file) next ∙ ap (λ (b : ℕ). cond (eqb b 10) line_start between) feed in
        ap (λ (p : Position). tokens p (at + suc k) (drop (at + suc k) file)) place

-- a word with a `c` in it is no number
letter_digits : (w : List ℕ) → any (λ (b : ℕ). eqb (class_of b) letter_c) w ≡ true → only_digits w ≡ false
letter_digits [] e = absurd (true≢false (sym e))
letter_digits (b ∷ w) e = go (eqb (class_of b) letter_c) refl (λ f. letter_digits w f) e
  where
    go : (t : Bool) → eqb (class_of b) letter_c ≡ t → (any (λ (b : ℕ). eqb (class_of b) letter_c) w ≡ true → only_digits w ≡ false)
        → t || any (λ (b : ℕ). eqb (class_of b) letter_c) w ≡ true → only_digits (b ∷ w) ≡ false
    go true f later g = let none : is_digit b ≡ false = class_other b (λ d. omega (arith, eqb-true (class_of b) letter_c f, d)) in rw none
    go false f later g = rw (later g) (and-false (is_digit b))

-- A token with a `c` in it is malformed (document 02, L1): "A `c` inside a line still makes a malformed token."
pub letter_malformed : (w : List ℕ) → any (λ (b : ℕ). eqb (class_of b) letter_c) w ≡ true → signed w ≡ None
letter_malformed [] e = refl
letter_malformed (b ∷ w) e = go (eqb (class_of b) minus) refl
  where
    go : (t : Bool) → eqb (class_of b) minus ≡ t → cond t (negative (number w)) (positive (number (b ∷ w))) ≡ None
    go true f =
        let other : eqb (class_of b) letter_c ≡ false = ap (λ (k : ℕ). eqb k letter_c) (eqb-true (class_of b) minus f) in
        let rest : any (λ (c : ℕ). eqb (class_of c) letter_c) w ≡ true = rw (other) at e in
        ap negative (no_number w (letter_digits w rest))
    go false f = ap positive (no_number (b ∷ w) (letter_digits (b ∷ w) e))
