-- What follows from the definitions of specs/TokenLaws.antt.
use Rattle.std.specs.Prelude.{◌≡◌, refl, Bool, true, false, cond, not, ◌&&◌, List, [], ◌∷◌, ◌++◌, ℕ, zero, suc, ◌+◌, ◌≤◌, ◌<◌, eqb, ltb, length, get_or, drop}
use Rattle.std.proofs.Common.{sym, ap, ap₂, subst, ◌∙◌, true≢false, not-suc-le-zero, add-zero, add-one, arith, drop_of_length-le, length-drop, drop-cons, drop-drop, get_or-drop, ltb-true, ltb-false, eqb-true}
use Rattle.std.proofs.Math.Bool.{and-false, and-eq-true_iff}
use Rattle.std.proofs.lemmas.Bool.{not-true, not-false}
use Rattle.formula.specs.Formula.{all}
use Rattle.rule_file.specs.Class.{blank, letter_c, class_of}
use Rattle.rule_file.specs.Format.{before}
use Rattle.rule_file.specs.Tokens.{leading, is_gap, in_token, Token, Position, line_start, between, within, comment, is_within, opens_comment, past_byte, step, begins, starting, tokens, position_at, tokens_from}
use Rattle.rule_file.proofs.Laws.{leading_seam, run_byte, run_inside, run_more}
use Rattle.rule_file.specs.TokenLaws.{Shaped, may_begin}

line_or_blank : (t : Bool) → may_begin (cond t line_start between) ≡ true
line_or_blank true = refl
line_or_blank false = refl

-- a line feed is blank, so a byte of a token is none
pub no_line_feed : (b : ℕ) → in_token b ≡ true → eqb b 10 ≡ false
unfolding class_of
no_line_feed b e = go (eqb b 10) refl
  where
    go : (t : Bool) → eqb b 10 ≡ t → eqb b 10 ≡ false
    go true f = absurd (true≢false (sym e ∙ ap in_token (eqb-true b 10 f)))
    go false f = f

-- only the letter c opens a comment
pub letter_opens : (p : Position) (b : ℕ) → eqb (class_of b) letter_c ≡ false → opens_comment p b ≡ false
letter_opens line_start b e = e
letter_opens between b e = refl
letter_opens within b e = refl
letter_opens comment b e = refl

blank-opens_none : (p : Position) (b : ℕ) → is_gap b ≡ true → opens_comment p b ≡ false
blank-opens_none p b e = letter_opens p b (ap (λ (k : ℕ). eqb k letter_c) (eqb-true (class_of b) blank e))

-- What a byte does to a position: one of a token, one that opens a comment, and one that opens none where a token may begin.
past_token_byte : (b : ℕ) → in_token b ≡ true → past_byte b ≡ within
past_token_byte b e = rw (no_line_feed b e, not-true (is_gap b) e)

opened : (p : Position) (b : ℕ) → opens_comment p b ≡ true → (step p b ≡ comment) × (in_token b ≡ true)
opened p b e = (opens p e, ap not (go (is_gap b) refl))
  where
    opens : (p : Position) → opens_comment p b ≡ true → step p b ≡ comment
    opens line_start f = rw f
    opens between f = absurd (true≢false (sym f))
    opens within f = absurd (true≢false (sym f))
    opens comment f = absurd (true≢false (sym f))

    go : (t : Bool) → is_gap b ≡ t → is_gap b ≡ false
    go true f = absurd (true≢false (sym e ∙ blank-opens_none p b f))
    go false f = f

step_past : (p : Position) (b : ℕ) → may_begin p ≡ true → opens_comment p b ≡ false → step p b ≡ past_byte b
step_past line_start b o e = rw e
step_past between b o e = refl
step_past within b o e = refl
step_past comment b o e = absurd (true≢false (sym o))

-- the letter c is no line feed
pub letter_line : (b : ℕ) → eqb (class_of b) letter_c ≡ true → eqb b 10 ≡ false
letter_line b e = no_line_feed b (opened line_start b e).1

-- only a byte of a token has one within behind it
blank_past : (b : ℕ) → is_gap b ≡ true → past_byte b ≡ cond (eqb b 10) line_start between
blank_past b e = rw e

outside-line : (t : Bool) → is_within (cond t line_start between) ≡ false
outside-line true = refl
outside-line false = refl

outside_comment : (t : Bool) → is_within (cond t line_start comment) ≡ false
outside_comment true = refl
outside_comment false = refl

step_blank : (p : Position) (b : ℕ) → is_gap b ≡ true → is_within (step p b) ≡ false
step_blank line_start b e = rw (blank-opens_none line_start b e, e) (outside-line (eqb b 10))
step_blank between b e = rw (e) (outside-line (eqb b 10))
step_blank within b e = rw (e) (outside-line (eqb b 10))
step_blank comment b e = outside_comment (eqb b 10)

step_inside : (p : Position) (b : ℕ) → is_within (step p b) ≡ true → in_token b ≡ true
step_inside p b e = go (is_gap b) refl
  where
    go : (t : Bool) → is_gap b ≡ t → in_token b ≡ true
    go true f = absurd (true≢false (sym e ∙ step_blank p b f))
    go false f = ap not f

-- so where a token may begin, a byte of one begins it unless it opens a comment, and a blank begins none
not_within : (p : Position) → may_begin p ≡ true → is_within p ≡ false
not_within line_start o = refl
not_within between o = refl
not_within within o = absurd (true≢false (sym o))
not_within comment o = refl

pub token_begins : (p : Position) (b : ℕ) → may_begin p ≡ true → in_token b ≡ true → opens_comment p b ≡ false → begins p b ≡ true
token_begins p b o e f = rw (not_within p o, step_past p b o f ∙ past_token_byte b e)

begins_none : (p : Position) (b : ℕ) → is_within (step p b) ≡ false → begins p b ≡ false
begins_none p b e = rw (e) (and-false (not (is_within p)))

-- the byte that begins a token is one's, and stands where none is going on
is_within_lem : (p : Position) → is_within p ≡ true → p ≡ within
is_within_lem line_start e = absurd (true≢false (sym e))
is_within_lem between e = absurd (true≢false (sym e))
is_within_lem within e = refl
is_within_lem comment e = absurd (true≢false (sym e))

pub begun : (p : Position) (b : ℕ) → begins p b ≡ true → (step p b ≡ within) × (in_token b ≡ true)
begun p b e =
    let inside : is_within (step p b) ≡ true = ((and-eq-true_iff (not (is_within p)) (is_within (step p b))).0 e).1 in
    (is_within_lem (step p b) inside, step_inside p b inside)

-- a token may begin at every kept offset
pub kept_outside : (s : List ℕ) (i : ℕ) → may_begin (position_at s i) ≡ true
kept_outside s zero = refl
kept_outside s (suc k) = line_or_blank (eqb (get_or s k 0) 10)

-- Bytes that pass a test, none of them a line feed, keep a position as it is, and what ends them does there what it does between tokens: so the rest of a token, and that of a comment.
record Keeps (p : ℕ → Bool) (q : Position) : Type 0 where
  on : (b : ℕ) → p b ≡ true → step q b ≡ q
  lines : (b : ℕ) → p b ≡ true → eqb b 10 ≡ false
  ends : (b at : ℕ) (s : List ℕ) → p b ≡ false → tokens q at (b ∷ s) ≡ tokens between at (b ∷ s)

-- no token begins in such a run
none_begins : (q : Position) (b : ℕ) → step q b ≡ q → begins q b ≡ false
none_begins q b e = rw (e) (go (is_within q))
  where
    go : (t : Bool) → not t && t ≡ false
    go true = refl
    go false = refl

run_rest : (p : ℕ → Bool) (q : Position) → Keeps p q → (s : List ℕ) (at : ℕ) → tokens q at s ≡ tokens between (at + length (leading p s)) (drop (length (leading p s)) s)
run_rest p q keeps [] at = refl
run_rest p q keeps (b ∷ s) at = go (p b) refl (run_rest p q keeps s (suc at))
  where
    go : (t : Bool) → p b ≡ t → tokens q (suc at) s ≡ tokens between (suc at + length (leading p s)) (drop (length (leading p s)) s)
        → tokens q at (b ∷ s) ≡ tokens between (at + length (leading p (b ∷ s))) (drop (length (leading p (b ∷ s))) (b ∷ s))
    go true e ih =
        let same : suc at + length (leading p s) ≡ at + suc (length (leading p s)) = omega arith in
        let run : suc (length (leading p s)) ≡ length (leading p (b ∷ s)) = rw (e) in
        ap (λ (t : Bool). starting t (record { place = at; bytes = b ∷ leading in_token s }) (tokens (step q b) (suc at) s)) (none_begins q b (keeps.on b e))
        ∙ ap (λ (r : Position). tokens r (suc at) s) (keeps.on b e) ∙ ih
        ∙ ap (λ (k : ℕ). tokens between k (drop (length (leading p s)) s)) same
        ∙ ap (λ (k : ℕ). tokens between (at + k) (drop k (b ∷ s))) run
    go false e ih =
        let same : at ≡ at + 0 = omega arith in
        let none : 0 ≡ length (leading p (b ∷ s)) = rw (e) in
        keeps.ends b at s e ∙ ap (λ (k : ℕ). tokens between k (b ∷ s)) same ∙ ap (λ (k : ℕ). tokens between (at + k) (drop k (b ∷ s))) none

token_keeps : Keeps in_token within
token_keeps = record {
  on = past_token_byte;
  lines = no_line_feed;
  ends = λ b at s e. sym (rw (step_blank between b (not-false (is_gap b) e)));
}

-- a byte that is no line feed
abbrev in_line : ℕ → Bool
in_line b = not (eqb b 10)

comment_keeps : Keeps in_line comment
comment_keeps = record {
  on = λ b e. rw (not-true (eqb b 10) e);
  lines = λ b e. not-true (eqb b 10) e;
  ends = λ b at s e. rw (not-false (eqb b 10) e);
}

-- the tokens from an offset on: at the end, at a blank, at a comment, and at a byte of a token
pub tokens_none : (s : List ℕ) (i : ℕ) → length s ≤ i → tokens_from s i ≡ []
tokens_none s i h = ap (tokens (position_at s i) i) (drop_of_length-le s h)

module _ (s : List ℕ) (i : ℕ) (h : i < length s) where
  abbrev b : ℕ
  b = get_or s i 0

  abbrev here : Token
  here = record { place = i; bytes = b ∷ leading in_token (drop (suc i) s) }

  from_here : tokens_from s i ≡ starting (begins (position_at s i) b) here (tokens (step (position_at s i) b) (suc i) (drop (suc i) s))
  from_here = ap (tokens (position_at s i) i) (drop-cons s i 0 h)

  -- no token begins here
  none_here : is_within (step (position_at s i) b) ≡ false → tokens_from s i ≡ tokens (step (position_at s i) b) (suc i) (drop (suc i) s)
  none_here e =
      from_here ∙ ap (λ (t : Bool). starting t here (tokens (step (position_at s i) b) (suc i) (drop (suc i) s))) (begins_none (position_at s i) b e)

  -- the first byte of a run that keeps a position, and what follows the run
  past_run : (p : ℕ → Bool) (q : Position) → Keeps p q → p b ≡ true → tokens q (suc i) (drop (suc i) s) ≡ tokens_from s (i + length (leading p (drop i s)))
  past_run p q keeps e =
      let size : ℕ = length (leading p (drop (suc i) s)) in
      let run : leading p (drop i s) ≡ b ∷ leading p (drop (suc i) s) = rw (drop-cons s i 0 h, e) in
      let long : length (leading p (drop i s)) ≡ suc size = ap length run in
      let last : p (get_or s (i + size) 0) ≡ true = ap p (sym (get_or-drop i s size 0)) ∙ run_byte p (drop i s) size (omega (arith, long)) in
      let end : i + length (leading p (drop i s)) ≡ suc (i + size) = omega (arith, long) in
      let past : position_at s (suc (i + size)) ≡ between = rw (keeps.lines (get_or s (i + size) 0) last) in
      let same : suc i + size ≡ suc (i + size) = omega arith in
      run_rest p q keeps (drop (suc i) s) (suc i)
      ∙ ap₂ (λ (k : ℕ) (r : List ℕ). tokens between k r) same (drop-drop size (suc i) s ∙ ap (λ (k : ℕ). drop k s) same)
      ∙ ap (λ (r : Position). tokens r (suc (i + size)) (drop (suc (i + size)) s)) (sym past)
      ∙ ap (tokens_from s) (sym end)

  pub tokens-blank : is_gap b ≡ true → tokens_from s i ≡ tokens_from s (i + 1)
  tokens-blank e =
      none_here (step_blank (position_at s i) b e)
      ∙ ap (λ (p : Position). tokens p (suc i) (drop (suc i) s))
      (step_past (position_at s i) b (kept_outside s i) (blank-opens_none (position_at s i) b e) ∙ blank_past b e)
      ∙ ap (tokens_from s) (sym (add-one i))

  pub tokens_comment : opens_comment (position_at s i) b ≡ true → tokens_from s i ≡ tokens_from s (i + length (before 10 (drop i s)))
  tokens_comment e =
      let first = opened (position_at s i) b e in
      none_here (ap is_within first.0)
      ∙ ap (λ (p : Position). tokens p (suc i) (drop (suc i) s)) first.0
      ∙ past_run in_line comment comment_keeps (ap not (no_line_feed b first.1))

  pub comment_some : opens_comment (position_at s i) b ≡ true → 0 < length (before 10 (drop i s))
  comment_some e = omega (arith, run_more in_line s i h (ap not (no_line_feed b (opened (position_at s i) b e).1)))

  pub tokens_here : begins (position_at s i) b ≡ true
      → tokens_from s i ≡ record { place = i; bytes = leading in_token (drop i s) } ∷ tokens_from s (i + length (leading in_token (drop i s)))
  tokens_here e =
      let first = begun (position_at s i) b e in
      let run : leading in_token (drop i s) ≡ b ∷ leading in_token (drop (suc i) s) = rw (drop-cons s i 0 h, first.1) in
      from_here
      ∙ ap (λ (t : Bool). starting t here (tokens (step (position_at s i) b) (suc i) (drop (suc i) s))) e
      ∙ ap₂ (λ (w : List ℕ) (ts : List Token). record { place = i; bytes = w } ∷ ts) (sym run)
      (ap (λ (p : Position). tokens p (suc i) (drop (suc i) s)) first.0 ∙ past_run in_token within token_keeps first.1)

sooner : (s : List ℕ) (i j : ℕ) (ts : List Token) → i ≤ j → Shaped s j ts → Shaped s i ts
sooner s i j [] h f = tt
sooner s i j (t ∷ ts) h f = record { later = omega (arith, f.later); run = f.run; some = f.some; inside = f.inside; rest = f.rest }

shaped_within : (k : ℕ) (s : List ℕ) (i : ℕ) → length s ≤ i + k → Shaped s i (tokens_from s i)
shaped_within zero s i h = subst (Shaped s i) (sym (tokens_none s i (omega arith))) tt
shaped_within (suc k) s i h = go (ltb i (length s)) refl (λ j l. shaped_within k s j l)
  where
    -- those from a later offset on, if they are the same
    skipped : (j : ℕ) → i < j → tokens_from s i ≡ tokens_from s j → ((j : ℕ) → length s ≤ j + k → Shaped s j (tokens_from s j)) → Shaped s i (tokens_from s i)
    skipped j l e ih = subst (Shaped s i) (sym e) (sooner s i j (tokens_from s j) (omega arith) (ih j (omega arith)))

    byte : i < length s → (t u : Bool) → is_gap (get_or s i 0) ≡ t → opens_comment (position_at s i) (get_or s i 0) ≡ u
        → ((j : ℕ) → length s ≤ j + k → Shaped s j (tokens_from s j)) → Shaped s i (tokens_from s i)
    byte l true u e f ih = skipped (i + 1) (omega arith) (tokens-blank s i l e) ih
    byte l false true e f ih =
        skipped (i + length (before 10 (drop i s))) (omega (arith, comment_some s i l f)) (tokens_comment s i l f) ih
    byte l false false e f ih =
        subst (Shaped s i) (sym (tokens_here s i l (token_begins (position_at s i) (get_or s i 0) (kept_outside s i) (ap not e) f)))
        (record {
          later = omega arith;
          run = refl;
          some = omega (arith, run_more in_token s i l (ap not e));
          inside = omega (arith, run_inside in_token (drop i s), length-drop i s);
          rest = refl;
        })

    go : (t : Bool) → ltb i (length s) ≡ t → ((j : ℕ) → length s ≤ j + k → Shaped s j (tokens_from s j)) → Shaped s i (tokens_from s i)
    go true f ih = byte (ltb-true i (length s) f) (is_gap (get_or s i 0)) (opens_comment (position_at s i) (get_or s i 0)) refl refl ih
    go false f ih = subst (Shaped s i) (sym (tokens_none s i (ltb-false i (length s) f))) tt

pub shaped : (s : List ℕ) (i : ℕ) → Shaped s i (tokens_from s i)
shaped s i = shaped_within (length s) s i (omega arith)

-- a token and the blank that ends it, in front of more
past_token : (w : List ℕ) (b : ℕ) (r : List ℕ) (at : ℕ) → all in_token w ≡ true → tokens within at (w ++ b ∷ r) ≡ tokens (step within b) (suc (at + length w)) r
past_token [] b r at h = ap (λ (k : ℕ). tokens (step within b) (suc k) r) (sym (add-zero at))
past_token (x ∷ w) b r at h =
    let parts = (and-eq-true_iff (in_token x) (all in_token w)).0 h in
    let same : suc at + length w ≡ at + suc (length w) = omega arith in
    ap (λ (p : Position). tokens p (suc at) (w ++ b ∷ r)) (past_token_byte x parts.0)
    ∙ past_token w b r (suc at) parts.1
    ∙ ap (λ (k : ℕ). tokens (step within b) (suc k) r) same

pub tokens_token : (w : List ℕ) (b : ℕ) (r : List ℕ) (p : Position) (at : ℕ) → 0 < length w → begins p (get_or w 0 0) ≡ true → all in_token w ≡ true → in_token b ≡ false
    → tokens p at (w ++ b ∷ r) ≡ record { place = at; bytes = w } ∷ tokens (step within b) (suc (at + length w)) r
tokens_token [] b r p at l o h e = absurd (not-suc-le-zero l)
tokens_token (x ∷ w) b r p at l o h e =
    let rest : all in_token w ≡ true = ((and-eq-true_iff (in_token x) (all in_token w)).0 h).1 in
    let same : suc at + length w ≡ at + suc (length w) = omega arith in
    rw (o, (begun p x o).0, leading_seam in_token w b r rest e)
    (ap (λ (ts : List Token). record { place = at; bytes = x ∷ w } ∷ ts)
    (past_token w b r (suc at) rest ∙ ap (λ (k : ℕ). tokens (step within b) (suc k) r) same))

-- behind that blank a token may begin
pub blank-outside : (b : ℕ) → in_token b ≡ false → may_begin (step within b) ≡ true
blank-outside b e = rw (not-false (is_gap b) e) (line_or_blank (eqb b 10))
