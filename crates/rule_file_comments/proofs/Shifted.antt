-- The tokens of a file with a comment line put in: the same tokens, those behind it moved.
use Rattle.std.specs.Prelude.{◌≡◌, refl, Bool, true, false, cond, List, [], ◌∷◌, ◌++◌, ℕ, suc, ◌+◌, ◌≤◌, eqb, length}
use Rattle.std.proofs.Common.{sym, ap₂, ◌∙◌, true≢false, append_assoc, append-nil, arith, length-append, eqb-true, le-leb}
use Rattle.std.proofs.Math.Path.{ap}
use Rattle.std.proofs.lemmas.Bool.{lt-leb}
use Rattle.rule_file.specs.Class.{class_of}
use Rattle.rule_file.proofs.TokenLaws.{no_line_feed, begun}
use Rattle.rule_file.specs.Tokens.{leading, in_token, Token, Position, line_start, between, within, comment, step, begins, starting, tokens}
use Rattle.rule_file_comments.specs.Lines.{comment_line, is_text, ends_line, moved}
use Rattle.rule_file_comments.specs.Moved.{moved_tokens}
use Rattle.rule_file_comments.proofs.Text.{over}

-- a comment line has no tokens, nor has one that ends with the file
pub comment_over : (s : List ℕ) (rest : ℕ → List Token) → ((at : ℕ) → tokens comment at s ≡ rest at) → (text : List ℕ) (at : ℕ) → is_text text ≡ true
    → tokens comment at (text ++ s) ≡ rest (at + length text)
comment_over s rest end text at h = over (tokens comment) s rest (λ b k r e. rw e) end text at h

pub past_comment : (text back : List ℕ) (at : ℕ) → is_text text ≡ true → tokens line_start at (comment_line text ++ back) ≡ tokens line_start (at + length (comment_line text)) back
unfolding class_of
past_comment text back at h =
    let size : suc (suc at + length text) ≡ at + length (comment_line text) = omega (arith, length-append text (10 ∷ [])) in
    ap (tokens comment (suc at)) (append_assoc text (10 ∷ []) back)
    ∙ comment_over (10 ∷ back) (λ (k : ℕ). tokens line_start (suc k) back) (λ k. refl) text (suc at) h
    ∙ ap (λ (k : ℕ). tokens line_start k back) size

pub past_last : (text : List ℕ) (at : ℕ) → is_text text ≡ true → tokens line_start at (99 ∷ text) ≡ []
unfolding class_of
past_last text at h = sym (ap (tokens comment (suc at)) (append-nil text)) ∙ comment_over [] (λ (k : ℕ). []) (λ k. refl) text (suc at) h

module _ (from by : ℕ) where
  abbrev move : ℕ → ℕ
  move place = moved from by place

  -- bytes that stand so much later have their tokens so much later
  pub tokens_later : (s : List ℕ) (p : Position) (at : ℕ) → from ≤ at → tokens p (at + by) s ≡ moved_tokens from by (tokens p at s)
  tokens_later [] p at h = refl
  tokens_later (b ∷ s) p at h =
      let same : suc (at + by) ≡ suc at + by = omega arith in
      go (begins p b) (ap (λ (k : ℕ). tokens (step p b) k s) same ∙ tokens_later s (step p b) (suc at) (omega arith))
    where
      word : List ℕ
      word = b ∷ leading in_token s

      go : (t : Bool) → tokens (step p b) (suc (at + by)) s ≡ moved_tokens from by (tokens (step p b) (suc at) s)
          → starting t (record { place = at + by; bytes = word }) (tokens (step p b) (suc (at + by)) s)
          ≡ moved_tokens from by (starting t (record { place = at; bytes = word }) (tokens (step p b) (suc at) s))
      go true e =
          let here : at + by ≡ move at = rw (le-leb from at h) in
          ap₂ (λ (k : ℕ) (ts : List Token). record { place = k; bytes = word } ∷ ts) here e
      go false e = e

  -- the line feed at which a line ends, and a token before it
  line_feed_step : (p : Position) (b : ℕ) → eqb b 10 ≡ true → step p b ≡ line_start
  unfolding class_of
  line_feed_step line_start b e = ap (step line_start) (eqb-true b 10 e)
  line_feed_step between b e = rw e
  line_feed_step within b e = rw e
  line_feed_step comment b e = rw e

  token_inside : (f x y : List ℕ) → ends_line false f ≡ true → leading in_token (f ++ x) ≡ leading in_token (f ++ y)
  token_inside [] x y e = absurd (true≢false (sym e))
  token_inside (b ∷ f) x y e = go (in_token b) refl (λ k. token_inside f x y (ap (λ (t : Bool). ends_line t f) (sym k) ∙ e))
    where
      go : (t : Bool) → in_token b ≡ t → (eqb b 10 ≡ false → leading in_token (f ++ x) ≡ leading in_token (f ++ y))
          → cond t (b ∷ leading in_token (f ++ x)) [] ≡ cond t (b ∷ leading in_token (f ++ y)) []
      go true k rest = ap (λ (w : List ℕ). b ∷ w) (rest (no_line_feed b k))
      go false k rest = refl

  -- whole lines in front of two rests, of which one has the tokens of the other, moved
  pub lines_before : (f x y : List ℕ) → tokens line_start from x ≡ moved_tokens from by (tokens line_start from y)
      → (t : Bool) (p : Position) (at : ℕ) → ends_line t f ≡ true → (t ≡ true → p ≡ line_start) → at + length f ≡ from
      → tokens p at (f ++ x) ≡ moved_tokens from by (tokens p at (f ++ y))
  lines_before [] x y same t p at e start l =
      let here : at ≡ from = omega arith in
      rw (start e, here) same
  lines_before (b ∷ f) x y same t p at e start l =
      go (begins p b) refl (lines_before f x y same (eqb b 10) (step p b) (suc at) e (line_feed_step p b) (omega arith))
    where
      go : (u : Bool) → begins p b ≡ u → tokens (step p b) (suc at) (f ++ x) ≡ moved_tokens from by (tokens (step p b) (suc at) (f ++ y))
          → starting u (record { place = at; bytes = b ∷ leading in_token (f ++ x) }) (tokens (step p b) (suc at) (f ++ x))
          ≡ moved_tokens from by (starting u (record { place = at; bytes = b ∷ leading in_token (f ++ y) }) (tokens (step p b) (suc at) (f ++ y)))
      go true k ih =
          let inside : ends_line false f ≡ true = ap (λ (v : Bool). ends_line v f) (sym (no_line_feed b (begun p b k).1)) ∙ e in
          let stays : at ≡ move at = rw (lt-leb from at (omega arith)) in
          ap₂ (λ (w : List ℕ) (ts : List Token). record { place = at; bytes = b ∷ w } ∷ ts) (token_inside f x y inside) ih
          ∙ ap (λ (j : ℕ). record { place = j; bytes = b ∷ leading in_token (f ++ y) } ∷ moved_tokens from by (tokens (step p b) (suc at) (f ++ y))) stays
      go false k ih = ih
