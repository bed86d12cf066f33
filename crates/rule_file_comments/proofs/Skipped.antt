-- A comment line put in at any line's beginning changes nothing that is read of a rule file but the place of a refusal (document 02, L1): "A line beginning with `c` is now skipped anywhere after the header too."
use Rattle.std.specs.Prelude.{◌≡◌, refl, Bool, true, false, cond, List, [], ◌∷◌, ◌++◌, ◌↔◌, ◌⊎◌, ℕ, zero, suc, ◌+◌, ◌≤◌, ◌<◌, eqb, ℤ, length, get_or, drop, Option, Some}
use Rattle.std.proofs.Common.{sym, ap, ap₂, ◌∙◌, append_assoc, append-nil, inl, inr, arith, length-append, length-drop, drop_of_length-le, get_or-drop, drop-drop, le-leb}
use Rattle.std.proofs.Math.ListN.{get_or-append}
use Rattle.std.proofs.lemmas.List.{drop-append-le}
use Rattle.std.proofs.Math.Seq.{drop-append-add}
use Rattle.std.proofs.lemmas.Bool.{lt-leb}
use Rattle.rule_file.specs.Class.{class_of}
use Rattle.rule_file.specs.Format.{past_comments, Header, header, Reading, refuses, gives, reading, read_from}
use Rattle.rule_file.specs.Tokens.{Position, line_start, between, tokens, position_at, tokens_from}
use Rattle.rule_file_comments.specs.Headers.{HeaderOf}
use Rattle.rule_file_comments.proofs.Headers.{header_of, header-some}
use Rattle.rule_file_comments.specs.Lines.{comment_line, is_text, ends_line, moved, moved_reading}
use Rattle.rule_file_comments.specs.Moved.{moved_tokens}
use Rattle.rule_file_comments.proofs.Moved.{read_moves}
use Rattle.rule_file_comments.specs.Preface.{Passes, Stops}
use Rattle.rule_file_comments.proofs.Preface.{whole_lines, past_later, past_over}
use Rattle.rule_file_comments.proofs.Shifted.{past_comment, past_last, tokens_later, lines_before}

-- Of two rests of a file, a line beginning at each, one is the other behind so many bytes of comments.
record Behind (by : ℕ) (x y : List ℕ) : Type 0 where
  long : length x ≡ length y + by
  past : past_comments false 0 x ≡ past_comments false 0 y + by
  left : drop (past_comments false 0 x) x ≡ drop (past_comments false 0 y) y
  same : (from : ℕ) → tokens line_start from x ≡ moved_tokens from by (tokens line_start from y)

comment_behind : (text back : List ℕ) → is_text text ≡ true → Behind (length (comment_line text)) (comment_line text ++ back) back
unfolding class_of
comment_behind text back h =
    record {
      long = omega (arith, length-append (comment_line text) back);
      past = past;
      left =
          ap (λ (k : ℕ). drop k (comment_line text ++ back)) (past ∙ turn) ∙ drop-append-add (comment_line text) back (past_comments false 0 back);
      same = λ from. past_comment text back from h ∙ tokens_later from by back line_start from (omega arith);
    }
  where
    by : ℕ
    by = length (comment_line text)

    past : past_comments false 0 (comment_line text ++ back) ≡ past_comments false 0 back + by
    past =
        let size : suc (1 + length text) ≡ 0 + by = omega (arith, length-append text (10 ∷ [])) in
        ap (past_comments true 1) (append_assoc text (10 ∷ []) back)
        ∙ past_over (10 ∷ back) (λ (k : ℕ). past_comments false (suc k) back) (λ k. refl) text 1 h
        ∙ ap (λ (k : ℕ). past_comments false k back) size
        ∙ past_later by false 0 back

    turn : past_comments false 0 back + by ≡ by + past_comments false 0 back
    turn = omega arith

last_behind : (text : List ℕ) → is_text text ≡ true → Behind (suc (length text)) (99 ∷ text) []
unfolding class_of
last_behind text h =
    let end : past_comments true 1 text ≡ 1 + length text = sym (ap (past_comments true 1) (append-nil text)) ∙ past_over [] (λ (k : ℕ). k) (λ k. refl) text 1 h in
    record {
      long = omega arith;
      past = omega (arith, end);
      left = drop_of_length-le (99 ∷ text) {i = past_comments true 1 text} (omega (arith, end));
      same = λ from. past_last text from h;
    }

-- what is read of a file, by where its header is sought
read_at : (file : List ℕ) (at : ℕ) (o : Option Header) → past_comments false 0 file ≡ at → header (drop at file) ≡ o → reading file ≡ read_from file at o
read_at file at o e f = ap (λ (k : ℕ). read_from file k (header (drop k file))) e ∙ ap (read_from file at) f

-- the tokens past a header, by the bytes from the header on
tokens_past : (file rest : List ℕ) (at k : ℕ) → drop at file ≡ rest
    → tokens_from file (at + suc k) ≡ tokens (cond (eqb (get_or rest k 0) 10) line_start between) (at + suc k) (drop (suc k) rest)
tokens_past file rest at k e =
    let next : at + suc k ≡ suc (at + k) = omega arith in
    let byte : get_or file (at + k) 0 ≡ get_or rest k 0 = sym (get_or-drop at file k 0) ∙ ap (λ (s : List ℕ). get_or s k 0) e in
    ap₂ (λ (p : Position) (s : List ℕ). tokens p (at + suc k) s)
    (ap (position_at file) next ∙ ap (λ (b : ℕ). cond (eqb b 10) line_start between) byte)
    (sym (drop-drop (suc k) at file) ∙ ap (drop (suc k)) e)

-- whole lines end behind any of their bytes as they do behind all
ends_behind : (f : List ℕ) (t : Bool) (k : ℕ) → k < length f → ends_line t f ≡ true → ends_line (eqb (get_or f k 0) 10) (drop (suc k) f) ≡ true
ends_behind [] t k l e = absurd (omega arith)
ends_behind (b ∷ f) t zero l e = e
ends_behind (b ∷ f) t (suc k) l e = ends_behind f (eqb b 10) k (omega arith) e

at_line : (t : Bool) → t ≡ true → cond t line_start between ≡ line_start
at_line t e = rw e

module _ (front x y : List ℕ) (by : ℕ) (b : Behind by x y) where
  abbrev from : ℕ
  from = length front

  end_moves : length (front ++ x) ≡ moved from by (length (front ++ y))
  end_moves =
      let inside : from ≤ length (front ++ y) = omega (arith, length-append front y) in
      let size : length (front ++ x) ≡ length (front ++ y) + by = omega (arith, length-append front x, length-append front y, b.long) in
      size ∙ rw (le-leb from (length (front ++ y)) inside)

  -- the header is among the rest
  behind_comments : Passes false 0 front → reading (front ++ x) ≡ moved_reading from by (reading (front ++ y))
  behind_comments pass =
      read_at (front ++ x) at' o (there x) (ap header rests)
      ∙ read_moves from by (front ++ y) (front ++ x) at at' moves end_moves o tokens_move
      ∙ sym (ap (moved_reading from by) (read_at (front ++ y) at o (there y) refl))
    where
      there : (z : List ℕ) → past_comments false 0 (front ++ z) ≡ from + past_comments false 0 z
      there z =
          let turn : past_comments false 0 z + from ≡ from + past_comments false 0 z = omega arith in
          pass z ∙ past_later from false 0 z ∙ turn

      at : ℕ
      at = from + past_comments false 0 y

      at' : ℕ
      at' = from + past_comments false 0 x

      later : at' ≡ at + by
      later = omega (arith, b.past)

      moves : at' ≡ moved from by at
      moves = later ∙ rw (le-leb from at (omega arith))

      rests : drop at' (front ++ x) ≡ drop at (front ++ y)
      rests = drop-append-add front x (past_comments false 0 x) ∙ b.left ∙ sym (drop-append-add front y (past_comments false 0 y))

      o : Option Header
      o = header (drop at (front ++ y))

      tokens_move : (h : Header) → o ≡ Some h → tokens_from (front ++ x) (at' + h.size) ≡ moved_tokens from by (tokens_from (front ++ y) (at + h.size))
      tokens_move h e = go h.size (header-some (drop at (front ++ y)) h e)
        where
          go : (size : ℕ) → 0 < size → tokens_from (front ++ x) (at' + size) ≡ moved_tokens from by (tokens_from (front ++ y) (at + size))
          go zero l = absurd (omega arith)
          go (suc k) l =
              let rest : List ℕ = drop at (front ++ y) in
              let p : Position = cond (eqb (get_or rest k 0) 10) line_start between in
              let place : at' + suc k ≡ at + suc k + by = omega (arith, later) in
              tokens_past (front ++ x) rest at' k rests
              ∙ ap (λ (j : ℕ). tokens p j (drop (suc k) rest)) place
              ∙ tokens_later from by (drop (suc k) rest) p (at + suc k) (omega arith)
              ∙ sym (ap (moved_tokens from by) (tokens_past (front ++ y) rest at k refl))

  -- the header is among the whole lines before it, or none is there
  behind_lines : ends_line true front ≡ true → Stops false 0 front → reading (front ++ x) ≡ moved_reading from by (reading (front ++ y))
  behind_lines whole stop =
      read_at (front ++ x) at head.found (stop.place x) (found x)
      ∙ read_moves from by (front ++ y) (front ++ x) at at stays end_moves head.found tokens_move
      ∙ sym (ap (moved_reading from by) (read_at (front ++ y) at head.found (stop.place y) (found y)))
    where
      at : ℕ
      at = 0 + stop.offset

      inside : at < from
      inside = omega (arith, stop.before)

      stays : at ≡ moved from by at
      stays = rw (lt-leb from at inside)

      zeroth : at ≡ stop.offset
      zeroth = omega arith

      head : HeaderOf (drop stop.offset front)
      head = header_of (drop stop.offset front) stop.ends

      split : (z : List ℕ) → drop at (front ++ z) ≡ drop stop.offset front ++ z
      split z = ap (λ (k : ℕ). drop k (front ++ z)) zeroth ∙ drop-append-le stop.offset front z (omega (arith, stop.before))

      found : (z : List ℕ) → header (drop at (front ++ z)) ≡ head.found
      found z = ap header (split z) ∙ head.same z

      tokens_move : (h : Header) → head.found ≡ Some h → tokens_from (front ++ x) (at + h.size) ≡ moved_tokens from by (tokens_from (front ++ y) (at + h.size))
      tokens_move h e =
          go h.size (header-some (drop at (front ++ x)) h (found x ∙ e)) (omega (arith, head.fits h e, length-drop stop.offset front, stop.before))
        where
          go : (size : ℕ) → 0 < size → at + size ≤ from → tokens_from (front ++ x) (at + size) ≡ moved_tokens from by (tokens_from (front ++ y) (at + size))
          go zero l m = absurd (omega arith)
          go (suc k) l m =
              let last : ℕ = get_or front (at + k) 0 in
              let p : Position = cond (eqb last 10) line_start between in
              let next : at + suc k ≡ suc (at + k) = omega arith in
              let parts : (z : List ℕ) → tokens_from (front ++ z) (suc (at + k)) ≡ tokens p (suc (at + k)) (drop (suc (at + k)) front ++ z) =
              λ z. ap₂ (λ (j : ℕ) (s : List ℕ). tokens (cond (eqb j 10) line_start between) (suc (at + k)) s)
              (get_or-append front z 0 (at + k) (omega arith)) (drop-append-le (suc (at + k)) front z (omega arith)) in
              ap (tokens_from (front ++ x)) next
              ∙ parts x
              ∙ lines_before from by (drop (suc (at + k)) front) x y (b.same from) (eqb last 10) p (suc (at + k))
              (ends_behind front true (at + k) (omega arith) whole) (at_line (eqb last 10)) (omega (arith, length-drop (suc (at + k)) front))
              ∙ sym (ap (moved_tokens from by) (ap (tokens_from (front ++ y)) next ∙ parts y))

  read_behind : ends_line true front ≡ true → reading (front ++ x) ≡ moved_reading from by (reading (front ++ y))
  read_behind whole = go (whole_lines front true false 0 whole (λ _. refl))
    where
      go : Passes false 0 front ⊎ Stops false 0 front → reading (front ++ x) ≡ moved_reading from by (reading (front ++ y))
      go (inl pass) = behind_comments pass
      go (inr stop) = behind_lines whole stop

-- A comment line, put in behind any whole lines of any file, leaves what is read as it was: N, C and the list, or the refusal, whose place moves if it is behind the comment.
pub comment_skipped : (front text back : List ℕ) → ends_line true front ≡ true → is_text text ≡ true
    → reading (front ++ (comment_line text ++ back)) ≡ moved_reading (length front) (length (comment_line text)) (reading (front ++ back))
comment_skipped front text back e h = read_behind front (comment_line text ++ back) back (length (comment_line text)) (comment_behind text back h) e

-- So does one that ends with the file, without a line feed.
pub last_comment_skipped : (front text : List ℕ) → ends_line true front ≡ true → is_text text ≡ true
    → reading (front ++ 99 ∷ text) ≡ moved_reading (length front) (suc (length text)) (reading front)
last_comment_skipped front text e h =
    read_behind front (99 ∷ text) [] (suc (length text)) (last_behind text h) e
    ∙ ap (λ (s : List ℕ). moved_reading (length front) (suc (length text)) (reading s)) (append-nil front)

-- what is not refused has no place that moves
stayed : (r : Reading) (from by n c : ℕ) (list : List ℤ) → moved_reading from by r ≡ gives n c list → r ≡ gives n c list
stayed (refuses r) from by n c list e = let z : ◌≡◌ {A = ℕ} 0 1 = cc in absurd (omega arith)
stayed (gives m k l) from by n c list e = e

alike : (r q : Reading) (from by : ℕ) → r ≡ moved_reading from by q → (n c : ℕ) (list : List ℤ) → (r ≡ gives n c list) ↔ (q ≡ gives n c list)
alike r q from by e n c list = (λ f. stayed q from by n c list (sym e ∙ f), λ f. e ∙ ap (moved_reading from by) f)

-- So N, C and the list are the same with the comment line and without it, and one of the two files is accepted exactly when the other is.
pub comment_accepted : (front text back : List ℕ) → ends_line true front ≡ true → is_text text ≡ true → (n c : ℕ) (list : List ℤ)
    → (reading (front ++ (comment_line text ++ back)) ≡ gives n c list) ↔ (reading (front ++ back) ≡ gives n c list)
comment_accepted front text back e h =
    alike (reading (front ++ (comment_line text ++ back))) (reading (front ++ back)) (length front) (length (comment_line text)) (comment_skipped front text back e h)

pub last_comment_accepted : (front text : List ℕ) → ends_line true front ≡ true → is_text text ≡ true → (n c : ℕ) (list : List ℤ)
    → (reading (front ++ 99 ∷ text) ≡ gives n c list) ↔ (reading front ≡ gives n c list)
last_comment_accepted front text e h = alike (reading (front ++ 99 ∷ text)) (reading front) (length front) (suc (length text)) (last_comment_skipped front text e h)
