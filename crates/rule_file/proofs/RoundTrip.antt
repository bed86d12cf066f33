-- What follows from the definitions of specs/RoundTrip.antt.
use Rattle.std.specs.Prelude.{◌≡◌, refl, Bool, true, false, cond, ◌&&◌, List, [], ◌∷◌, ◌++◌, map, ℕ, suc, ◌+◌, ◌≤◌, ◌<◌, eqb, ltb, leb, ℤ, pos, negsuc, length, get_or, drop, None, Some}
use Rattle.std.proofs.Common.{sym, ap, ◌∙◌, append_assoc, zero-add, not-suc-le-zero, arith, length-append, ne_eqb, le-ltb, lt-ltb, leb-true, ltb-true, eqb-true}
use Rattle.std.proofs.Math.Bool.{and-eq-true_iff}
use Rattle.std.proofs.lemmas.Option.{none-some}
use Rattle.std.proofs.Math.Seq.{drop-append_seam}
use Rattle.std.proofs.lemmas.Bool.{lt-leb}
use Rattle.literal.specs.Literal.{variable}
use Rattle.formula.specs.Formula.{all, closes, clauses}
use Rattle.limits.specs.Limits.{max_variables, max_clauses, max_literals}
use Rattle.rule_list.specs.Laws.{zeros, zeros-clauses}
use Rattle.rule_list.specs.Sound.{SoundList, Scan, unread, may_join, stands, after, unclosed, bad_rule}
use Rattle.decimal.specs.Decimal.{decimal, number, only_digits, is_digit}
use Rattle.decimal.specs.Laws.{decimal-digits, decimal-some, number-decimal}
use Rattle.text.specs.Text.{numeral}
use Rattle.rule_file.specs.Class.{letter_c, class_of}
use Rattle.rule_file.specs.Format.{without, header, numbered, outside, preamble, positive, signed, element, repeats, bad_token, bad_tokens, stored, gives, reading, read_from}
use Rattle.rule_file.proofs.Laws.{digit_class, digit_in_token, all_digits, before_stop, beyond_stop, digits-without}
use Rattle.rule_file.specs.TokenLaws.{may_begin}
use Rattle.rule_file.proofs.TokenLaws.{letter_opens, token_begins, kept_outside, tokens_token, blank-outside}
use Rattle.rule_file.specs.Tokens.{in_token, Token, Position, within, step, begins, tokens, position_at, tokens_from}
use Rattle.rule_file.proofs.Sizes.{sound_step, zeros-some, sound_clauses}
use Rattle.rule_file.specs.Written.{separator, body, header_text, written}
use Rattle.rule_file.specs.RoundTrip.{tokens_of}

-- a written number is one token, and reads as that number
numeral-some : (x : ℤ) → 0 < length (numeral x)
numeral-some (pos v) = decimal-some v
numeral-some (negsuc k) = omega arith

numeral_token : (x : ℤ) → all in_token (numeral x) ≡ true
unfolding class_of
numeral_token (pos v) = all_digits in_token digit_in_token (decimal v) (decimal-digits v)
numeral_token (negsuc k) = all_digits in_token digit_in_token (decimal (suc k)) (decimal-digits (suc k))

pub unsigned : (w : List ℕ) → 0 < length w → only_digits w ≡ true → signed w ≡ positive (number w)
unsigned [] l h = absurd (not-suc-le-zero l)
unsigned (b ∷ w) l h = rw (digit_class b ((and-eq-true_iff (is_digit b) (only_digits w)).0 h).0)

signed-numeral : (x : ℤ) → variable x < 100000 → signed (numeral x) ≡ Some x
unfolding class_of
signed-numeral (pos v) h = unsigned (decimal v) (decimal-some v) (decimal-digits v) ∙ ap positive (number-decimal v h)
signed-numeral (negsuc k) h = rw (number-decimal (suc k) h)

separator-blank : (x : ℤ) → in_token (separator x) ≡ false
unfolding class_of
separator-blank x = go (closes x)
  where
    go : (b : Bool) → in_token (cond b 10 32) ≡ false
    go true = refl
    go false = refl

-- and it begins where a token may: no written number begins with `c`
digits_first : (w : List ℕ) → 0 < length w → only_digits w ≡ true → eqb (class_of (get_or w 0 0)) letter_c ≡ false
digits_first [] l h = absurd (not-suc-le-zero l)
digits_first (b ∷ w) l h = rw (digit_class b ((and-eq-true_iff (is_digit b) (only_digits w)).0 h).0)

numeral_first : (x : ℤ) → eqb (class_of (get_or (numeral x) 0 0)) letter_c ≡ false
unfolding class_of
numeral_first (pos v) = digits_first (decimal v) (decimal-some v) (decimal-digits v)
numeral_first (negsuc k) = refl

numeral-begins : (p : Position) (x : ℤ) → may_begin p ≡ true → begins p (get_or (numeral x) 0 0) ≡ true
numeral-begins p x o =
    token_begins p (get_or (numeral x) 0 0) o (first_byte (numeral x) (numeral-some x) (numeral_token x)) (letter_opens p (get_or (numeral x) 0 0) (numeral_first x))
  where
    first_byte : (w : List ℕ) → 0 < length w → all in_token w ≡ true → in_token (get_or w 0 0) ≡ true
    first_byte [] l h = absurd (not-suc-le-zero l)
    first_byte (b ∷ w) l h = ((and-eq-true_iff (in_token b) (all in_token w)).0 h).0

tokens-body : (l : List ℤ) (p : Position) (at : ℕ) → may_begin p ≡ true → tokens p at (body l) ≡ tokens_of at l
tokens-body [] p at o = refl
tokens-body (x ∷ l) p at o =
    tokens_token (numeral x) (separator x) (body l) p at (numeral-some x) (numeral-begins p x o) (numeral_token x) (separator-blank x)
    ∙ ap (λ (ts : List Token). record { place = at; bytes = numeral x } ∷ ts)
    (tokens-body l (step within (separator x)) (suc (at + length (numeral x))) (blank-outside (separator x) (separator-blank x)))

-- an element that stands, in a file with clauses to come, is no bad token
good_token : (n c : ℕ) (s : Scan) (at : ℕ) (x : ℤ) → s.clauses < c → stands n s x ≡ true → bad_token n c s at (Some x) ≡ None
good_token n c s at x h e = go (closes x) refl
  where
    go : (b : Bool) → closes x ≡ b → bad_token n c s at (Some x) ≡ None
    go true f =
        rw (lt-leb c s.clauses h, f, le-ltb n (variable x) (omega (arith, eqb-true (variable x) 0 f)))
    go false f =
        let parts = (and-eq-true_iff (leb (variable x) n) (ltb s.literals max_literals && may_join s.clause x)).0 (rw (f) at e) in
        let rest = (and-eq-true_iff (ltb s.literals max_literals) (may_join s.clause x)).0 parts.1 in
        rw (
          lt-leb c s.clauses h,
          f,
          lt-leb max_literals s.literals (ltb-true s.literals max_literals rest.0),
          le-ltb n (variable x) (leb-true (variable x) n parts.0),
          rest.1,
        )

-- nor is it a repeat
stands_new : (n : ℕ) (s : Scan) (x : ℤ) → stands n s x ≡ true → repeats s x ≡ false
stands_new n s x e = go (closes x) refl
  where
    go : (b : Bool) → closes x ≡ b → repeats s x ≡ false
    go true f = rw f
    go false f =
        let parts = (and-eq-true_iff (leb (variable x) n) (ltb s.literals max_literals && may_join s.clause x)).0 (rw (f) at e) in
        rw (f, ((and-eq-true_iff (ltb s.literals max_literals) (may_join s.clause x)).0 parts.1).1)

-- so all of a sound list is stored: it has no repeats
all_stored : (l : List ℤ) (n : ℕ) (s : Scan) (i : ℕ) → bad_rule n s i l ≡ None → stored s l ≡ l
all_stored [] n s i e = refl
all_stored (x ∷ l) n s i e =
    let sound = sound_step n s i x l e in
    rw (stands_new n s x sound.0) (ap (λ (r : List ℤ). x ∷ r) (all_stored l n (after s x) (suc i) sound.1))

pub sound_stored : (n : ℕ) (l : List ℤ) → SoundList n l → stored unread l ≡ l
sound_stored n l e = all_stored l n unread 0 e

-- a variable that stands is one of the n
stands_inside : (n : ℕ) (s : Scan) (x : ℤ) → stands n s x ≡ true → variable x ≤ n
stands_inside n s x e = go (closes x) refl
  where
    go : (b : Bool) → closes x ≡ b → variable x ≤ n
    go true f = omega (arith, eqb-true (variable x) 0 f)
    go false f = leb-true (variable x) n ((and-eq-true_iff (leb (variable x) n) (ltb s.literals max_literals && may_join s.clause x)).0 (rw (f) at e)).0

-- the tokens of a sound list are good, and their elements are the list
record Good (n c size : ℕ) (s : Scan) (at : ℕ) (l : List ℤ) : Type 0 where
  passed : bad_tokens n c size s (tokens_of at l) ≡ None
  same : map element (tokens_of at l) ≡ l

good_tokens : (l : List ℤ) (n c size : ℕ) (s : Scan) (i at : ℕ) → n < 100000 → bad_rule n s i l ≡ None → c ≡ s.clauses + zeros l
    → Good n c size s at l
good_tokens [] n c size s i at h e f =
    record { passed = rw (le-ltb s.clauses c (omega arith), closed (unclosed s.clause) e); same = refl }
  where
    closed : (t : Bool) → cond t (Some i) None ≡ None → t ≡ false
    closed true g = absurd (none-some i (sym g))
    closed false g = refl
good_tokens (x ∷ l) n c size s i at h e f =
    go (good_tokens l n c size (after s x) (suc i) (suc (at + length (numeral x))) h sound.1 count)
  where
    sound : (stands n s x ≡ true) × (bad_rule n (after s x) (suc i) l ≡ None)
    sound = sound_step n s i x l e

    count : c ≡ (after s x).clauses + zeros l
    count = zeros_left (closes x) refl
      where
        zeros_left : (b : Bool) → closes x ≡ b → c ≡ (after s x).clauses + zeros l
        zeros_left true g = let here : c ≡ s.clauses + suc (zeros l) = rw (g) at f in rw (g) (omega arith)
        zeros_left false g = rw (g) (rw (g) at f)

    read : signed (numeral x) ≡ Some x
    read = signed-numeral x (omega (arith, stands_inside n s x sound.0))

    new : repeats s x ≡ false
    new = stands_new n s x sound.0

    go : Good n c size (after s x) (suc (at + length (numeral x))) l → Good n c size s at (x ∷ l)
    go g =
        record {
          passed = rw (read, good_token n c s at x (omega (arith, zeros-some n s i x l e)) sound.0, new, g.passed);
          same = rw (read) (ap (λ (r : List ℤ). x ∷ r) g.same);
        }

-- a header reads as the numbers of its two fields
pub header_parts : (w v r : List ℕ) → without 32 w ≡ true → without 10 v ≡ true
    → header (preamble ++ (w ++ 32 ∷ (v ++ 10 ∷ r))) ≡ numbered (number w) (number v) (6 + (suc (length w) + suc (length v)))
header_parts w v r h k =
    rw (
      beyond_stop w 32 (v ++ 10 ∷ r) h,
      before_stop w 32 (v ++ 10 ∷ r) h,
      before_stop v 10 r k,
      lt-ltb (length v) (length (v ++ 10 ∷ r)) (omega (arith, length-append v (10 ∷ r))),
    )

-- the written header reads as N and C
pub header-fields : (w v r : List ℕ) → only_digits w ≡ true → only_digits v ≡ true
    → header (preamble ++ (w ++ 32 ∷ (v ++ 10 ∷ r))) ≡ numbered (number w) (number v) (6 + (suc (length w) + suc (length v)))
header-fields w v r h k = header_parts w v r (digits-without w 32 (omega arith) h) (digits-without v 10 (omega arith) k)

pub header-joined : (n c : ℕ) (r : List ℕ) → header_text n c ++ r ≡ preamble ++ (decimal n ++ 32 ∷ (decimal c ++ 10 ∷ r))
header-joined n c r =
    ap (λ (t : List ℕ). preamble ++ t)
    (append_assoc (decimal n) (32 ∷ (decimal c ++ 10 ∷ [])) r ∙ ap (λ (t : List ℕ). decimal n ++ 32 ∷ t) (append_assoc (decimal c) (10 ∷ []) r))

pub header-length : (n c : ℕ) → 6 + (suc (length (decimal n)) + suc (length (decimal c))) ≡ length (header_text n c)
header-length n c =
    omega (arith, length-append (decimal n) (32 ∷ (decimal c ++ 10 ∷ [])), length-append (decimal c) (10 ∷ []))

header-written : (n c : ℕ) (r : List ℕ) → n < 100000 → c < 100000
    → header (header_text n c ++ r) ≡ Some (record { variables = n; clauses = c; size = length (header_text n c) })
header-written n c r h k =
    ap header (header-joined n c r)
    ∙ header-fields (decimal n) (decimal c) r (decimal-digits n) (decimal-digits c)
    ∙ rw (number-decimal n h, number-decimal c k) (ap (λ (size : ℕ). Some (record { variables = n; clauses = c; size = size })) (header-length n c))

inside : (n c : ℕ) → 1 ≤ n → n ≤ max_variables → c ≤ max_clauses → outside n c ≡ false
inside n c h k f = rw (ne_eqb n 0 (omega arith), le-ltb max_variables n k, le-ltb max_clauses c f)

-- past the header come the tokens of the list
pub tokens-written : (n : ℕ) (l : List ℤ) (at : ℕ) → at ≡ length (header_text n (length (clauses l))) → tokens_from (written n l) at ≡ tokens_of at l
tokens-written n l at e =
    ap (tokens (position_at (written n l) at) at) (ap (λ (k : ℕ). drop k (written n l)) e ∙ drop-append_seam (header_text n (length (clauses l))) (body l))
    ∙ tokens-body l (position_at (written n l) at) at (kept_outside (written n l) at)

-- every sound list, written and read, is that list again
pub read_written : (n : ℕ) (l : List ℤ) → 1 ≤ n → n ≤ max_variables → SoundList n l
    → reading (written n l) ≡ gives n (length (clauses l)) l
unfolding class_of
read_written n l h k e =
    ap (read_from (written n l) 0) (header-written n c (body l) (omega arith) (omega (arith, small)))
    ∙ rw (inside n c h k small, tokens-written n l (0 + length (header_text n c)) (zero-add (length (header_text n c))), good.passed) (ap (gives n c) (ap (stored unread) good.same ∙ sound_stored n l e))
  where
    c : ℕ
    c = length (clauses l)

    closed : zeros l ≡ c
    closed = (zeros-clauses n unread 0 l e).0

    small : c ≤ max_clauses
    small = sound_clauses n l e

    good : Good n c (length (written n l)) unread (0 + length (header_text n c)) l
    good = good_tokens l n c (length (written n l)) unread 0 (0 + length (header_text n c)) (omega arith) e (omega (arith, closed))
