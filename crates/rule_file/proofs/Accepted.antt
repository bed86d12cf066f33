-- What follows from the definitions of specs/Accepted.antt.
use Rattle.std.specs.Prelude.{◌≡◌, refl, Bool, true, false, cond, ◌&&◌, ◌||◌, List, [], ◌∷◌, map, ℕ, zero, suc, ◌+◌, ◌≤◌, ◌<◌, eqb, ltb, leb, ℤ, pos, negsuc, length, drop, Option, None, Some, unwrap_or}
use Rattle.std.proofs.Common.{sym, ap, ◌∙◌, true≢false, zero-add, arith, lt-ltb, le-leb, leb-false, ltb-false}
use Rattle.std.proofs.lemmas.Option.{none-some, same_Some}
use Rattle.std.proofs.lemmas.Bool.{eqb-false}
use Rattle.literal.specs.Literal.{variable}
use Rattle.formula.specs.Formula.{closes, clauses}
use Rattle.refusal.specs.declared.Refusal.{Refusal}
use Rattle.refusal.specs.Laws.{first_last, cause_none, no_first, neither}
use Rattle.refusal.specs.Reply.{refusal, first, cause}
use Rattle.limits.specs.Limits.{max_variables, max_clauses, max_literals}
use Rattle.rule_list.specs.Laws.{zeros, zeros-clauses}
use Rattle.rule_list.specs.Sound.{SoundList, Scan, unread, may_join, stands, after, unclosed, bad_rule}
use Rattle.decimal.specs.Decimal.{decimal, number}
use Rattle.decimal.specs.Laws.{decimal-digits, decimal-some, decimal_read}
use Rattle.text.specs.Text.{numeral}
use Rattle.rule_file.specs.Class.{class_of}
use Rattle.rule_file.specs.Format.{past_comments, Header, header, numbered, outside, positive, negative, signed, element, repeats, adds, past, bad_token, bad_tokens, stored, rules_of, refuses, gives, reading, read_tokens, read_from}
use Rattle.rule_file.specs.Tokens.{Token, tokens_from}
use Rattle.rule_file.specs.RoundTrip.{tokens_of}
use Rattle.rule_file.proofs.RoundTrip.{unsigned, tokens-written, header-fields, header-joined, header-length}
use Rattle.rule_file.specs.Written.{body, header_text, written}
use Rattle.rule_file.specs.Accepted.{Accepted, Next, Parts, past_header}

pub good_next : (n c : ℕ) (s : Scan) (at : ℕ) (x : ℤ) → c ≤ max_clauses → bad_token n c s at (Some x) ≡ None → Next n c s x
good_next n c s at x h e = record { below = less; inside = within; new = go (closes x) refl (may_join s.clause x) refl }
  where
    six : Option Refusal
    six = cause (leb c s.clauses) 6 at

    seven : Option Refusal
    seven = cause (adds s x && leb max_literals s.literals) 7 at

    four : Option Refusal
    four = cause (ltb n (variable x)) 4 at

    p : (six ≡ None) × (first (seven ∷ four ∷ []) ≡ None)
    p = no_first six (seven ∷ four ∷ []) e

    q : (seven ≡ None) × (first (four ∷ []) ≡ None)
    q = no_first seven (four ∷ []) p.1

    less : s.clauses < c
    less = leb-false c s.clauses (cause_none (leb c s.clauses) 6 at p.0)

    few : adds s x && leb max_literals s.literals ≡ false
    few = cause_none (adds s x && leb max_literals s.literals) 7 at q.0

    within : variable x ≤ n
    within = ltb-false n (variable x) (cause_none (ltb n (variable x)) 4 at (sym (first_last four) ∙ q.1))

    go : (b : Bool) → closes x ≡ b → (j : Bool) → may_join s.clause x ≡ j → repeats s x ≡ false → stands n s x ≡ true
    go true f j g r = rw (f, lt-ltb s.clauses max_clauses (omega (arith, less)))
    go false f true g r =
        let literal : leb max_literals s.literals ≡ false = rw (f, g) at few in
        rw (f, g, le-leb (variable x) n within, lt-ltb s.literals max_literals (leb-false max_literals s.literals literal))
    go false f false g r = absurd (true≢false (rw (f, g) at r))

-- where nothing is refused, the first token is not, nor any after it
pub first_good : (n c size : ℕ) (s : Scan) (t : Token) (ts : List Token) → bad_tokens n c size s (t ∷ ts) ≡ None
    → (bad_token n c s t.place (signed t.bytes) ≡ None) × (bad_tokens n c size (past s (element t)) ts ≡ None)
first_good n c size s t ts e =
    let later : Option Refusal = bad_tokens n c size (past s (element t)) ts in
    let parts = no_first (bad_token n c s t.place (signed t.bytes)) (later ∷ []) e in
    (parts.0, sym (first_last later) ∙ parts.1)

-- a list is sound after what s says was read, and has as many clauses as were announced
abbrev SoundRest : ℕ → ℕ → Scan → ℕ → List ℤ → Type 0
SoundRest n c s i l = (bad_rule n s i l ≡ None) × (c ≡ s.clauses + zeros l)

-- so is what is stored of good tokens
sound_tokens : (ts : List Token) (n c size : ℕ) (s : Scan) (i : ℕ) → c ≤ max_clauses → s.clauses ≤ c → bad_tokens n c size s ts ≡ None
    → SoundRest n c s i (stored s (map element ts))
sound_tokens [] n c size s i h k e =
    let parts = neither (ltb s.clauses c) (unclosed s.clause) (cause_none (ltb s.clauses c || unclosed s.clause) 6 size e) in
    (rw parts.1, omega (arith, ltb-false s.clauses c parts.0))
sound_tokens (t ∷ ts) n c size s i h k e =
    token (signed t.bytes) refl parts.0 (λ j m. sound_tokens ts n c size (past s (element t)) j h m parts.1)
  where
    parts : (bad_token n c s t.place (signed t.bytes) ≡ None) × (bad_tokens n c size (past s (element t)) ts ≡ None)
    parts = first_good n c size s t ts e

    l : List ℤ
    l = map element ts

    clause_count : (x : ℤ) → s.clauses < c → ((after s x).clauses ≤ c) × ((m : List ℤ) → c ≡ (after s x).clauses + zeros m → c ≡ s.clauses + zeros (x ∷ m))
    clause_count x m = go (closes x) refl
      where
        go : (b : Bool) → closes x ≡ b → ((after s x).clauses ≤ c) × ((m : List ℤ) → c ≡ (after s x).clauses + zeros m → c ≡ s.clauses + zeros (x ∷ m))
        go true f = rw (f) (omega arith, λ m t. omega arith)
        go false f = rw (f) (omega arith, λ m t. omega arith)

    number : (x : ℤ) → Next n c s x → (b : Bool) → repeats s x ≡ b → ((j : ℕ) → (past s x).clauses ≤ c → SoundRest n c (past s x) j (stored (past s x) l)) → SoundRest n c s i (stored s (x ∷ l))
    number x next true f rest = rw (f) ((rw (f) at rest) i k)
    number x next false f rest =
        let count = clause_count x next.below in
        let more : SoundRest n c (after s x) (suc i) (stored (after s x) l) = (rw (f) at rest) (suc i) count.0 in
        rw (f, next.new f) (more.0, count.1 (stored (after s x) l) more.1)

    token : (o : Option ℤ) → signed t.bytes ≡ o → bad_token n c s t.place o ≡ None
        → ((j : ℕ) → (past s (unwrap_or o (pos 0))).clauses ≤ c → SoundRest n c (past s (unwrap_or o (pos 0))) j (stored (past s (unwrap_or o (pos 0))) l))
        → SoundRest n c s i (stored s (unwrap_or o (pos 0) ∷ l))
    token None f g rest = absurd (none-some (refusal 3 t.place) (sym g))
    token (Some x) f g rest = number x (good_next n c s t.place x h g) (repeats s x) refl rest

ranges : (n c : ℕ) → outside n c ≡ false → (1 ≤ n) × (n ≤ max_variables) × (c ≤ max_clauses)
ranges n c e =
    let p = neither (eqb n 0) (ltb max_variables n || ltb max_clauses c) e in
    let q = neither (ltb max_variables n) (ltb max_clauses c) p.1 in
    (above n (eqb-false n 0 p.0), ltb-false max_variables n q.0, ltb-false max_clauses c q.1)
  where
    above : (n : ℕ) → (n ≡ 0 → ⊥) → 1 ≤ n
    above n z = omega arith

pub accepted_parts : (file : List ℕ) (n c : ℕ) (l : List ℤ) → reading file ≡ gives n c l → Parts file n c l
accepted_parts file n c l e = found (header (drop at file)) refl e
  where
    at : ℕ
    at = past_comments false 0 file

    never : (r : Refusal) → refuses r ≡ gives n c l → ◌≡◌ {A = ℕ} 0 1
    never r f = cc

    found : (o : Option Header) → header (drop at file) ≡ o → read_from file at o ≡ gives n c l → Parts file n c l
    found None f g = absurd (omega (arith, never (refusal 1 at) g))
    found (Some h) f g = ranged (outside h.variables h.clauses) refl g
      where
        ts : List Token
        ts = past_header file h.size

        passed : (p : Option Refusal) → bad_tokens h.variables h.clauses (length file) unread ts ≡ p → outside h.variables h.clauses ≡ false
            → read_tokens h.variables h.clauses ts p ≡ gives n c l → Parts file n c l
        passed (Some r) k j i = absurd (omega (arith, never r i))
        passed None k j i =
            let same-n : n ≡ h.variables = cc in
            let same-c : c ≡ h.clauses = cc in
            let same-l : l ≡ rules_of ts = cc in
            rw (same-n, same-c, same-l) (record { size = h.size; head = f; range = j; good = k; gave = refl })

        ranged : (t : Bool) → outside h.variables h.clauses ≡ t
            → cond t (refuses (refusal 2 at)) (read_tokens h.variables h.clauses ts (bad_tokens h.variables h.clauses (length file) unread ts)) ≡ gives n c l
            → Parts file n c l
        ranged true j i = absurd (omega (arith, never (refusal 2 at) i))
        ranged false j i = passed (bad_tokens h.variables h.clauses (length file) unread ts) refl j i

-- A file that reading accepts gives N and C in range and a sound list of C clauses.
pub accepted : (file : List ℕ) (n c : ℕ) (l : List ℤ) → reading file ≡ gives n c l → Accepted n c l
accepted file n c l e =
    let p : Parts file n c l = accepted_parts file n c l e in
    let r = ranges n c p.range in
    let tokens-sound = sound_tokens (past_header file p.size) n c (length file) unread 0 r.2 (omega arith) p.good in
    let sound : SoundList n l = ap (bad_rule n unread 0) p.gave ∙ tokens-sound.0 in
    let closed : c ≡ 0 + zeros l = tokens-sound.1 ∙ ap (λ (m : List ℤ). 0 + zeros m) (sym p.gave) in
    record { least = r.0; most = r.1; few = r.2; sound = sound; count = omega (arith, closed, (zeros-clauses n unread 0 l sound).0) }

-- a written number that reads as one reads as itself
positive_back : (o : Option ℕ) (v : ℕ) (y : ℤ) → ((u : ℕ) → o ≡ Some u → u ≡ v) → positive o ≡ Some y → y ≡ pos v
positive_back None v y f e = absurd (none-some y e)
positive_back (Some u) v y f e = sym (same_Some (pos u) y e) ∙ ap (λ (k : ℕ). pos k) (f u refl)

negative_back : (o : Option ℕ) (k : ℕ) (y : ℤ) → ((u : ℕ) → o ≡ Some u → u ≡ suc k) → negative o ≡ Some y → y ≡ negsuc k
negative_back None k y f e = absurd (none-some y e)
negative_back (Some zero) k y f e = absurd (none-some y e)
negative_back (Some (suc u)) k y f e =
    let same : u ≡ k = omega (arith, f (suc u) refl) in
    sym (same_Some (negsuc u) y e) ∙ ap (λ (j : ℕ). negsuc j) same

signed_back : (x y : ℤ) → signed (numeral x) ≡ Some y → y ≡ x
unfolding class_of
signed_back (pos v) y e = positive_back (number (decimal v)) v y (decimal_read v) (sym (unsigned (decimal v) (decimal-some v) (decimal-digits v)) ∙ e)
signed_back (negsuc k) y e = negative_back (number (decimal (suc k))) k y (decimal_read (suc k)) e

tokens_back : (l : List ℤ) (n c size : ℕ) (s : Scan) (at : ℕ) → bad_tokens n c size s (tokens_of at l) ≡ None → map element (tokens_of at l) ≡ l
tokens_back [] n c size s at e = refl
tokens_back (x ∷ l) n c size s at e = token (signed (numeral x)) refl parts.0 (tokens_back l n c size (past s (element t)) next parts.1)
  where
    t : Token
    t = record { place = at; bytes = numeral x }

    next : ℕ
    next = suc (at + length (numeral x))

    parts : (bad_token n c s at (signed (numeral x)) ≡ None) × (bad_tokens n c size (past s (element t)) (tokens_of next l) ≡ None)
    parts = first_good n c size s t (tokens_of next l) e

    token : (o : Option ℤ) → signed (numeral x) ≡ o → bad_token n c s at o ≡ None → map element (tokens_of next l) ≡ l
        → unwrap_or o (pos 0) ∷ map element (tokens_of next l) ≡ x ∷ l
    token None f g same = absurd (none-some (refusal 3 at) (sym g))
    token (Some z) f g same = rw (signed_back x z f, same)

-- a header with both of its numbers
numbered_parts : (o p : Option ℕ) (size n c k : ℕ) → numbered o p size ≡ Some (record { variables = n; clauses = c; size = k }) → (o ≡ Some n) × (size ≡ k)
numbered_parts None p size n c k e = absurd (none-some (record { variables = n; clauses = c; size = k }) e)
numbered_parts (Some m) None size n c k e = absurd (none-some (record { variables = n; clauses = c; size = k }) e)
numbered_parts (Some m) (Some d) size n c k e =
    let same = same_Some (record { variables = m; clauses = d; size = size }) (record { variables = n; clauses = c; size = k }) e in
    (ap (λ (h : Header). Some h.variables) same, ap (λ (h : Header). h.size) same)

-- What the writer's form reads as, if reading accepts it, is what it was written from, whatever that was, without the repeats.
pub written_back : (n : ℕ) (l : List ℤ) (n' c' : ℕ) (l' : List ℤ) → reading (written n l) ≡ gives n' c' l' → (n' ≡ n) × (l' ≡ stored unread l)
unfolding class_of
written_back n l n' c' l' e =
    let p : Parts (written n l) n' c' l' = accepted_parts (written n l) n' c' l' e in
    let c : ℕ = length (clauses l) in
    let size : ℕ = 6 + (suc (length (decimal n)) + suc (length (decimal c))) in
    let head : numbered (number (decimal n)) (number (decimal c)) size ≡ Some (record { variables = n'; clauses = c'; size = p.size }) =
    sym (ap header (header-joined n c (body l)) ∙ header-fields (decimal n) (decimal c) (body l) (decimal-digits n) (decimal-digits c)) ∙ p.head in
    let parts = numbered_parts (number (decimal n)) (number (decimal c)) size n' c' p.size head in
    let place : 0 + p.size ≡ length (header_text n c) = zero-add p.size ∙ sym parts.1 ∙ header-length n c in
    let same : tokens_from (written n l) (0 + p.size) ≡ tokens_of (0 + p.size) l = tokens-written n l (0 + p.size) place in (
      decimal_read n n' parts.0,
      p.gave ∙ ap rules_of same
          ∙ ap (stored unread) (tokens_back l n' c' (length (written n l)) unread (0 + p.size) (ap (bad_tokens n' c' (length (written n l)) unread) (sym same) ∙ p.good)),
    )

-- a file in the writer's form, which has no repeats, read and written, is that file
pub written_read : (n : ℕ) (l : List ℤ) (file : List ℕ) → file ≡ written n l → stored unread l ≡ l → (n' c' : ℕ) (l' : List ℤ) → reading file ≡ gives n' c' l'
    → written n' l' ≡ file
written_read n l file f once n' c' l' g =
    let same = written_back n l n' c' l' (ap reading (sym f) ∙ g) in
    rw (same.0, same.1 ∙ once) (sym f)
