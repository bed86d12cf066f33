-- What follows from the definitions of specs/Causes.antt.
use Rattle.std.specs.Prelude.{◌≡◌, refl, Bool, true, false, cond, ◌&&◌, ◌||◌, List, [], ◌∷◌, ℕ, zero, suc, ◌+◌, eqb, ltb, leb, ℤ, length, get_or, drop, Option, None, Some}
use Rattle.std.proofs.Common.{sym, ap, ◌∙◌, true≢false, arith, eqb-true}
use Rattle.literal.specs.Literal.{variable}
use Rattle.formula.specs.Formula.{all}
use Rattle.refusal.specs.declared.Refusal.{Refusal}
use Rattle.refusal.specs.Passing.{Passes, last, more, no_cause, some-cause, by_place, by_first}
use Rattle.refusal.specs.Reply.{refusal, place_if}
use Rattle.limits.specs.Limits.{max_literals}
use Rattle.rule_list.specs.Sound.{Scan, unread, unclosed}
use Rattle.rule_file.specs.Format as rule
use Rattle.rule_file.specs.Format.{Header}
use Rattle.rule_file.specs.Tokens.{Token, tokens_from}
use Rattle.wish_file.specs.Format as wish
use Rattle.wish_file.specs.Layout.{line_size, line_numbers}
use Rattle.file_causes.specs.Causes.{among, rule_causes, wish_causes}

-- what all of a list are, one of it is
pub each : (test : ℕ → Bool) (l : List ℕ) (k : ℕ) → all test l ≡ true → among l k ≡ true → test k ≡ true
each test [] k t e = absurd (true≢false (sym e))
each test (x ∷ l) k t e = go (test x) refl (eqb k x) refl t e (each test l k)
  where
    go : (a : Bool) → test x ≡ a → (b : Bool) → eqb k x ≡ b → a && all test l ≡ true → b || among l k ≡ true
        → (all test l ≡ true → among l k ≡ true → test k ≡ true) → test k ≡ true
    go false f b g h i later = absurd (true≢false (sym h))
    go true f true g h i later = ap test (eqb-true k x g) ∙ f
    go true f false g h i later = later h i

-- The rule file.
abbrev RuleCause : Option Refusal → Type 0
RuleCause = Passes (among rule_causes)

token_cause : (n c : ℕ) (s : Scan) (place : ℕ) (o : Option ℤ) → RuleCause (rule.bad_token n c s place o)
token_cause n c s place None = some-cause (refusal 3 place) refl
token_cause n c s place (Some x) =
    by_first
    (more (by_place 6 refl (place_if (leb c s.clauses) place))
    (more (by_place 7 refl (place_if (rule.adds s x && leb max_literals s.literals) place))
    (more (by_place 4 refl (place_if (ltb n (variable x)) place)) last)))

tokens-cause : (n c size : ℕ) (s : Scan) (ts : List Token) → RuleCause (rule.bad_tokens n c size s ts)
tokens-cause n c size s [] = by_place 6 refl (place_if (ltb s.clauses c || unclosed s.clause) size)
tokens-cause n c size s (t ∷ ts) =
    by_first (more (token_cause n c s t.place (rule.signed t.bytes)) (more (tokens-cause n c size (rule.past s (rule.element t)) ts) last))

pub rule_number : (file : List ℕ) (r : Refusal) → rule.reading file ≡ rule.refuses r → among rule_causes r.number ≡ true
rule_number file r e = found (rule.header (drop at file)) e
  where
    at : ℕ
    at = rule.past_comments false 0 file

    told : (q : Refusal) → among rule_causes q.number ≡ true → rule.refuses q ≡ rule.refuses r → among rule_causes r.number ≡ true
    told q t f =
        let same : q ≡ r = cc in
        rw (← same) t

    tokens : (n c : ℕ) (ts : List Token) (o : Option Refusal) → RuleCause o → rule.read_tokens n c ts o ≡ rule.refuses r → among rule_causes r.number ≡ true
    tokens n c ts None cause f = absurd (let z : ◌≡◌ {A = ℕ} 0 1 = cc in omega arith)
    tokens n c ts (Some q) cause f = told q (cause.number q refl) f

    ranged : (b : Bool) (n c : ℕ) (ts : List Token) (o : Option Refusal) → RuleCause o
        → cond b (rule.refuses (refusal 2 at)) (rule.read_tokens n c ts o) ≡ rule.refuses r → among rule_causes r.number ≡ true
    ranged true n c ts o cause f = told (refusal 2 at) refl f
    ranged false n c ts o cause f = tokens n c ts o cause f

    found : (o : Option Header) → rule.read_from file at o ≡ rule.refuses r → among rule_causes r.number ≡ true
    found None f = told (refusal 1 at) refl f
    found (Some h) f =
        let next : ℕ = at + h.size in
        let ts : List Token = tokens_from file next in
        ranged (rule.outside h.variables h.clauses) h.variables h.clauses ts _
        (tokens-cause h.variables h.clauses (length file) unread ts) f

-- The wish file.
abbrev WishCause : Option Refusal → Type 0
WishCause = Passes (among wish_causes)

line-cause : (n before at : ℕ) (o : Option (List ℕ)) → WishCause (wish.bad_line n before at o)
line-cause n before at None = some-cause (refusal 8 at) refl
line-cause n before at (Some vs) = by_place 10 refl (place_if (wish.misfit n before (wish.wish_of vs)) at)

lines_cause : (n m before at : ℕ) (s : List ℕ) → WishCause (wish.bad_lines n m before at s)
lines_cause n zero before at [] = no_cause
lines_cause n zero before at (b ∷ s) = some-cause (refusal 8 at) refl
lines_cause n (suc m) before at s =
    by_first
    (more (line-cause n before at (line_numbers wish.wish_columns s))
    (more (lines_cause n m (wish.wish_at s).variable (at + line_size wish.wish_columns) (drop (line_size wish.wish_columns) s)) last))

pub wish_number : (file : List ℕ) (r : Refusal) → wish.reading file ≡ wish.refuses r → among wish_causes r.number ≡ true
wish_number file r e = header (line_numbers wish.header_columns file) e
  where
    s : List ℕ
    s = drop (line_size wish.header_columns) file

    told : (q : Refusal) → among wish_causes q.number ≡ true → wish.refuses q ≡ wish.refuses r → among wish_causes r.number ≡ true
    told q t f =
        let same : q ≡ r = cc in
        rw (← same) t

    lines : (n m d : ℕ) (o : Option Refusal) → WishCause o → wish.read_lines n m d s o ≡ wish.refuses r → among wish_causes r.number ≡ true
    lines n m d None cause f = absurd (let z : ◌≡◌ {A = ℕ} 0 1 = cc in omega arith)
    lines n m d (Some q) cause f = told q (cause.number q refl) f

    ranged : (b : Bool) (n m d : ℕ) (o : Option Refusal) → WishCause o
        → cond b (wish.refuses (refusal 9 0)) (wish.read_lines n m d s o) ≡ wish.refuses r → among wish_causes r.number ≡ true
    ranged true n m d o cause f = told (refusal 9 0) refl f
    ranged false n m d o cause f = lines n m d o cause f

    header : (o : Option (List ℕ)) → wish.read_header s o ≡ wish.refuses r → among wish_causes r.number ≡ true
    header None f = told (refusal 8 0) refl f
    header (Some vs) f =
        let n : ℕ = get_or vs 0 0 in
        let m : ℕ = get_or vs 1 0 in
        let d : ℕ = get_or vs 2 0 in
        ranged (wish.outside n m d) n m d _ (lines_cause n m 0 (line_size wish.header_columns) s) f
