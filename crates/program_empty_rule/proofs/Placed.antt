-- What follows from the definitions of specs/Placed.antt.
use Rattle.std.specs.Prelude.{◌≡◌, refl, Bool, true, false, cond, List, [], ◌∷◌, ◌++◌, map, ℕ, suc, ◌+◌, ◌<◌, ℤ, pos, length, Option, None, Some, unwrap_or}
use Rattle.std.proofs.Common.{sym, ap, ◌∙◌, subst, true≢false, arith, ne_eqb}
use Rattle.std.proofs.lemmas.Option.{none-some}
use Rattle.words.specs.Words.{ascii}
use Rattle.formula.specs.Formula.{closes, onto, clauses}
use Rattle.refusal.specs.Reply.{refusal}
use Rattle.rule_list.specs.Laws.{scan}
use Rattle.rule_list.specs.Sound.{Scan, unread, unclosed}
use Rattle.refusal_causes.specs.Empty.{empty_clause}
use Rattle.rule_file.specs.Accepted.{Parts, past_header}
use Rattle.rule_file.proofs.Accepted.{first_good}
use Rattle.rule_file.specs.Class.{class_of}
use Rattle.rule_file.specs.Format.{past_comments, signed, element, repeats, past, bad_token, bad_tokens, stored, rules_of, gives, reading}
use Rattle.rule_file.proofs.Stored.{repeat_dropped, zero-stored, literal-stored}
use Rattle.rule_file.specs.TokenLaws.{First, Shaped}
use Rattle.rule_file.proofs.TokenLaws.{shaped}
use Rattle.rule_file.specs.Tokens.{Token, tokens_from}
use Rattle.program_empty_rule.specs.Empty.{empty_among, empty_behind, empty_rule}
use Rattle.program_empty_rule.specs.Placed.{Placed}

-- the index of the first closing zero without a literal before it, by the list's numbers from index i on; the flag says whether the open clause has a literal
abbrev empty_index : Bool → ℕ → List ℤ → Option ℕ
empty_index filled i [] = None
empty_index filled i (x ∷ l) = cond (closes x) (cond filled (empty_index false (suc i) l) (Some i)) (empty_index true (suc i) l)

-- the same by the clauses, without the first where it goes on with one that has a literal
abbrev empty_later : Bool → ℕ → List (List ℤ) → Option ℕ
empty_later false i f = empty_clause i f
empty_later true i [] = None
empty_later true i (c ∷ f) = empty_clause (suc (i + length c)) f

by_clauses : (filled : Bool) (i : ℕ) (l : List ℤ) → empty_later filled i (clauses l) ≡ empty_index filled i l
by_clauses false i [] = refl
by_clauses true i [] = refl
by_clauses filled i (x ∷ l) = go (closes x) filled (by_clauses false (suc i) l) (by_clauses true (suc i) l)
  where
    joined : (filled : Bool) (f : List (List ℤ)) → empty_later filled i (onto x f) ≡ empty_later true (suc i) f
    joined false [] = refl
    joined true [] = refl
    joined false (c ∷ f) =
        let same : suc (i + suc (length c)) ≡ suc (suc i + length c) = omega arith in
        rw (ne_eqb (suc (length c)) 0 (λ q. omega arith), same)
    joined true (c ∷ f) =
        let same : suc (i + suc (length c)) ≡ suc (suc i + length c) = omega arith in
        ap (λ (k : ℕ). empty_clause k f) same

    go : (z filled : Bool) → empty_clause (suc i) (clauses l) ≡ empty_index false (suc i) l → empty_later true (suc i) (clauses l) ≡ empty_index true (suc i) l
        → empty_later filled i (cond z ([] ∷ clauses l) (onto x (clauses l))) ≡ cond z (cond filled (empty_index false (suc i) l) (Some i)) (empty_index true (suc i) l)
    go true false e f = refl
    go true true e f =
        let same : suc (i + 0) ≡ suc i = omega arith in
        ap (λ (k : ℕ). empty_clause k (clauses l)) same ∙ e
    go false filled e f = joined filled (clauses l) ∙ f

-- a token in front, which is stored or not
in_front : (s t : Scan) (i k size : ℕ) (u : Token) (ts : List Token) (place : ℕ) (o : Option ℕ)
    → ((l : List ℤ) → i + length (stored s (element u ∷ l)) ≡ k + length (stored t l)) → Placed t k size ts place o → Placed s i size (u ∷ ts) place o
in_front s t i k size u ts place None h p = p
in_front s t i k size u ts place (Some j) h p =
    record {
      before = u ∷ p.before;
      bytes = p.bytes;
      behind = p.behind;
      split = ap (λ (us : List Token). u ∷ us) p.split;
      closing = p.closing;
      index = h (map element p.before) ∙ p.index;
    }

-- what is found among tokens, after what s says was read and i numbers that are stored
abbrev Found : Scan → ℕ → ℕ → List Token → Type 0
Found s i size ts = Placed s i size ts (empty_among (unclosed s.clause) size ts) (empty_index (unclosed s.clause) i (stored s (map element ts)))

-- a token that gives x in front of others: it closes a clause, repeats a literal of one, or is a further literal
module _ (size k m i : ℕ) (t : Token) (ts : List Token) (x : ℤ) (e : signed t.bytes ≡ Some x) where
  given : element t ≡ x
  given = ap (λ (o : Option ℤ). unwrap_or o (pos 0)) e

  one : (s u : Scan) (l : List ℤ) → stored s (x ∷ l) ≡ x ∷ stored u l → i + length (stored s (element t ∷ l)) ≡ suc i + length (stored u l)
  one s u l f = omega (arith, ap (λ (y : ℤ). length (stored s (y ∷ l))) given, ap length f)

  closed : (clause : List ℤ) → closes x ≡ true → Found (scan (k + 1) m []) (suc i) size ts → Found (scan k m clause) i size (t ∷ ts)
  closed [] z p =
      rw (e, (zero-stored k m [] x (map element ts) z).1, z)
      (record { before = []; bytes = t.bytes; behind = ts; split = refl; closing = ap closes given ∙ z; index = omega arith })
  closed (y ∷ clause) z p =
      let s : Scan = scan k m (y ∷ clause) in
      let u : Scan = scan (k + 1) m [] in
      subst (λ (v : ℤ). Placed s i size (t ∷ ts) (empty_among true size (t ∷ ts)) (empty_index true i (stored s (v ∷ map element ts)))) (sym given)
      (rw (e, (zero-stored k m (y ∷ clause) x (map element ts) z).1, z)
      (in_front s u i (suc i) size t ts (empty_among false size ts) (empty_index false (suc i) (stored u (map element ts)))
      (λ l. one s u l (zero-stored k m (y ∷ clause) x l z).1) p))

  repeated : (clause : List ℤ) → closes x ≡ false → repeats (scan k m clause) x ≡ true → Found (scan k m clause) i size ts → Found (scan k m clause) i size (t ∷ ts)
  repeated [] z r p = absurd (true≢false (sym (rw (z) at r)))
  repeated (y ∷ clause) z r p =
      let s : Scan = scan k m (y ∷ clause) in
      subst (λ (v : ℤ). Placed s i size (t ∷ ts) (empty_among true size (t ∷ ts)) (empty_index true i (stored s (v ∷ map element ts)))) (sym given)
      (rw (e, (repeat_dropped k m (y ∷ clause) x (map element ts) r).1, z)
      (in_front s s i i size t ts (empty_among true size ts) (empty_index true i (stored s (map element ts)))
      (λ l. ap (λ (v : ℤ). i + length (stored s (v ∷ l))) given ∙ ap (λ (o : List ℤ). i + length o) (repeat_dropped k m (y ∷ clause) x l r).1) p))

  joined : (clause : List ℤ) → closes x ≡ false → repeats (scan k m clause) x ≡ false → Found (scan k (m + 1) (x ∷ clause)) (suc i) size ts → Found (scan k m clause) i size (t ∷ ts)
  joined clause z r p =
      let s : Scan = scan k m clause in
      let u : Scan = scan k (m + 1) (x ∷ clause) in
      rw (e, (literal-stored k m clause x (map element ts) z r).1, z)
      (in_front s u i (suc i) size t ts (empty_among true size ts) (empty_index true (suc i) (stored u (map element ts)))
      (λ l. one s u l (literal-stored k m clause x l z r).1) p)

-- so for all good tokens
found : (ts : List Token) (n c size k m : ℕ) (clause : List ℤ) (i : ℕ) → bad_tokens n c size (scan k m clause) ts ≡ None → Found (scan k m clause) i size ts
found [] n c size k m clause i e = refl
found (t ∷ ts) n c size k m clause i e = token (signed t.bytes) refl parts.0 (found ts n c size)
  where
    s : Scan
    s = scan k m clause

    parts : (bad_token n c s t.place (signed t.bytes) ≡ None) × (bad_tokens n c size (past s (element t)) ts ≡ None)
    parts = first_good n c size s t ts e

    Later : Type 0
    Later = (k m : ℕ) (clause : List ℤ) (i : ℕ) → bad_tokens n c size (scan k m clause) ts ≡ None → Found (scan k m clause) i size ts

    good : (x : ℤ) → signed t.bytes ≡ Some x → (u : Scan) → past s x ≡ u → bad_tokens n c size u ts ≡ None
    good x f u q = sym (ap (λ (u : Scan). bad_tokens n c size u ts) (ap (past s) (given size k m i t ts x f) ∙ q)) ∙ parts.1

    number : (x : ℤ) → signed t.bytes ≡ Some x → (z r : Bool) → closes x ≡ z → repeats s x ≡ r → Later → Found s i size (t ∷ ts)
    number x f true r g q later = closed size k m i t ts x f clause g (later (k + 1) m [] (suc i) (good x f (scan (k + 1) m []) (zero-stored k m clause x [] g).0))
    number x f false true g q later = repeated size k m i t ts x f clause g q (later k m clause i (good x f s (repeat_dropped k m clause x [] q).0))
    number x f false false g q later =
        let u : Scan = scan k (m + 1) (x ∷ clause) in
        joined size k m i t ts x f clause g q (later k (m + 1) (x ∷ clause) (suc i) (good x f u (literal-stored k m clause x [] g q).0))

    token : (o : Option ℤ) → signed t.bytes ≡ o → bad_token n c s t.place o ≡ None → Later → Found s i size (t ∷ ts)
    token None f g later = absurd (none-some (refusal 3 t.place) (sym g))
    token (Some x) f g later = number x f (closes x) (repeats s x) refl refl later

-- a token stands inside its file
token_inside : (file : List ℕ) (at : ℕ) (before : List Token) (t : Token) (behind : List Token) → tokens_from file at ≡ before ++ t ∷ behind → t.place < length file
token_inside file at [] t behind e =
    let f : First file at t behind = subst (Shaped file at) e (shaped file at) in
    omega (arith, f.some, f.inside)
token_inside file at (u ∷ before) t behind e =
    let f : First file at u (before ++ t ∷ behind) = subst (Shaped file at) e (shaped file at) in
    token_inside file (u.place + length u.bytes) before t behind (sym f.rest)

-- What a file that reading accepts has at the place: the closing zero that is refused by its index in the list, or nothing, where none is.
module _ (file : List ℕ) (n c : ℕ) (l : List ℤ) (p : Parts file n c l) where
  abbrev ts : List Token
  ts = past_header file p.size

  pub placed : Placed unread 0 (length file) ts (empty_rule file) (empty_clause 0 (clauses l))
  placed =
      let place : empty_rule file ≡ empty_among false (length file) ts = ap (empty_behind file (past_comments false 0 file)) p.head in
      let index : empty_clause 0 (clauses l) ≡ empty_index false 0 (rules_of ts) = by_clauses false 0 l ∙ ap (empty_index false 0) p.gave in
      rw (place, index) (found ts n c (length file) 0 0 [] 0 p.good)

  -- so there is one exactly where the place is inside the file
  pub inside : (place : ℕ) (o : Option ℕ) → Placed unread 0 (length file) ts place o → (place < length file → o ≡ None → ⊥) × ((o ≡ None → ⊥) → place < length file)
  inside place None q = (λ h e. omega arith, λ f. absurd (f refl))
  inside place (Some j) q =
      (λ h e. none-some j (sym e), λ f. token_inside file (past_comments false 0 file + p.size) q.before (record { place = place; bytes = q.bytes }) q.behind q.split)

-- the second rule has no entries, and its 0 stands at byte 18 and, without the repeat, at index 2
abbrev example : List ℕ
example = ascii "p cnf 1 2\nc\n1 1 0\n0\n"

abbrev example_list : List ℤ
example_list = pos 1 ∷ pos 0 ∷ pos 0 ∷ []

example_placed : (reading example ≡ gives 1 2 example_list) × (empty_rule example ≡ 18) × (empty_clause 0 (clauses example_list) ≡ Some 2)
unfolding class_of
example_placed = (refl, refl, refl)
