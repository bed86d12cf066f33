-- What the reading of a file comes to, for each way it can go.
use Rattle.std.specs.Prelude.{◌≡◌, refl, Bool, true, false, cond, ◌||◌, List, ◌++◌, ℕ, ◌+◌, ◌≤◌, eqb, ltb, ℤ, length, drop, Option, None, Some}
use Rattle.std.proofs.Common.{sym, ap, ◌∙◌, true≢false, zero-add, arith, le-ltb, ltb-false}
use Rattle.std.proofs.lemmas.Option.{same_Some}
use Rattle.std.proofs.lemmas.List.Edits.{sets, sets-eq}
use Rattle.refusal.specs.declared.Refusal.{Refusal}
use Rattle.refusal.specs.Reply.{Reply, refusal, refusing, answering, too_short}
use Rattle.limits.specs.Limits.{max_variables, max_clauses}
use Rattle.rule_list.specs.Sound.{unread}
use Rattle.rule_file.specs.Format.{past_comments, Header, header, outside, bad_tokens, rules_of, Reading, refuses, gives, read_tokens, read_from, reading}
use Rattle.rule_file.specs.Tokens.{Token, tokens_from}
use Rattle.rule_file_header.specs.declared.Header as H
use Rattle.rule_file_header.specs.Header.{header_as}
use Rattle.rule_file_reader.specs.Read.{replying, leaving}

-- the reading of the tokens from a place on
abbrev pub tokens_read : ℕ → ℕ → List ℕ → ℕ → Reading
tokens_read n c file from =
    read_tokens n c (tokens_from file from) (bad_tokens n c (length file) unread (tokens_from file from))

-- the reply and the list that a reading leaves
abbrev pub Answers : Reply → List ℤ → Reading → List ℤ → Type 0
Answers reply result r out = (reply ≡ replying r (length out)) × (result ≡ leaving r out)

pub refused : (reading : Reading) (r : Refusal) (out : List ℤ) → reading ≡ refuses r → Answers (refusing r) out reading out
refused reading r out e = (rw e, rw e)

pub answered : (one two : Reading) (reply : Reply) (result out : List ℤ) → two ≡ one → Answers reply result one out → Answers reply result two out
answered one two reply result out e a = rw (e) a

-- the tokens
module _ (n c : ℕ) (file : List ℕ) (from : ℕ) (out : List ℤ) where
  abbrev ts : List Token
  ts = tokens_from file from

  abbrev fault : Option Refusal
  fault = bad_tokens n c (length file) unread ts

  pub tokens-refused : (r : Refusal) → fault ≡ Some r → Answers (refusing r) out (tokens_read n c file from) out
  tokens-refused r e = refused (tokens_read n c file from) r out (ap (read_tokens n c ts) e)

  -- all are good, and k numbers are stored
  module _ (good : fault ≡ None) (k : ℕ) (size : k ≡ length (rules_of ts)) where
    abbrev list : List ℤ
    list = rules_of ts

    long : length list ≡ k
    long = sym size

    given : tokens_read n c file from ≡ gives n c list
    given = ap (read_tokens n c ts) good

    pub tokens_short : (r : Refusal) → too_short k (length out) ≡ Some r → Answers (refusing r) out (tokens_read n c file from) out
    tokens_short r h =
        let e : too_short (length list) (length out) ≡ Some r = ap (λ (j : ℕ). too_short j (length out)) long ∙ h in
        answered (gives n c list) (tokens_read n c file from) (refusing r) out out given (rw (e) (refl, refl))

    pub tokens_read_lem : k ≤ length out → (result : List ℤ) → result ≡ sets out 0 list → Answers (answering 1 n c k) result (tokens_read n c file from) out
    tokens_read_lem h result e =
        let whole : sets out 0 list ≡ list ++ drop (length list) out =
        sets-eq list out 0 (omega (arith, long)) ∙ ap (λ (j : ℕ). list ++ drop j out) (zero-add (length list)) in
        answered (gives n c list) (tokens_read n c file from) (answering 1 n c k) result out given
        (rw (le-ltb (length out) (length list) (omega (arith, long))) (ap (answering 1 n c) (sym long), e ∙ whole))

-- the header
pub in_range : (n c : ℕ) → outside n c ≡ false → (n ≤ max_variables) × (c ≤ max_clauses)
in_range n c e = go (eqb n 0) (ltb max_variables n) refl (ltb max_clauses c) refl e
  where
    go : (z t : Bool) → ltb max_variables n ≡ t → (u : Bool) → ltb max_clauses c ≡ u → z || (t || u) ≡ false → (n ≤ max_variables) × (c ≤ max_clauses)
    go true t f u g h = absurd (true≢false h)
    go false true f u g h = absurd (true≢false h)
    go false false f true g h = absurd (true≢false h)
    go false false f false g h = (ltb-false max_variables n f, ltb-false max_clauses c g)

module _ (file : List ℕ) (place : ℕ) (here : place ≡ past_comments false 0 file) where
  from_place : (o : Option Header) → header (drop place file) ≡ o → reading file ≡ read_from file place o
  from_place o e =
      ap (λ (at : ℕ). read_from file at (header (drop at file))) (sym here) ∙ ap (read_from file place) e

  pub header_missing : None ≡ header_as place (header (drop place file)) → reading file ≡ refuses (refusal 1 place)
  header_missing e = go (header (drop place file)) refl e
    where
      go : (o : Option Header) → header (drop place file) ≡ o → None ≡ header_as place o → reading file ≡ refuses (refusal 1 place)
      go None f g = from_place None f
      go (Some h) f g = cc

  pub header_found : (h : H.Header) → Some h ≡ header_as place (header (drop place file))
      → reading file ≡ cond (outside h.variables h.clauses) (refuses (refusal 2 place)) (tokens_read h.variables h.clauses file h.next)
  header_found h e = go (header (drop place file)) refl e
    where
      go : (o : Option Header) → header (drop place file) ≡ o → Some h ≡ header_as place o
          → reading file ≡ cond (outside h.variables h.clauses) (refuses (refusal 2 place)) (tokens_read h.variables h.clauses file h.next)
      go None f g = cc
      go (Some k) f g =
          from_place (Some k) f
          ∙ ap (λ (t : H.Header). cond (outside t.variables t.clauses) (refuses (refusal 2 place)) (tokens_read t.variables t.clauses file t.next))
          (sym (same_Some h (record { variables = k.variables; clauses = k.clauses; next = place + k.size }) g))

  -- its numbers are out of range, or not
  module _ (h : H.Header) (e : Some h ≡ header_as place (header (drop place file))) where
    pub range_refused : outside h.variables h.clauses ≡ true → reading file ≡ refuses (refusal 2 place)
    range_refused f = header_found h e ∙ rw f

    pub range_kept : outside h.variables h.clauses ≡ false → reading file ≡ tokens_read h.variables h.clauses file h.next
    range_kept f = header_found h e ∙ rw f
