-- What follows from the definitions of specs/Moved.antt.
use Rattle.std.specs.Prelude.{◌≡◌, refl, Bool, true, false, cond, ◌&&◌, ◌||◌, List, [], ◌∷◌, map, ℕ, ◌+◌, leb, ltb, ℤ, length, Option, None, Some}
use Rattle.std.proofs.Common.{ap, ap₂, ◌∙◌}
use Rattle.literal.specs.Literal.{variable}
use Rattle.refusal.specs.declared.Refusal.{Refusal}
use Rattle.refusal.specs.Reply.{refusal, first, cause}
use Rattle.limits.specs.Limits.{max_literals}
use Rattle.rule_list.specs.Sound.{Scan, unread, unclosed}
use Rattle.rule_file.specs.Format.{Header, outside, signed, element, adds, past, bad_token, bad_tokens, stored, refuses, gives, read_tokens, read_from}
use Rattle.rule_file.specs.Tokens.{Token, tokens_from}
use Rattle.rule_file_comments.specs.Lines.{moved, moved_reading}
use Rattle.rule_file_comments.specs.Moved.{moved_tokens}

abbrev moved_cause : ℕ → ℕ → Option Refusal → Option Refusal
moved_cause from by None = None
moved_cause from by (Some r) = Some (refusal r.number (moved from by r.place))

module _ (from by : ℕ) where
  abbrev move : ℕ → ℕ
  move place = moved from by place

  cause_moves : (t : Bool) (number place : ℕ) → cause t number (move place) ≡ moved_cause from by (cause t number place)
  cause_moves true number place = refl
  cause_moves false number place = refl

  first_moves : (o q : Option Refusal) → first (moved_cause from by o ∷ moved_cause from by q ∷ []) ≡ moved_cause from by (first (o ∷ q ∷ []))
  first_moves None None = refl
  first_moves None (Some r) = refl
  first_moves (Some r) q = refl

  token_moves : (n c : ℕ) (s : Scan) (place : ℕ) (o : Option ℤ) → bad_token n c s (move place) o ≡ moved_cause from by (bad_token n c s place o)
  token_moves n c s place None = refl
  token_moves n c s place (Some x) =
      go (leb c s.clauses) (adds s x && leb max_literals s.literals) (ltb n (variable x))
    where
      found : Bool → Bool → Bool → ℕ → Option Refusal
      found six seven four at = first (cause six 6 at ∷ cause seven 7 at ∷ cause four 4 at ∷ [])

      go : (six seven four : Bool) → found six seven four (move place) ≡ moved_cause from by (found six seven four place)
      go true seven four = refl
      go false true four = refl
      go false false true = refl
      go false false false = refl

  tokens_move : (ts : List Token) (n c size : ℕ) (s : Scan) → bad_tokens n c (move size) s (moved_tokens from by ts) ≡ moved_cause from by (bad_tokens n c size s ts)
  tokens_move [] n c size s = cause_moves (ltb s.clauses c || unclosed s.clause) 6 size
  tokens_move (t ∷ ts) n c size s =
      ap₂ (λ (o q : Option Refusal). first (o ∷ q ∷ [])) (token_moves n c s t.place (signed t.bytes)) (tokens_move ts n c size (past s (element t)))
      ∙ first_moves (bad_token n c s t.place (signed t.bytes)) (bad_tokens n c size (past s (element t)) ts)

  -- their numbers are the same
  numbers_stay : (ts : List Token) → map element (moved_tokens from by ts) ≡ map element ts
  numbers_stay [] = refl
  numbers_stay (t ∷ ts) = ap (λ (l : List ℤ). element t ∷ l) (numbers_stay ts)

  reading_moves : (n c : ℕ) (ts us : List Token) (o : Option Refusal) → map element us ≡ map element ts
      → read_tokens n c us (moved_cause from by o) ≡ moved_reading from by (read_tokens n c ts o)
  reading_moves n c ts us None e = ap (λ (l : List ℤ). gives n c (stored unread l)) e
  reading_moves n c ts us (Some r) e = refl

  -- a file whose header, tokens and end have so moved
  module _ (file file' : List ℕ) (at at' : ℕ) (header_at : at' ≡ move at) (end : length file' ≡ move (length file)) where
    pub read_moves : (o : Option Header) → ((h : Header) → o ≡ Some h → tokens_from file' (at' + h.size) ≡ moved_tokens from by (tokens_from file (at + h.size)))
        → read_from file' at' o ≡ moved_reading from by (read_from file at o)
    read_moves None tokens = ap (λ (k : ℕ). refuses (refusal 1 k)) header_at
    read_moves (Some h) tokens = go (outside h.variables h.clauses)
      where
        n : ℕ
        n = h.variables

        c : ℕ
        c = h.clauses

        ts : List Token
        ts = tokens_from file (at + h.size)

        us : List Token
        us = tokens_from file' (at' + h.size)

        good : bad_tokens n c (length file') unread us ≡ moved_cause from by (bad_tokens n c (length file) unread ts)
        good = ap₂ (λ (k : ℕ) (vs : List Token). bad_tokens n c k unread vs) end (tokens h refl) ∙ tokens_move ts n c (length file) unread

        go : (t : Bool) → cond t (refuses (refusal 2 at')) (read_tokens n c us (bad_tokens n c (length file') unread us))
            ≡ moved_reading from by (cond t (refuses (refusal 2 at)) (read_tokens n c ts (bad_tokens n c (length file) unread ts)))
        go true = ap (λ (k : ℕ). refuses (refusal 2 k)) header_at
        go false =
            ap (read_tokens n c us) good
            ∙ reading_moves n c ts us (bad_tokens n c (length file) unread ts) (ap (map element) (tokens h refl) ∙ numbers_stay ts)
