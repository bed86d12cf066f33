-- What follows from the definitions of specs/Skipped.antt.
use Rattle.std.specs.Prelude.{◌≡◌, refl, Bool, true, false, not, ◌&&◌, ◌||◌, List, [], ◌∷◌, ◌++◌, map, ℕ, suc, ◌≤◌, ◌<◌, eqb, ℤ, pos, Option, None, Some, unwrap_or}
use Rattle.std.proofs.Common.{sym, ap, ◌∙◌, true≢false, arith, eqb-true}
use Rattle.std.proofs.Math.Bool.{and-false}
use Rattle.std.proofs.lemmas.Option.{none-some}
use Rattle.literal.specs.Literal.{variable, wanted}
use Rattle.formula.specs.Formula.{closes, contains}
use Rattle.refusal.specs.declared.Refusal.{Refusal}
use Rattle.refusal.specs.Laws.{first_last}
use Rattle.refusal.specs.Reply.{refusal, first}
use Rattle.limits.specs.Limits.{max_clauses}
use Rattle.rule_list.specs.Laws.{scan}
use Rattle.rule_list.specs.Sound.{Scan, unread, may_join, after}
use Rattle.rule_file.specs.Accepted.{Next}
use Rattle.rule_file.proofs.Accepted.{good_next}
use Rattle.rule_file.specs.Format.{signed, element, repeats, past, bad_token, bad_tokens, stored, rules_of}
use Rattle.rule_file.proofs.Stored.{repeat_passes}
use Rattle.rule_file.specs.Tokens.{Token}
use Rattle.rule_file_repeats.specs.Skipped.{Repeat, past_all}

-- what a repeat repeats was not refused
record Within (n c : ℕ) (s : Scan) : Type 0 where
  fits : (x : ℤ) → repeats s x ≡ true → (variable x ≤ n) × (s.clauses < c)

module _ (n c : ℕ) where
  nothing_open : (k m : ℕ) → Within n c (scan k m [])
  nothing_open k m = record { fits = λ x e. absurd (true≢false (sym e ∙ and-false (not (closes x)))) }

  -- after a token that is not refused it is so still
  literal-within : (s : Scan) (y : ℤ) → Within n c s → Next n c s y → closes y ≡ false → Within n c (after s y)
  literal-within s y w next f = rw (f) (record { fits = joined })
    where
      joined : (x : ℤ) → not (closes x) && not (may_join (y ∷ s.clause) x) ≡ true → (variable x ≤ n) × (s.clauses < c)
      joined x e = go (eqb (variable y) (variable x)) refl (eqb (wanted y) (wanted x)) e
        where
          same : variable y ≡ variable x → variable x ≤ n
          same v = omega (arith, next.inside)

          go : (b : Bool) → eqb (variable y) (variable x) ≡ b → (d : Bool) → not (closes x) && not (not ((b && d) || contains (variable x) (wanted x) s.clause)) ≡ true
              → (variable x ≤ n) × (s.clauses < c)
          go true g d h = (same (eqb-true (variable y) (variable x) g), next.below)
          go false g d h = w.fits x h

  past_within : (s : Scan) (y : ℤ) → Within n c s → Next n c s y → Within n c (past s y)
  past_within s y w next = go (repeats s y) refl (closes y) refl
    where
      go : (b : Bool) → repeats s y ≡ b → (z : Bool) → closes y ≡ z → Within n c (past s y)
      go true e z f = rw (e) w
      go false e true f = rw (e, f) (nothing_open (suc s.clauses) s.literals)
      go false e false f = rw (e) (literal-within s y w next f)

  -- a token that is not refused gives a number, and then it is so past the token
  token_within : (s : Scan) (t : Token) → c ≤ max_clauses → Within n c s → bad_token n c s t.place (signed t.bytes) ≡ None → Within n c (past s (element t))
  token_within s t h w e = go (signed t.bytes) e
    where
      go : (o : Option ℤ) → bad_token n c s t.place o ≡ None → Within n c (past s (unwrap_or o (pos 0)))
      go None f = absurd (none-some (refusal 3 t.place) (sym f))
      go (Some y) f = past_within s y w (good_next n c s t.place y h f)

  refusal_stays : (ts us : List Token) (t : Token) (x : ℤ) (size : ℕ) (s : Scan) → c ≤ max_clauses → Within n c s → signed t.bytes ≡ Some x → repeats (past_all s ts) x ≡ true
      → bad_tokens n c size s (ts ++ t ∷ us) ≡ bad_tokens n c size s (ts ++ us)
  refusal_stays [] us t x size s h w g e =
      ap (λ (o : Option ℤ). first (bad_token n c s t.place o ∷ bad_tokens n c size (past s (unwrap_or o (pos 0))) us ∷ [])) g
      ∙ rw (repeat_passes n c s t.place x e (w.fits x e).1 (w.fits x e).0, e) (first_last (bad_tokens n c size s us))
  refusal_stays (d ∷ ts) us t x size s h w g e =
      go (bad_token n c s d.place (signed d.bytes)) refl (λ f. refusal_stays ts us t x size (past s (element d)) h (token_within s d h w f) g e)
    where
      with_it : Option Refusal
      with_it = bad_tokens n c size (past s (element d)) (ts ++ t ∷ us)

      without_it : Option Refusal
      without_it = bad_tokens n c size (past s (element d)) (ts ++ us)

      go : (o : Option Refusal) → bad_token n c s d.place (signed d.bytes) ≡ o → (bad_token n c s d.place (signed d.bytes) ≡ None → with_it ≡ without_it)
          → first (o ∷ with_it ∷ []) ≡ first (o ∷ without_it ∷ [])
      go None f same = ap (λ (q : Option Refusal). first (q ∷ [])) (same f)
      go (Some r) f same = refl

list_stays : (ts us : List Token) (t : Token) (x : ℤ) (s : Scan) → signed t.bytes ≡ Some x → repeats (past_all s ts) x ≡ true
    → stored s (map element (ts ++ t ∷ us)) ≡ stored s (map element (ts ++ us))
list_stays [] us t x s g e = ap (λ (o : Option ℤ). stored s (unwrap_or o (pos 0) ∷ map element us)) g ∙ rw (e)
list_stays (d ∷ ts) us t x s g e = go (repeats s (element d)) refl (list_stays ts us t x (past s (element d)) g e)
  where
    with_it : List ℤ
    with_it = map element (ts ++ t ∷ us)

    without_it : List ℤ
    without_it = map element (ts ++ us)

    go : (b : Bool) → repeats s (element d) ≡ b → stored (past s (element d)) with_it ≡ stored (past s (element d)) without_it
        → stored s (element d ∷ with_it) ≡ stored s (element d ∷ without_it)
    go true f same = rw (f) (rw (f) at same)
    go false f same = rw (f) (ap (λ (l : List ℤ). element d ∷ l) (rw (f) at same))

-- Whatever the tokens before and behind it: refused for the same cause at the same token, or not refused, and the same list.
pub repeat_skipped : (n c size : ℕ) (ts us : List Token) (t : Token) → c ≤ max_clauses → Repeat ts t
    → (bad_tokens n c size unread (ts ++ t ∷ us) ≡ bad_tokens n c size unread (ts ++ us)) × (rules_of (ts ++ t ∷ us) ≡ rules_of (ts ++ us))
repeat_skipped n c size ts us t h r = (
  refusal_stays n c ts us t r.number size unread h (nothing_open n c 0 0) r.given r.repeated,
  list_stays ts us t r.number unread r.given r.repeated,
)
