-- The equations by which proofs check a file, token by token.
use Rattle.std.specs.Prelude.{◌≡◌, refl, Bool, true, false, cond, not, ◌&&◌, List, [], ◌∷◌, ℕ, ltb, leb, ℤ, pos, Option, None, Some, unwrap_or, option_map}
use Rattle.std.proofs.Common.{sym, ap, ◌∙◌, arith, le-ltb, eqb-true}
use Rattle.literal.specs.Literal.{variable, closes}
use Rattle.refusal.specs.declared.Refusal.{Refusal}
use Rattle.refusal.specs.Reply.{refusal, first, cause}
use Rattle.refusal.specs.Laws.{first_last}
use Rattle.limits.specs.Limits.{max_literals}
use Rattle.rule_list.specs.Laws.{scan}
use Rattle.rule_list.specs.Sound.{may_join}
use Rattle.rule_file.specs.Format.{signed, repeats, past, bad_token, bad_tokens}
use Rattle.rule_file.specs.Tokens.{Token}
use Rattle.rule_file_token_faults.specs.Fault.{fault_of}

-- the first cause of a number of the list, by its tests: every clause is closed, it closes one, no literal may come, it is above n, it may join
abbrev tests : ℕ → Bool → Bool → Bool → Bool → Bool → Option Refusal
tests place a z u o j = first (cause a 6 place ∷ cause ((not z && j) && u) 7 place ∷ cause o 4 place ∷ [])

-- and its number
abbrev fault : Bool → Bool → Bool → Bool → Bool → Option ℕ
fault a z u o j = cond a (Some 6) (cond z None (cond (not (not z && not j) && u) (Some 7) (cond o (Some 4) None)))

abbrev at_place : ℕ → Option ℕ → Option Refusal
at_place place = option_map (λ (k : ℕ). refusal k place)

faulted : (place : ℕ) (a z u o j : Bool) (number : ℕ) → Some number ≡ fault a z u o j → tests place a z u o j ≡ Some (refusal number place)
faulted place true z u o j number e = sym (ap (at_place place) e)
faulted place false true u o j number e = cc
faulted place false false true o true number e = sym (ap (at_place place) e)
faulted place false false false true true number e = sym (ap (at_place place) e)
faulted place false false false false true number e = cc
faulted place false false u true false number e = sym (ap (at_place place) e)
faulted place false false u false false number e = cc

-- a closing zero is not above n
faultless : (place : ℕ) (a z u o j : Bool) → (z ≡ true → o ≡ false) → fault a z u o j ≡ None → tests place a z u o j ≡ None
faultless place true z u o j h e = cc
faultless place false true u o j h e = ap (λ (b : Bool). first (cause b 4 place ∷ [])) (h refl)
faultless place false false true o true h e = cc
faultless place false false false true true h e = cc
faultless place false false false false true h e = refl
faultless place false false u true false h e = cc
faultless place false false u false false h e = refl

-- a token in front of others, after k clauses, m literals and those of the open clause
module _ (n c size k m : ℕ) (clause : List ℤ) (place : ℕ) (bytes : List ℕ) (ts : List Token) where
  abbrev from_here : Option Refusal
  from_here = bad_tokens n c size (scan k m clause) (record { place = place; bytes = bytes } ∷ ts)

  pub refused_malformed : signed bytes ≡ None → from_here ≡ Some (refusal 3 place)
  refused_malformed e = rw e

  -- it gives x
  module _ (x : ℤ) (e : signed bytes ≡ Some x) where
    leads : (o : Option Refusal) → tests place (leb c k) (closes x) (leb max_literals m) (ltb n (variable x)) (may_join clause x) ≡ o
        → from_here ≡ first (o ∷ bad_tokens n c size (past (scan k m clause) x) ts ∷ [])
    leads o f =
        ap (λ (t : Option ℤ). first (bad_token n c (scan k m clause) place t ∷ bad_tokens n c size (past (scan k m clause) (unwrap_or t (pos 0))) ts ∷ [])) e
        ∙ ap (λ (t : Option Refusal). first (t ∷ bad_tokens n c size (past (scan k m clause) x) ts ∷ [])) f

    pub refused-fault : (number : ℕ) → Some number ≡ fault_of n c k m x (repeats (scan k m clause) x) → from_here ≡ Some (refusal number place)
    refused-fault number f =
        leads (Some (refusal number place)) (faulted place (leb c k) (closes x) (leb max_literals m) (ltb n (variable x)) (may_join clause x) number f)

    -- without a fault, what is read goes on past it
    pub goes_on : fault_of n c k m x (repeats (scan k m clause) x) ≡ None → from_here ≡ bad_tokens n c size (past (scan k m clause) x) ts
    goes_on fine =
        leads None
        (faultless place (leb c k) (closes x) (leb max_literals m) (ltb n (variable x)) (may_join clause x)
        (λ z. le-ltb n (variable x) (omega (arith, eqb-true (variable x) 0 z))) fine)
        ∙ first_last (bad_tokens n c size (past (scan k m clause) x) ts)
