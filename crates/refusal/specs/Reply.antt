-- Refusals (document 01, "Refusals"), and the reply of a call as numbers.
use Rattle.std.specs.Prelude.{Bool, cond, List, [], ◌∷◌, ◌++◌, map, ℕ, ltb, length, drop, Option, None, Some, Result, Ok, Err}
use Rattle.refusal.specs.declared.Refusal.{Refusal}

-- a refusal has the table's number and the returned place
abbrev pub refusal : ℕ → ℕ → Refusal
refusal number place = record { number = number; place = place }

-- the refusal that an answer carries
abbrev pub refused : {A : Type 0} → Result A Refusal → Option Refusal
refused (Ok x) = None
refused (Err r) = Some r

-- the first of several causes, in their order
abbrev pub first : List (Option Refusal) → Option Refusal
first [] = None
first (None ∷ causes) = first causes
first (Some r ∷ causes) = Some r

-- a cause with the place at which it was found, if it was
abbrev pub cause_at : ℕ → Option ℕ → Option Refusal
cause_at number None = None
cause_at number (Some place) = Some (refusal number place)

-- a place, where the test applies
abbrev pub place_if : Bool → ℕ → Option ℕ
place_if applies place = cond applies (Some place) None

-- a cause that applies where the test does
abbrev pub cause : Bool → ℕ → ℕ → Option Refusal
cause applies number place = cause_at number (place_if applies place)

-- a cause by the table's number, with the place at which it was found, if it was
pub record Cause : Type 0 where
  pub number : ℕ
  pub place : Option ℕ

-- the refusal that a cause gives
abbrev pub given : Cause → Option Refusal
given c = cause_at c.number c.place

-- the refusal of the first of several causes that was found
abbrev pub first_found : List Cause → Option Refusal
first_found causes = first (map given causes)

-- 15, the last of a call's causes: "lent output too short", with the "length needed" as its place; the output needs so many elements, and was lent room for so many
abbrev pub too_short : ℕ → ℕ → Option Refusal
too_short needed room = cause (ltb room needed) 15 needed

-- The reply of any call: a refusal, or an answer as numbers. The first number of an answer is 1 for found or met, 0 for none or not met, and 1 in a call that has no such answer; then come up to three values.
pub data Reply : Type 0 where
  refusing : Refusal → Reply
  answering : ℕ → ℕ → ℕ → ℕ → Reply

-- the answer, unless there is a refusal
abbrev pub unless : Option Refusal → Reply → Reply
unless None answer = answer
unless (Some r) answer = refusing r

-- What a call leaves in the output that it was lent: a refusal leaves it as it was, and "On success bytes past the needed length stay" (document 01, "Refusals").
abbrev pub filled {ℓ} : {A : Type ℓ} → Option Refusal → List A → List A → List A
filled None result out = result ++ drop (length result) out
filled (Some r) result out = out
