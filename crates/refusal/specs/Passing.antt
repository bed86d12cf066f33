-- Which number a refusal has, by the causes that can apply: where the numbers of all of them pass a test, so does that of the first.
use Rattle.std.specs.Prelude.{◌≡◌, Bool, true, List, [], ◌∷◌, map, ℕ, Option, None, Some}
use Rattle.std.proofs.Common.{sym, ap, ◌∙◌}
use Rattle.std.proofs.lemmas.Option.{none-some}
use Rattle.refusal.specs.declared.Refusal.{Refusal}
use Rattle.refusal.specs.Reply.{refusal, first, cause_at, Cause, given, first_found}

-- a cause whose number, if it applies, passes a test
pub record Passes (test : ℕ → Bool) (o : Option Refusal) : Type 0 where
  pub number : (r : Refusal) → o ≡ Some r → test r.number ≡ true

pub data AllPass (test : ℕ → Bool) : List (Option Refusal) → Type 0 where
  last : AllPass test []
  more : {o : Option Refusal} {causes : List (Option Refusal)} → Passes test o → AllPass test causes → AllPass test (o ∷ causes)

module _ {test : ℕ → Bool} where
  pub no_cause : Passes test None
  no_cause = record { number = λ r e. absurd (none-some r (sym (sym e))) }

  pub some-cause : (q : Refusal) → test q.number ≡ true → Passes test (Some q)
  some-cause q t = record { number = λ r e. (let same : q.number ≡ r.number = cc in ap test (sym same) ∙ t) }

  pub by_place : (k : ℕ) → test k ≡ true → (o : Option ℕ) → Passes test (cause_at k o)
  by_place k t None = no_cause
  by_place k t (Some place) = some-cause (refusal k place) t

  pub unfound : (k : ℕ) (o : Option ℕ) → o ≡ None → Passes test (cause_at k o)
  unfound k o e = rw (e) no_cause

  or_later : (o : Option Refusal) (causes : List (Option Refusal)) → Passes test o → Passes test (first causes) → Passes test (first (o ∷ causes))
  or_later None causes here later = later
  or_later (Some r) causes here later = here

  pub by_first : {causes : List (Option Refusal)} → AllPass test causes → Passes test (first causes)
  by_first last = no_cause
  by_first (more {o} {causes} here later) = or_later o causes here (by_first later)

-- the same of causes by their number and place
abbrev pub EachPasses : (ℕ → Bool) → List Cause → Type 0
EachPasses test [] = Unit {0}
EachPasses test (c ∷ causes) = Passes test (given c) × EachPasses test causes

pub by_found : {test : ℕ → Bool} (causes : List Cause) → EachPasses test causes → Passes test (first_found causes)
by_found [] e = no_cause
by_found (c ∷ causes) (here, later) = or_later (given c) (map given causes) here (by_found causes later)
