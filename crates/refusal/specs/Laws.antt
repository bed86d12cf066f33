-- The equations by which proofs find the first cause.
use Rattle.std.specs.Prelude.{◌≡◌, refl, Bool, true, false, ◌&&◌, ◌||◌, List, [], ◌∷◌, map, ℕ, ◌≤◌, ltb, Option, None, Some}
use Rattle.std.proofs.Common.{sym, ap, ◌∙◌, true≢false, le-ltb, ltb-false}
use Rattle.std.proofs.lemmas.Option.{none-some}
use Rattle.refusal.specs.declared.Refusal.{Refusal}
use Rattle.refusal.specs.Reply.{refusal, first, cause_at, place_if, cause, Cause, given, first_found, too_short}

pub first_some : (o : Option Refusal) (causes : List (Option Refusal)) (r : Refusal) → o ≡ Some r → first (o ∷ causes) ≡ Some r
first_some o causes r e = rw e

pub first_none : (o : Option Refusal) (causes : List (Option Refusal)) → o ≡ None → first (o ∷ causes) ≡ first causes
first_none o causes e = rw e

pub first_last : (o : Option Refusal) → first (o ∷ []) ≡ o
first_last None = refl
first_last (Some r) = refl

-- a cause that does not apply
pub cause_none : (b : Bool) (number place : ℕ) → cause b number place ≡ None → b ≡ false
cause_none true number place e = absurd (none-some (refusal number place) (sym e))
cause_none false number place e = refl

pub place_if_none : (b : Bool) (place : ℕ) → place_if b place ≡ None → b ≡ false
place_if_none true place e = absurd (none-some place (sym e))
place_if_none false place e = refl

pub cause_at_none : (number : ℕ) (o : Option ℕ) → cause_at number o ≡ None → o ≡ None
cause_at_none number None e = refl
cause_at_none number (Some place) e = absurd (none-some (refusal number place) (sym e))

-- where none of several causes applies, the first does not, nor any after it
pub no_first : (o : Option Refusal) (causes : List (Option Refusal)) → first (o ∷ causes) ≡ None → (o ≡ None) × (first causes ≡ None)
no_first None causes e = (refl, e)
no_first (Some r) causes e = absurd (none-some r (sym e))

-- of two tests neither applies
pub neither : (a b : Bool) → a || b ≡ false → (a ≡ false) × (b ≡ false)
neither true b e = absurd (true≢false e)
neither false b e = (refl, e)

-- an output with room enough, and what it is not to be refused for want of it
pub room_enough : (needed room : ℕ) → needed ≤ room → too_short needed room ≡ None
room_enough needed room h = ap (λ (b : Bool). cause b 15 needed) (le-ltb room needed h)

pub enough_room : (needed room : ℕ) → too_short needed room ≡ None → needed ≤ room
enough_room needed room e = ltb-false room needed (cause_none (ltb room needed) 15 needed e)

-- Of several causes none was found: each by itself.
abbrev pub Unfound : List Cause → Type 0
Unfound [] = Unit {0}
Unfound (c ∷ causes) = (c.place ≡ None) × Unfound causes

pub none_found : (causes : List Cause) → first_found causes ≡ None → Unfound causes
none_found [] e = tt
none_found (c ∷ causes) e =
    let one = no_first (given c) (map given causes) e in
    (cause_at_none c.number c.place one.0, none_found causes one.1)

pub each_unfound : (causes : List Cause) → Unfound causes → first_found causes ≡ None
each_unfound [] e = refl
each_unfound (c ∷ causes) (e, f) =
    first_none (given c) (map given causes) (ap (cause_at c.number) e) ∙ each_unfound causes f

-- A test that every number passes, the number of the first cause passes.
abbrev pub all_numbers : (ℕ → Bool) → List Cause → Bool
all_numbers test [] = true
all_numbers test (c ∷ causes) = test c.number && all_numbers test causes

pub first_number : (test : ℕ → Bool) (causes : List Cause) → all_numbers test causes ≡ true → (r : Refusal) → first_found causes ≡ Some r → test r.number ≡ true
first_number test [] t r e = absurd (none-some r (sym (sym e)))
first_number test (c ∷ causes) t r e = go c.place e (both (test c.number) (all_numbers test causes) t) (first_number test causes)
  where
    both : (a b : Bool) → a && b ≡ true → (a ≡ true) × (b ≡ true)
    both true b e = (refl, e)
    both false b e = absurd (true≢false (sym e))

    go : (place : Option ℕ) → first (cause_at c.number place ∷ map given causes) ≡ Some r
        → (test c.number ≡ true) × (all_numbers test causes ≡ true)
        → (all_numbers test causes ≡ true → (r : Refusal) → first_found causes ≡ Some r → test r.number ≡ true)
        → test r.number ≡ true
    go None f b later = later b.1 r f
    go (Some place) f b later =
        let same : c.number ≡ r.number = cc in
        ap test (sym same) ∙ b.0

-- of two causes one does not apply
pub first_or_none : (o : Option Refusal) → first (o ∷ None ∷ []) ≡ o
first_or_none None = refl
first_or_none (Some r) = refl

pub first_of_two : (o : Option Refusal) (last : Option Refusal) → o ≡ None → first (o ∷ last ∷ []) ≡ last
first_of_two o last e = first_none o (last ∷ []) e ∙ first_last last
