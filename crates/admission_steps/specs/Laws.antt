-- What an answer comes from, and what it tells.
use Rattle.std.specs.Prelude.{◌≡◌, refl, List, [], ◌∷◌, map, ℕ, Option, None, Some, Result, Ok, Err, ⊤}
use Rattle.std.proofs.Common.{sym, ap, ◌∙◌}
use Rattle.refusal.specs.declared.Refusal.{Refusal}
use Rattle.refusal.specs.Laws.{first_last, cause_none}
use Rattle.refusal.specs.Reply.{refused, first, cause, given, too_short}
use Rattle.refusal_causes.specs.Laws.{in_range}
use Rattle.refusal_causes.specs.Lent.{Lent, with_room, out_of_range, causes, unadmitted}
use Rattle.admission_steps.specs.declared.Counts.{Counts}
use Rattle.admission_steps.specs.Admission.{Admission, answer, counts_of, admission, start, and_then, Ranged}

pub refused_by_lem : (o : Option Refusal) (counts : Counts) (r : Refusal) → answer o counts ≡ Err r → o ≡ Some r
refused_by_lem None counts r e = cc
refused_by_lem (Some q) counts r e = cc

pub admitted_by : (o : Option Refusal) (counts k : Counts) → answer o counts ≡ Ok k → (o ≡ None) × (k ≡ counts)
admitted_by None counts k e = (refl, (cc))
admitted_by (Some q) counts k e = ((cc), (cc))

-- a step, from what it was handed: a refusal stays, and what was admitted goes on
pub stays : (a : Admission) (step : Counts → Admission) (r : Refusal) → a ≡ Err r → Err r ≡ and_then a step
stays a step r e = sym (ap (λ (x : Admission). and_then x step) e)

pub goes_on : (a : Admission) (step : Counts → Admission) (k : Counts) → a ≡ Ok k → (b : Admission) → b ≡ step k → b ≡ and_then a step
goes_on a step k e b f = f ∙ sym (ap (λ (x : Admission). and_then x step) e)

-- the earlier of two causes; a second one that does not apply computes away
abbrev earlier : Option Refusal → Option Refusal → Option Refusal
earlier o None = o
earlier None (Some r) = Some r
earlier (Some q) (Some r) = Some q

-- what a line of steps has come to: this cause, or these counts
pub record CameTo (a : Admission) (o : Option Refusal) (k : Counts) : Type 0 where
  pub told : a ≡ answer o k

-- the first step
pub begun : {a : Admission} {o : Option Refusal} {k : Counts} → a ≡ answer o k → CameTo a o k
begun e = record { told = e }

-- what it admits is in range
pub ranged : (n d : ℕ) (a : Admission) (k : Counts) → a ≡ answer (cause (out_of_range n d) 14 0) k → Ranged n a
ranged n d a k e j f =
    (in_range n d (cause_none (out_of_range n d) 14 0 (admitted_by (cause (out_of_range n d) 14 0) k j (sym e ∙ f)).0)).1

-- a step more, which looks at a cause and may count; and one that counts nothing
pub then : {a b : Admission} {o : Option Refusal} {k : Counts} → CameTo a o k → (p : Counts → Option Refusal) (f : Counts → Counts)
    → b ≡ and_then a (λ (c : Counts). answer (p c) (f c)) → CameTo b (earlier o (p k)) (f k)
then {a} {b} {o} {k} t p f e =
    record { told = e ∙ ap (λ (x : Admission). and_then x (λ (c : Counts). answer (p c) (f c))) t.told ∙ go o (p k) refl }
  where
    go : (o q : Option Refusal) → p k ≡ q → and_then (answer o k) (λ (c : Counts). answer (p c) (f c)) ≡ answer (earlier o q) (f k)
    go None None h = ap (λ (x : Option Refusal). answer x (f k)) h
    go None (Some r) h = ap (λ (x : Option Refusal). answer x (f k)) h
    go (Some q) None h = refl
    go (Some q) (Some r) h = refl

pub then_cause : {a b : Admission} {o : Option Refusal} {k : Counts} → CameTo a o k → (v : Result ⊤ Refusal) (q : Option Refusal) → refused v ≡ q
    → b ≡ and_then a (answer (refused v)) → CameTo b (earlier o q) k
then_cause {a} t v q g e =
    then t (λ (c : Counts). q) (λ (c : Counts). c) (e ∙ ap (λ (x : Option Refusal). and_then a (answer x)) g)

-- the first of several causes, found by going on from one to the next as the steps do
abbrev from : Option Refusal → List (Option Refusal) → Option Refusal
from o [] = o
from o (q ∷ causes) = from (earlier o q) causes

from_first : (o : Option Refusal) (causes : List (Option Refusal)) → first (o ∷ causes) ≡ from o causes
from_first o [] = first_last o
from_first None (None ∷ causes) = from_first None causes
from_first None (Some r ∷ causes) = from_first (Some r) causes
from_first (Some q) (None ∷ causes) = from_first (Some q) causes
from_first (Some q) (Some r ∷ causes) = from_first (Some q) causes

-- the first cause of all, written so that those which cannot apply compute away; it is `first` (`turn_first`)
abbrev pub in_turn : List (Option Refusal) → Option Refusal
in_turn [] = None
in_turn (o ∷ causes) = from o causes

turn_first : (causes : List (Option Refusal)) → first causes ≡ in_turn causes
turn_first [] = refl
turn_first (o ∷ causes) = from_first o causes

-- so what is admitted came to the causes of what is lent, in their order; and steps that came to them admit it
pub in_order : (a : Admission) (s : Lent) → a ≡ admission s → CameTo a (in_turn (map given (causes s))) (counts_of s)
in_order a s e = record { told = e ∙ ap (λ (o : Option Refusal). answer o (counts_of s)) (turn_first (map given (causes s))) }

pub all_told : {a : Admission} (s : Lent) → CameTo a (in_turn (map given (causes s))) (counts_of s) → a ≡ admission s
all_told s t = t.told ∙ sym (ap (λ (o : Option Refusal). answer o (counts_of s)) (turn_first (map given (causes s))))

-- what was admitted, with its room, starts
pub started : (a : Admission) (s : Lent) (needed room : ℕ) → a ≡ admission s → and_then a (answer (too_short needed room)) ≡ start (with_room needed room s)
started a s needed room e =
    ap (λ (x : Admission). and_then x (answer (too_short needed room))) e ∙ room_last (unadmitted s)
  where
    room_last : (o : Option Refusal) → and_then (answer o (counts_of s)) (answer (too_short needed room)) ≡ answer (first (o ∷ too_short needed room ∷ [])) (counts_of s)
    room_last None = ap (λ (q : Option Refusal). answer q (counts_of s)) (sym (first_last (too_short needed room)))
    room_last (Some r) = refl
