-- What the searches answer, and what their answers mean (document 01, "How contracts and examples are held to this": "the contract names that choice and says what holds of it: it meets all rules and has the stated count").
use Rattle.std.specs.Prelude.{◌≡◌, refl, List, ◌++◌, ℕ, ◌<◌, ℤ, length, take, drop, Option, None, Some, Result, Ok, Err}
use Rattle.std.proofs.Common.{sym, ap, subst, ◌∙◌, take_at}
use Rattle.formula.specs.Formula.{clauses}
use Rattle.distance.specs.Distance.{disagreement}
use Rattle.refusal.specs.declared.Refusal.{Refusal}
use Rattle.refusal.specs.Reply.{Reply, refusing, answering, unless}
use Rattle.choices.specs.Choices.{Model}
use Rattle.choices.specs.Order.{FirstNearest}
use Rattle.rule_list.specs.Sound.{SoundList}
use Rattle.walk.specs.Promises as P
use Rattle.walk.specs.Walk.{Answer, walk, plain_walk}
use Rattle.search_meaning.specs.Meaning.{IsFirst, search_found, search_none, nearest_found, nearest-nothing, plain_found, plain-nothing}
use Rattle.search_meaning.specs.Searches.{found, broken_by, choice_after, nearest_answer}

-- the numbers of each answer: refused, found with the number of broken wishes, or none
abbrev pub reply_of : Result (Option ℕ) Refusal → Reply
reply_of (Err r) = refusing r
reply_of (Ok (Some broken)) = answering 1 broken 0 0
reply_of (Ok None) = answering 0 0 0 0

-- A found choice stands in the first n bytes of what was lent for it.
abbrev pub answer_in : ℕ → List ℕ → ℕ → Answer
answer_in n bytes broken = record { choice = take n bytes; broken = broken }

-- the wish search: a model within the limit, with its own count; or no model is within the limit
abbrev pub SearchMeans : ℕ → List ℤ → List ℕ → ℕ → List ℕ → Result (Option ℕ) Refusal → Type 0
SearchMeans n rules row d bytes (Err r) = Unit {0}
SearchMeans n rules row d bytes (Ok (Some broken)) = P.ModelWithin n (clauses rules) row d (answer_in n bytes broken)
SearchMeans n rules row d bytes (Ok None) = (a : List ℕ) → Model n (clauses rules) a → d < disagreement row a

-- plain search: a model, and no wish is broken, since there is none; or there is no model
abbrev pub PlainMeans : ℕ → List ℤ → List ℕ → Result (Option ℕ) Refusal → Type 0
PlainMeans n rules bytes (Err r) = Unit {0}
PlainMeans n rules bytes (Ok (Some broken)) = (broken ≡ 0) × Model n (clauses rules) (take n bytes)
PlainMeans n rules bytes (Ok None) = (a : List ℕ) → Model n (clauses rules) a → ⊥

-- nearest: a model, with its own count; no model breaks fewer wishes, and every other that breaks as few comes later (document 02, L5); or there is no model
abbrev pub NearestMeans : ℕ → List ℤ → List ℕ → List ℕ → Result (Option ℕ) Refusal → Type 0
NearestMeans n rules row bytes (Err r) = Unit {0}
NearestMeans n rules row bytes (Ok (Some broken)) = (disagreement row (take n bytes) ≡ broken) × FirstNearest n (clauses rules) row (take n bytes)
NearestMeans n rules row bytes (Ok None) = (a : List ℕ) → Model n (clauses rules) a → ⊥

-- of a search that is not refused and comes to o
pub searched_reply : (o : Option ℕ) → reply_of (Ok o) ≡ found o
searched_reply None = refl
searched_reply (Some broken) = refl

pub refused_reply : (refusal : Option Refusal) (r : Refusal) (answer : Reply) → refusal ≡ Some r → refusing r ≡ unless refusal answer
refused_reply refusal r answer e = rw e

-- the reply and the choice of a search that is refused, and of one that comes to an answer
module _ (refusal : Option Refusal) (answer : Option Answer) (n : ℕ) (before : List ℕ) where
  pub refused-answer : (r : Refusal) → refusal ≡ Some r
      → (refusing r ≡ unless refusal (found (broken_by answer))) × (before ≡ choice_after refusal answer n before)
  refused-answer r e = rw e (refl, refl)

  pub given-answer : refusal ≡ None → (s : Result (Option ℕ) Refusal) (after : List ℕ) → s ≡ Ok (broken_by answer) → after ≡ choice_after None answer n before
      → (reply_of s ≡ unless refusal (found (broken_by answer))) × (after ≡ choice_after refusal answer n before)
  given-answer e s after f g = rw e (ap reply_of f ∙ searched_reply (broken_by answer), g)

-- a found choice is the front of the bytes
module _ (n : ℕ) (before : List ℕ) where
  front : (x : Answer) → length x.choice ≡ n → (bytes : List ℕ) → bytes ≡ x.choice ++ drop n before → x ≡ answer_in n bytes x.broken
  front x e bytes g =
      ap (λ (a : List ℕ). record { choice = a; broken = x.broken }) (sym (take_at x.choice (drop n before) n e) ∙ ap (take n) (sym g))

  module _ (rules : List ℤ) (sound : SoundList n rules) (row : List ℕ) (bytes : List ℕ) where
    pub search_means : (d : ℕ) (o : Option Answer) → (walk n (clauses rules) row d).answer ≡ o → bytes ≡ choice_after None o n before
        → SearchMeans n rules row d bytes (Ok (broken_by o))
    search_means d None e g = (search_none n rules sound row d).0 e
    search_means d (Some x) e g =
        let w : P.ModelWithin n (clauses rules) row d x = search_found n rules sound row d x e in
        subst (P.ModelWithin n (clauses rules) row d) (front x w.model.choice.size bytes g) w

  pub nearest_means : (rules : List ℤ) (row bytes : List ℕ) (o : Option Answer) → nearest_answer n rules row ≡ o → bytes ≡ choice_after None o n before
      → NearestMeans n rules row bytes (Ok (broken_by o))
  nearest_means rules row bytes None e g = nearest-nothing n rules row e
  nearest_means rules row bytes (Some x) e g =
      let w = nearest_found n rules row x e in
      subst (IsFirst n rules row) (front x w.1.model.choice.size bytes g) w

  pub plain_means : (rules : List ℤ) → SoundList n rules → (bytes : List ℕ) (o : Option Answer) → (plain_walk n (clauses rules)).answer ≡ o
      → bytes ≡ choice_after None o n before → PlainMeans n rules bytes (Ok (broken_by o))
  plain_means rules sound bytes None e g = (plain-nothing n rules sound).0 e
  plain_means rules sound bytes (Some x) e g =
      let w : (x.broken ≡ 0) × Model n (clauses rules) x.choice = plain_found n rules sound x e in
      (w.0, subst (λ (y : Answer). Model n (clauses rules) y.choice) (front x w.1.choice.size bytes g) w.1)
