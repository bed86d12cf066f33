-- From the walk without a limit, and the least count, to the first nearest choice.
use Rattle.std.specs.Prelude.{◌≡◌, refl, List, ◌++◌, ℕ, ◌≤◌, ℤ, length, take, drop, Option, None, Some}
use Rattle.std.proofs.Common.{sym, ap, ◌∙◌, arith, take_at, drop_at}
use Rattle.std.proofs.lemmas.Option.{none-some}
use Rattle.formula.specs.Formula.{clauses}
use Rattle.wish.specs.Wish.{total_weight}
use Rattle.distance.specs.Distance.{disagreement, first_within, nearest}
use Rattle.distance.specs.Laws.{disagreement-most}
use Rattle.choices.specs.Choices.{Model}
use Rattle.choices.proofs.Choices.{nearest_none, nearest-some}
use Rattle.choices.proofs.Order.{first_at}
use Rattle.rule_list.specs.Sound.{SoundList}
use Rattle.walk.specs.Promises.{ModelWithin}
use Rattle.walk.proofs.Theorems.{walk_sound, walk_none}
use Rattle.walk.specs.Walk.{Answer, walk}
use Rattle.search_meaning.specs.Fits.{sound_fits}
use Rattle.search_meaning.specs.Meaning.{nearest_is}
use Rattle.search_meaning.specs.Searches.{broken_by, with_broken, choice_after, nearest_answer}
use Rattle.search_nearest.specs.Least.{Least, least-nearest}

no_broken : (o : Option Answer) → None ≡ broken_by o → o ≡ None
no_broken None e = refl
no_broken (Some x) e = absurd (none-some x.broken e)

module _ (n : ℕ) (rules : List ℤ) (sound : SoundList n rules) (row : List ℕ) where
  -- the walk without a limit
  module _ (total : ℕ) where
    abbrev answer : Option Answer
    answer = (walk n (clauses rules) row total).answer

    -- it found none: there is no model
    module _ (all : total ≡ total_weight row) (e : answer ≡ None) where
      nothing : nearest_answer n rules row ≡ None
      nothing =
          let never = (walk_none n (clauses rules) (sound_fits n rules sound) row total).0 e in
          no_broken (nearest_answer n rules row) (sym (nearest_is n rules row ∙ (nearest_none n rules row).1 (λ a m. omega (arith, never a m, disagreement-most row a))))

      pub none_answered : None ≡ broken_by (nearest_answer n rules row)
      none_answered = sym (ap broken_by nothing)

      pub none_written : (bytes : List ℕ) → bytes ≡ choice_after None (nearest_answer n rules row) n bytes
      none_written bytes = sym (ap (λ (o : Option Answer). choice_after None o n bytes) nothing)

    -- it found the model a, which breaks k wishes, and that was copied to the front of the bytes
    module _ (a : List ℕ) (k : ℕ) (e : answer ≡ Some (record { choice = a; broken = k })) (before after : List ℕ) (copied : after ≡ a ++ drop (length a) before) where
      found : ModelWithin n (clauses rules) row total (record { choice = a; broken = k })
      found = walk_sound n (clauses rules) (sound_fits n rules sound) row total (record { choice = a; broken = k }) e

      size : length a ≡ n
      size = found.model.choice.size

      front : take n after ≡ a
      front = ap (take n) copied ∙ take_at a (drop (length a) before) n size

      pub found_model : Model n (clauses rules) (take n after) × (disagreement row (take n after) ≤ k)
      found_model = rw front (found.model, omega (arith, found.own_count))

      pub found_rest : drop n after ≡ drop n before
      found_rest = ap (drop n) copied ∙ drop_at a (drop (length a) before) n size ∙ ap (λ (i : ℕ). drop i before) size

  -- the least count, with a model that has it in the first n bytes
  module _ {before after : List ℕ} {k : ℕ} (h : Least n (clauses rules) row before after k) where
    count : nearest n rules row ≡ Some k
    count = (nearest-some n rules row k).1 (least-nearest h)

    pub first_answered : Some k ≡ broken_by (nearest_answer n rules row)
    first_answered = sym (nearest_is n rules row ∙ count)

    -- the first within that count is written over it
    pub first_written : (start last : List ℕ) → drop n before ≡ drop n start → last ≡ choice_after None (with_broken row (first_within n rules row k)) n after → last ≡ choice_after None (nearest_answer n rules row) n start
    first_written start last same e =
        e ∙ ap (λ (o : Option (List ℕ)). choice_after None (with_broken row o) n after) (sym (first_at n rules row k count)) ∙ go (nearest_answer n rules row) first_answered
      where
        go : (o : Option Answer) → Some k ≡ broken_by o → choice_after None o n after ≡ choice_after None o n start
        go None g = absurd (none-some k (sym g))
        go (Some y) g = ap (λ (l : List ℕ). y.choice ++ l) (h.rest ∙ same)

-- none, where the limit is all that the wishes weigh
module _ (n : ℕ) (rules : List ℤ) (sound : SoundList n rules) (row : List ℕ) (e : (walk n (clauses rules) row (total_weight row)).answer ≡ None) where
  pub unmet_answered : None ≡ broken_by (nearest_answer n rules row)
  unmet_answered = none_answered n rules sound row (total_weight row) refl e

  pub unmet_written : (bytes : List ℕ) → bytes ≡ choice_after None (nearest_answer n rules row) n bytes
  unmet_written bytes = none_written n rules sound row (total_weight row) refl e bytes
