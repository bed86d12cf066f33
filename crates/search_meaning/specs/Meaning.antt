-- What the searches' replies mean (document 01, demand 2): a found choice meets all rules and breaks the stated number of wishes, at most the limit; none exactly when no choice does so; nearest is the least number among all choices that meet the rules, and its choice the first that has it (document 02, L5).
use Rattle.std.specs.Prelude.{◌≡◌, refl, ◌↔◌, List, ℕ, ◌<◌, ℤ, replicate, Option, None, Some, option_map}
use Rattle.std.proofs.Common.{sym, ap, subst, ◌∙◌, arith}
use Rattle.std.proofs.lemmas.Option.{same_Some, none-some}
use Rattle.formula.specs.Formula.{clauses}
use Rattle.wish.specs.Wish.{free_byte}
use Rattle.distance.specs.Distance.{disagreement, nearest, first_nearest}
use Rattle.choices.specs.Choices.{Model}
use Rattle.choices.proofs.Choices.{nearest_none}
use Rattle.choices.specs.Order.{FirstNearest}
use Rattle.choices.proofs.Order.{first_nearest_lem, first_count}
use Rattle.rule_list.specs.Sound.{SoundList}
use Rattle.walk.specs.Promises.{ModelWithin}
use Rattle.walk.proofs.Theorems.{walk_sound, walk_none, plain_none}
use Rattle.walk.specs.Walk.{Answer, walk, plain_walk}
use Rattle.search_meaning.specs.Fits.{sound_fits}
use Rattle.search_meaning.specs.Searches.{broken_by, with_broken, nearest_answer}

module _ (n : ℕ) (rules : List ℤ) (sound : SoundList n rules) (row : List ℕ) where
  -- the wish search, whatever the row: a found choice is a model within the limit, with its own count
  pub search_found : (d : ℕ) (x : Answer) → (walk n (clauses rules) row d).answer ≡ Some x → ModelWithin n (clauses rules) row d x
  search_found d x e = walk_sound n (clauses rules) (sound_fits n rules sound) row d x e

  pub search_none : (d : ℕ) → ((walk n (clauses rules) row d).answer ≡ None) ↔ ((a : List ℕ) → Model n (clauses rules) a → d < disagreement row a)
  search_none d = walk_none n (clauses rules) (sound_fits n rules sound) row d

-- nearest, whatever the rules and the row: the first nearest model, with its own count
module _ (n : ℕ) (rules : List ℤ) (row : List ℕ) where
  abbrev pub IsFirst : Answer → Type 0
  IsFirst x = (disagreement row x.choice ≡ x.broken) × FirstNearest n (clauses rules) row x.choice

  pub nearest_found : (x : Answer) → nearest_answer n rules row ≡ Some x → IsFirst x
  nearest_found x = go (first_nearest n rules row) refl
    where
      go : (o : Option (List ℕ)) → first_nearest n rules row ≡ o → with_broken row o ≡ Some x → IsFirst x
      go None e f = absurd (none-some x f)
      go (Some a) e f = subst IsFirst (same_Some (record { choice = a; broken = disagreement row a }) x f) (refl, (first_nearest_lem n rules row a).0 e)

  pub nearest_is : broken_by (nearest_answer n rules row) ≡ nearest n rules row
  nearest_is = go (first_nearest n rules row) ∙ first_count n rules row
    where
      go : (o : Option (List ℕ)) → broken_by (with_broken row o) ≡ option_map (disagreement row) o
      go None = refl
      go (Some a) = refl

  pub nearest-nothing : nearest_answer n rules row ≡ None → (a : List ℕ) → Model n (clauses rules) a → ⊥
  nearest-nothing e = (nearest_none n rules row).0 (sym nearest_is ∙ ap broken_by e)

-- plain search
pub plain_found : (n : ℕ) (rules : List ℤ) → SoundList n rules → (x : Answer) → (plain_walk n (clauses rules)).answer ≡ Some x → (x.broken ≡ 0) × Model n (clauses rules) x.choice
plain_found n rules sound x e =
    let w : ModelWithin n (clauses rules) (replicate n free_byte) 0 x = walk_sound n (clauses rules) (sound_fits n rules sound) (replicate n free_byte) 0 x e in
    (omega (arith, w.limited), w.model)

pub plain-nothing : (n : ℕ) (rules : List ℤ) → SoundList n rules → ((plain_walk n (clauses rules)).answer ≡ None) ↔ ((a : List ℕ) → Model n (clauses rules) a → ⊥)
plain-nothing n rules sound = plain_none n (clauses rules) (sound_fits n rules sound)
