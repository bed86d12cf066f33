-- What the search from a state with one more variable off decides.
use Rattle.std.specs.Prelude.{◌≡◌, refl, List, ℕ, ℤ, Option, None, Some}
use Rattle.std.proofs.Common.{sym, ap, ◌∙◌, lit<}
use Rattle.formula.specs.Formula.{clauses}
use Rattle.rule_list.specs.Sound.{SoundList}
use Rattle.search_meaning.specs.Fits.{sound_fits}
use Rattle.walk.specs.State.{State, assign}
use Rattle.walk.proofs.WalkLaws.{branch_state}
use Rattle.search_state.specs.declared.result.Tried.{Tried}
use Rattle.search_state.specs.Tried.{RootSays, answer_in}
use Rattle.nearest_cores.specs.Search.{search_from}
use Rattle.nearest_cores.specs.SearchRight.{Guides}
use Rattle.nearest_cores.proofs.SearchRight.{search_right}
use Rattle.nearest_first_choice.specs.Refining.{Decided, value_after, hand_after}

-- the search from the state a with the variable v off, by a guide
module _ {n : ℕ} (rules : List ℤ) (sound : SoundList n rules) {row guide : List ℕ} (guides : Guides n row guide) (d : ℕ) {a : List ℕ} (state : State n a) (v : ℕ) where
  decided : (o : Option ℕ) (left choice choice' : List ℕ) (bit : ℕ) → (search_from (clauses rules) row guide d (assign a v 0)).answer ≡ answer_in left o → bit ≡ value_after (answer_in left o) → choice' ≡ hand_after choice (answer_in left o)
      → Decided n (clauses rules) row d a v choice choice' bit
  decided o left choice choice' bit told value hand =
      record {
        answer = (search_from (clauses rules) row guide d (assign a v 0)).answer;
        right = search_right n (clauses rules) (sound_fits n rules sound) row guide guides d (assign a v 0) (branch_state state v 0 (lit< tt));
        value_is = value ∙ sym (ap value_after told);
        hand_is = hand ∙ sym (ap (hand_after choice) told);
      }

  -- in a copy of the state's values: it finds what is left in the copy, or nothing
  module _ (values left : List ℕ) (r : Tried) (same : values ≡ a) (says : RootSays (search_from (clauses rules) row guide d (assign values v 0)) left r) (choice : List ℕ) where
    told : (o : Option ℕ) → r.found ≡ o → (search_from (clauses rules) row guide d (assign a v 0)).answer ≡ answer_in left o
    told o e = ap (λ (l : List ℕ). (search_from (clauses rules) row guide d (assign l v 0)).answer) (sym same) ∙ says.0 ∙ ap (answer_in left) e

    pub decided_off : {broken : ℕ} → r.found ≡ Some broken → (choice' : List ℕ) → choice' ≡ left → Decided n (clauses rules) row d a v choice choice' 0
    decided_off {broken} e choice' hand = decided (Some broken) left choice choice' 0 (told (Some broken) e) refl hand

    pub decided_on : r.found ≡ None → Decided n (clauses rules) row d a v choice choice 1
    decided_on e = decided None left choice choice 1 (told None e) refl refl
