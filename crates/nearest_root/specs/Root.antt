-- What the search from the root says, where every variable is unassigned.
use Rattle.std.specs.Prelude.{◌≡◌, refl, Bool, true, false, List, ◌++◌, ℕ, ◌≤◌, ◌<◌, ℤ, length, get_or, take, drop, replicate, Option, None, Some, is_none}
use Rattle.std.proofs.Common.{sym, ap, subst, ◌∙◌, true≢false, arith, take_at, drop_at, get_or-take}
use Rattle.distance.specs.Distance.{disagreement}
use Rattle.choices.specs.Choices.{Model}
use Rattle.walk.specs.Promises.{ModelWithin}
use Rattle.walk.specs.Correctness.{Right}
use Rattle.walk.proofs.Correctness.{start_extends}
use Rattle.search_state.specs.declared.result.Tried.{Tried}
use Rattle.search_state.specs.Tried.{answer_in}

-- a model within d in the lent assignment, or none exists
abbrev pub RootRight : ℕ → List (List ℤ) → List ℕ → ℕ → List ℕ → Tried → Type 0
RootRight n f row d a r = Right n f row d (replicate n 2) (answer_in a r.found)

-- whether a model within d was found: then it stands in the first n bytes, and the rest is as it was; else no model is within d, and all is as it was
abbrev pub FoundWithin : ℕ → List (List ℤ) → List ℕ → ℕ → List ℕ → List ℕ → Bool → Type 0
FoundWithin n f row d before after true = Model n f (take n after) × (disagreement row (take n after) ≤ d) × (drop n after ≡ drop n before)
FoundWithin n f row d before after false = ((c : List ℕ) → Model n f c → d < disagreement row c) × (after ≡ before)

-- the answer, copied to the front of the choice; and none
module _ (n : ℕ) (f : List (List ℤ)) (row : List ℕ) (d : ℕ) (before a : List ℕ) (r : Tried) (right : RootRight n f row d a r) where
  there : (o : Option ℕ) → r.found ≡ o → Right n f row d (replicate n 2) (answer_in a o)
  there o e = subst (λ (o : Option ℕ). Right n f row d (replicate n 2) (answer_in a o)) e right

  pub within_found : (after : List ℕ) → is_none r.found ≡ false → after ≡ a ++ drop (length a) before → FoundWithin n f row d before after true
  within_found after e copied = go r.found refl e
    where
      go : (o : Option ℕ) → r.found ≡ o → is_none o ≡ false → FoundWithin n f row d before after true
      go None q z = absurd (true≢false z)
      go (Some broken) q z =
          let within : ModelWithin n f row d (record { choice = a; broken = broken }) = (there (Some broken) q).0 in
          let long : length a ≡ n = within.model.choice.size in
          let front : take n after ≡ a = ap (take n) copied ∙ take_at a (drop (length a) before) n long in (
            subst (Model n f) (sym front) within.model,
            omega (arith, ap (disagreement row) front, within.own_count, within.limited),
            ap (drop n) copied ∙ drop_at a (drop (length a) before) n long ∙ ap (λ (k : ℕ). drop k before) long,
          )

  pub within-nothing : is_none r.found ≡ true → FoundWithin n f row d before before false
  within-nothing e = go r.found refl e
    where
      go : (o : Option ℕ) → r.found ≡ o → is_none o ≡ true → FoundWithin n f row d before before false
      go None q z = (λ c m. there None q c m (start_extends n c), refl)
      go (Some broken) q z = absurd (true≢false (sym z))

-- a model in front is made of bytes of a choice
pub front_bytes : (n : ℕ) (f : List (List ℤ)) (choice : List ℕ) → Model n f (take n choice) → (i : ℕ) → i < n → get_or choice i 0 < 2
front_bytes n f choice m i h = omega (arith, m.choice.bytes i, get_or-take n choice i 0 h)
