-- The root of a search, what propagation from there comes to, and the answer.
use Rattle.std.specs.Prelude.{◌≡◌, refl, true, List, [], ◌∷◌, ℕ, zero, suc, ◌+◌, ℤ, length, replicate, Result, Ok}
use Rattle.std.proofs.Common.{sym, ap, ap₂, subst, ◌∙◌, arith}
use Rattle.formula.specs.Formula.{clauses}
use Rattle.distance.specs.Distance.{disagreement}
use Rattle.wish.specs.Laws.{cost-unassigned}
use Rattle.walk.proofs.Correctness.{start_state, start-unassigned}
use Rattle.walk.specs.State.{fits}
use Rattle.walk.specs.Walk.{Outcome, is_dead_end}
use Rattle.rule_list.specs.Sound.{SoundList}
use Rattle.search_meaning.specs.Fits.{sound_fits}
use Rattle.walk_tally.specs.declared.Tally.{Tally}
use Rattle.walk_unit_queue.specs.Due.{NoneDue}
use Rattle.walk_unit_queue.specs.Queue.{settle}
use Rattle.walk_unit_queue.proofs.Theorems.{settle_alike, settled_none_due}
use Rattle.walk_propagation.specs.declared.propagated.DeadEnd.{DeadEnd}
use Rattle.walk_propagation.specs.Looked.{ComesTo}
use Rattle.walk_propagation.specs.Propagated.{propagated_by}
use Rattle.walk_propagation.specs.Searching.{Searching}
use Rattle.search_state.specs.declared.result.Tried.{Tried}
use Rattle.search_state.specs.Root.{root, SettledRoot}
use Rattle.search_state.specs.Tried.{TriedBy, RootSays}

pub root_says : (o : Outcome) (k : ℕ) (back trail trail' a' : List ℕ) (r : Tried) → TriedBy o k back trail trail' a' r → RootSays o a' r
root_says o k back trail trail' a' r w = (w.0, w.1)

nothing_broken : (row : List ℕ) (n : ℕ) → disagreement row (replicate n 2) ≡ 0
nothing_broken [] n = refl
nothing_broken (w ∷ row) zero = refl
nothing_broken (w ∷ row) (suc n) = ap₂ ◌+◌ (cost-unassigned w) (nothing_broken row n)

pub root_searching : (n : ℕ) (row trail a : List ℕ) → length trail ≡ n → a ≡ replicate n 2 → Searching n row a trail 0 0
root_searching n row trail a l e =
    rw e
    (record {
      state = start_state n;
      long = l;
      assigned_and_not = omega (arith, start-unassigned n);
      breaks = sym (nothing_broken row n);
      few = omega arith;
      traced = λ j h. absurd (omega arith);
    })

-- settling by the arrangement, from the root of a sound list with n variables
module _ (n : ℕ) (rules : List ℤ) (sound : SoundList n rules) (row : List ℕ) (d : ℕ) where
  abbrev f : List (List ℤ)
  f = clauses rules

  fit : fits n f ≡ true
  fit = sound_fits n rules sound

  pub settled_root : (a trail a' trail' : List ℕ) (r : Result Tally DeadEnd) → length a ≡ n → a ≡ replicate n 2 → ComesTo (length a) row (settle f row d a) root a trail a' trail' r → SettledRoot n f row d trail a' trail' r
  settled_root a trail a' trail' r size start w =
      let of-n : ComesTo n row (settle f row d a) root a trail a' trail' r = subst (λ (k : ℕ). ComesTo k row (settle f row d a) root a trail a' trail' r) size w in
      propagated_by n f row d root (replicate n 2) trail a' trail' (settle f row d (replicate n 2)) (settle_alike n f fit row d (replicate n 2) (start_state n)) r
      (subst (λ (l : List ℕ). ComesTo n row (settle f row d l) root l trail a' trail' r) start of-n)

  -- where that is no dead end, no clause asks for anything
  pub root_quiet : {trail a trail' : List ℕ} {t : Tally} → SettledRoot n f row d trail a trail' (Ok t) → NoneDue f a
  root_quiet told = subst (NoneDue f) (sym told.0) (settled_none_due n f fit row d (start_state n) (ap (is_dead_end f row d) (sym told.0) ∙ told.1))
