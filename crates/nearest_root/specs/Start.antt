-- What the settled root says of the root: of its models, of their cost, and of the search from there.
use Rattle.std.specs.Prelude.{◌≡◌, true, List, ℕ, ◌≤◌, ℤ, replicate, Option, None, Some, Ok, Err}
use Rattle.std.proofs.Common.{sym, subst}
use Rattle.std.proofs.Math.Seq.{slice_empty}
use Rattle.formula.specs.Formula.{clauses}
use Rattle.choices.specs.Choices.{Model}
use Rattle.distance.specs.Distance.{disagreement}
use Rattle.rule_list.specs.Sound.{SoundList}
use Rattle.search_meaning.specs.Fits.{sound_fits}
use Rattle.walk_tally.specs.declared.Tally.{Tally}
use Rattle.walk_propagation.specs.declared.propagated.DeadEnd.{DeadEnd}
use Rattle.walk_propagation.specs.Looked.{pending}
use Rattle.walk_unit_queue.specs.Due.{NoneDue}
use Rattle.walk_unit_queue.specs.Theorems.{Covers}
use Rattle.walk_unit_queue.proofs.Theorems.{none_covers}
use Rattle.walk.specs.Correctness.{Right}
use Rattle.walk.proofs.Correctness.{start_extends}
use Rattle.walk.specs.Extension.{Extends}
use Rattle.walk.specs.Propagation.{propagate}
use Rattle.walk.proofs.PropagationLaws.{propagate_forced}
use Rattle.walk.specs.State.{fits}
use Rattle.walk.specs.Walk.{Answer}
use Rattle.walk.proofs.WalkLaws.{dead_none}
use Rattle.search_state.specs.declared.result.Tried.{Tried}
use Rattle.search_state.specs.Root.{SettledRoot}
use Rattle.search_state.specs.Tried.{TriedBy}
use Rattle.nearest_cores.specs.Cores.{scan}
use Rattle.nearest_cores.proofs.NarrowRight.{bound_broken}
use Rattle.nearest_cores.specs.Search.{search_from}
use Rattle.nearest_cores.specs.SearchRight.{Guides}
use Rattle.nearest_cores.proofs.SearchRight.{search_right}
use Rattle.nearest_root.specs.Root.{RootRight}

-- where no clause asks for anything, nothing need be in the queue
pub quiet_covers : (f : List (List ℤ)) (a trail : List ℕ) (t : Tally) → NoneDue f a → Covers f (pending t.settled t a trail)
quiet_covers f a trail t quiet =
    rw (slice_empty t.settled trail) (none_covers f quiet)

-- the root of a sound list with n variables, propagated with the limit d
module _ (n : ℕ) (rules : List ℤ) (sound : SoundList n rules) (row : List ℕ) (d : ℕ) where
  abbrev f : List (List ℤ)
  f = clauses rules

  fit : fits n f ≡ true
  fit = sound_fits n rules sound

  -- a model extends the root, and so the propagated root
  forced : (c : List ℕ) → Model n f c → Extends c (propagate f (replicate n 2))
  forced c m = propagate_forced f m.satisfies (start_extends n c)

  -- a dead end
  pub root_dead : {trail a trail' : List ℕ} {e : DeadEnd} → SettledRoot n f row d trail a trail' (Err e) → Right n f row d (replicate n 2) None
  root_dead told c m x = dead_none (forced c m) f row d told.0 m.satisfies

  -- or the settled root
  module _ {trail a trail' : List ℕ} {t : Tally} (told : SettledRoot n f row d trail a trail' (Ok t)) where
    extends : (c : List ℕ) → Model n f c → Extends c a
    extends c m = subst (Extends c) (sym told.0) (forced c m)

    -- the cores there bound what every model breaks
    pub root_bounded : (c : List ℕ) → Model n f c → (scan f row a).bound ≤ disagreement row c
    root_bounded c m = bound_broken n f row d a told.2.searching.state c m (extends c m)

    -- what is right of the settled root is right of the root
    back : (o : Option Answer) → Right n f row d a o → Right n f row d (replicate n 2) o
    back None p = λ c m x. p c m (extends c m)
    back (Some x) p = (p.0, start_extends n x.choice)

    -- the search from there
    pub root_tried : {guide : List ℕ} → Guides n row guide → (k : ℕ) (there trail'' trail''' a' : List ℕ) (s : Tried) → TriedBy (search_from f row guide d a) k there trail'' trail''' a' s → RootRight n f row d a' s
    root_tried {guide} g k there trail'' trail''' a' s u =
        subst (Right n f row d (replicate n 2)) u.0 (back (search_from f row guide d a).answer (search_right n f fit row guide g d a told.2.searching.state))
