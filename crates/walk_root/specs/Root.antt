-- The walk from its root, where every variable is unassigned.
use Rattle.std.specs.Prelude.{◌≡◌, true, List, [], ℕ, ◌+◌, ◌<◌, ℤ, length, get_or, take, replicate, None, Ok, Err}
use Rattle.std.proofs.Common.{sym, ap, subst, ◌∙◌, arith, get_or-take, get_or-drop}
use Rattle.std.proofs.Math.Seq.{slice, length-slice}
use Rattle.literal.specs.Literal.{value}
use Rattle.formula.specs.Formula.{clauses}
use Rattle.rule_list.specs.Sound.{SoundList}
use Rattle.search_meaning.specs.Fits.{sound_fits}
use Rattle.choices.proofs.Lists.{member_at, member_index}
use Rattle.walk.proofs.Correctness.{start_state}
use Rattle.walk.specs.Propagation.{propagate}
use Rattle.walk.proofs.PropagationLaws.{propagate_state, propagate-done, propagate_quiet}
use Rattle.walk.specs.State.{fits}
use Rattle.walk.specs.Walk.{Outcome, dead_end, decide, walk_from, walk}
use Rattle.walk.proofs.WalkLaws.{walk_step, decide_dead}
use Rattle.walk_tally.specs.declared.Tally.{Tally}
use Rattle.walk_propagation.specs.Looked.{pending}
use Rattle.walk_propagation.specs.Searching.{Searching, settled_most}
use Rattle.walk_unit_queue.specs.Theorems.{Covers}
use Rattle.walk_propagation.specs.declared.propagated.DeadEnd.{DeadEnd}
use Rattle.search_state.specs.declared.result.Tried.{Tried}
use Rattle.search_state.specs.Result.{clip}
use Rattle.search_state.specs.Newest.{newest}
use Rattle.walk_unit_queue.specs.Due.{NoneDue}
use Rattle.search_state.specs.Root.{SettledRoot}
use Rattle.search_state.specs.RootLaws.{root_says}
use Rattle.search_state.specs.Tried.{TriedBy, RootSays}

-- the walk of a sound list with n variables
module _ (n : ℕ) (rules : List ℤ) (sound : SoundList n rules) (row : List ℕ) (d : ℕ) where
  abbrev f : List (List ℤ)
  f = clauses rules

  fit : fits n f ≡ true
  fit = sound_fits n rules sound

  stepped : walk n f row d ≡ decide f row d (walk_from f row d) (propagate f (replicate n 2))
  stepped = walk_step n f fit row d (replicate n 2) (start_state n)

  -- a dead end of propagation is one of the walk
  pub walk_dead : {trail a trail' : List ℕ} {e : DeadEnd} → SettledRoot n f row d trail a trail' (Err e) → (a' : List ℕ) → RootSays (walk n f row d) a' (record { found = None; forks = 0 })
  walk_dead told a' =
      let o : walk n f row d ≡ dead_end = stepped ∙ decide_dead f row d (walk_from f row d) (propagate f (replicate n 2)) told.0 in
      (ap (λ (o : Outcome). o.answer) o, sym (ap (λ (o : Outcome). clip o.forks) o))

  -- else the walk from the settled root is the walk
  pub walk_settled : {trail a trail' : List ℕ} {t : Tally} → SettledRoot n f row d trail a trail' (Ok t) → (k : ℕ) (back trail'' trail''' a' : List ℕ) (r : Tried) → TriedBy (walk_from f row d a) k back trail'' trail''' a' r
      → RootSays (walk n f row d) a' r
  walk_settled {a = a} told k back trail'' trail''' a' r w =
      let again = walk_step n f fit row d (propagate f (replicate n 2)) (propagate_state f (start_state n)) in
      let done = propagate-done f (propagate f (replicate n 2)) (propagate_quiet n f fit (start_state n)) in
      let same : walk_from f row d a ≡ walk n f row d = ap (walk_from f row d) told.0 ∙ again ∙ ap (decide f row d (walk_from f row d)) done ∙ sym stepped in
      subst (λ (o : Outcome). RootSays o a' r) same (root_says (walk_from f row d a) k back trail'' trail''' a' r w)

-- where no clause asks for anything, the newest variable is all that can be in the queue
pub quiet_covers : {n : ℕ} (f : List (List ℤ)) {row a trail : List ℕ} {t : Tally} → Searching n row a trail t.settled t.broken → NoneDue f a → Covers f (pending (newest t) t a trail)
quiet_covers f {row} {a} {trail} {t} s quiet =
    record {
      assigned = λ v w. on_trail v (member_index 0 (slice (newest t) t.settled trail) w);
      covered = λ j l h. absurd (quiet (get_or f j []) (member_at [] f j l) h);
    }
  where
    on_trail : (v : ℕ) → (i : ℕ) × (i < length (slice (newest t) t.settled trail)) × (get_or (slice (newest t) t.settled trail) i 0 ≡ v) → value a v < 2
    on_trail v r =
        let l = length-slice (newest t) t.settled trail (omega (arith, settled_most s, s.long)) in
        let inside : newest t + r.0 < t.settled = omega (arith, r.1, l) in
        let here : get_or trail (newest t + r.0) 0 ≡ v = sym (get_or-take t.settled trail (newest t + r.0) 0 inside) ∙ sym (get_or-drop (newest t) (take t.settled trail) r.0 0) ∙ r.2 in
        subst (λ (u : ℕ). value a u < 2) here (s.traced (newest t + r.0) inside).bit
