-- From an admitted call to a search that is ready; what stays so on the way; and the state by the length of its assignment.
use Rattle.std.specs.Prelude.{◌≡◌, List, ℕ, ◌+◌, ◌*◌, ◌≤◌, ◌<◌, ℤ, length, get_or, take}
use Rattle.std.proofs.Common.{sym, subst, arith}
use Rattle.limits.specs.Limits.{max_variables}
use Rattle.rule_list.specs.Sound.{SoundList}
use Rattle.walk_occurrences.specs.Layout.{begins_of}
use Rattle.walk_occurrences.specs.Table.{Beside}
use Rattle.refusal_causes.specs.Admitted.{Admitted}
use Rattle.refusal_causes.specs.Lent.{Lent}
use Rattle.search_meaning.specs.Fits.{sound_fits}
use Rattle.walk_tally.specs.declared.Tally.{Tally}
use Rattle.walk.specs.Promises.{Branches}
use Rattle.walk_propagation.specs.Looking.{Following}
use Rattle.walk_propagation.specs.Searching.{Searching}
use Rattle.walk_witnesses.specs.Laws.{count_inside, count_witnesses}
use Rattle.walk_witnesses.specs.Witnesses.{Witnesses}
use Rattle.search_state.specs.Ready.{Startable, Prepared, Ready}

-- any call that is admitted with room for it may search
pub startable : (s : Lent) (room : ℕ) → Admitted s × (s.problem.n ≤ room) → Startable s.problem.n s.problem.rules room
startable s room a = record { few = a.0.most; sound = a.0.sound_rules; wide = a.1 }

-- the list is arranged, and where its clauses begin are the first witnesses
pub prepared : {n : ℕ} {rules : List ℤ} {arrangement witnesses : List ℕ} {many : ℕ} → Beside n rules arrangement → witnesses ≡ begins_of arrangement → many ≡ get_or arrangement 1 0 → Prepared n rules arrangement witnesses many
prepared h e c = rw (e, c) (record { beside = h; inside = count_inside h; witnessed = count_witnesses h })

-- so a search is ready
pub prepared_ready : {n room many weights : ℕ} {rules : List ℤ} {arrangement witnesses : List ℕ} → Startable n rules room → Prepared n rules arrangement witnesses many → 3 * n + 2 < weights → Ready rules arrangement (take many witnesses) n weights
prepared_ready s p w = record { few = s.few; sound = s.sound; beside = p.beside; witnessed = p.witnessed; weighs = w }

-- assignments and tables keep their lengths, and other literals may be the witnesses
pub ready_still : {rules : List ℤ} {arrangement witnesses witnesses' : List ℕ} {n weights n' weights' : ℕ} → n' ≡ n → Witnesses rules witnesses' → weights' ≡ weights → Ready rules arrangement witnesses n weights
    → Ready rules arrangement witnesses' n' weights'
ready_still p w q h = rw (p, q) (record { few = h.few; sound = h.sound; beside = h.beside; witnessed = w; weighs = h.weighs })

-- so propagation may follow the arrangement from any state of the search
pub following : {rules : List ℤ} {arrangement row a trail : List ℕ} {n : ℕ} {t : Tally} → n ≤ max_variables → SoundList n rules → Beside n rules arrangement → Searching n row a trail t.settled t.broken
    → Following rules arrangement row t a trail
following {rules} {arrangement} {row} {a} {trail} {n} {t} few sound beside h =
    let long : n ≡ length a = sym h.state.size in
    record {
      looking =
          record {
            few = omega arith;
            fit = sound_fits (length a) rules (subst (λ (k : ℕ). SoundList k rules) long sound);
            located = beside.arranged.located;
            searching = subst (λ (k : ℕ). Searching k row a trail t.settled t.broken) long h;
          };
      beside = subst (λ (k : ℕ). Beside k rules arrangement) long beside;
    }

pub ready_following : {rules : List ℤ} {arrangement witnesses row a trail : List ℕ} {n weights : ℕ} {t : Tally} → Ready rules arrangement witnesses n weights → Searching n row a trail t.settled t.broken
    → Following rules arrangement row t a trail
ready_following r h = following r.few r.sound r.beside h

-- a state is one of as many variables as its assignment is long
module _ {n : ℕ} {row a trail : List ℕ} {s b : ℕ} (h : Searching n row a trail s b) where
  pub long_searching : Searching (length a) row a trail s b
  long_searching = subst (λ (k : ℕ). Searching k row a trail s b) (sym h.state.size) h

  pub long_branches : {v : ℕ} → Branches a n v → Branches a (length a) v
  long_branches {v} = subst (λ (k : ℕ). Branches a k v) (sym h.state.size)
