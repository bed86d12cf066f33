-- What looking at clauses and following the queue ask for, and what each step does.
use Rattle.std.specs.Prelude.{◌≡◌, refl, Bool, true, false, cond, ℕ, ◌-◌, ◌≤◌, ◌<◌, ltb, ℤ, length, get_or, Option, None, Some, Ok, Err}
use Rattle.std.proofs.Common.{sym, ap, ap₂, subst, ◌∙◌, arith, lt-ltb, le-ltb, eqb-true}
use mathlib.Core.List.{List, [], ◌∷◌, ◌++◌, Memᴰ}
use Rattle.std.proofs.Math.Seq.{slice}
use Rattle.literal.specs.Literal.{variable, wanted, value}
use Rattle.literal.specs.Slots.{wanted_bit}
use Rattle.formula.specs.Formula.{clauses}
use Rattle.distance.specs.Distance.{disagreement}
use Rattle.choices.proofs.Lists.{member_at}
use Rattle.limits.specs.Limits.{max_variables}
use Rattle.walk.proofs.Counting.{find_member}
use Rattle.walk.proofs.Fits.{fits_at}
use Rattle.walk.specs.State.{find, satisfy, is_unassigned, is_unit, is_falsified, fits}
use Rattle.walk_occurrences.specs.Layout.{begins_of}
use Rattle.walk_occurrences.specs.Table.{Located, Beside}
use Rattle.walk_unit_queue.specs.Queue.{Pending, make_hold, look}
use Rattle.walk_tally.specs.declared.Tally.{Tally}
use Rattle.walk_propagation.specs.Assigned.{AssignedTo, assigned_searching, assigned_grown}
use Rattle.walk_propagation.specs.Looked.{pending, Moved, moved_none, LookedBy}
use Rattle.walk_propagation.specs.Searching.{Searching, not_all}
use Rattle.walk_propagation.specs.Trail.{slice-stored}
use Rattle.walk_propagation.specs.Unit.{unit_of, asks}
use Rattle.walk_propagation.specs.declared.unit.Unit.{Unit}
use Rattle.walk_propagation.specs.declared.unit.Unit.TheVariants.{Conflict, Literal, Nothing}

-- numbers of clauses of a list
abbrev pub Numbers : List ℤ → List ℕ → Type 0
Numbers rules ks = (i : ℕ) → i < length ks → (0 < get_or ks i 0) × (get_or ks i 0 ≤ length (clauses rules))

-- a state of the search over the clauses of a list, which can be found by number
pub record Looking (rules : List ℤ) (arrangement row : List ℕ) (t : Tally) (a trail : List ℕ) : Type 0 where
  pub few : length a ≤ max_variables
  pub fit : fits (length a) (clauses rules) ≡ true
  pub located : Located rules (begins_of arrangement)
  pub searching : Searching (length a) row a trail t.settled t.broken

-- and with the arrangement beside it
pub record Following (rules : List ℤ) (arrangement row : List ℕ) (t : Tally) (a trail : List ℕ) : Type 0 where
  pub looking : Looking rules arrangement row t a trail
  pub beside : Beside (length a) rules arrangement

-- later states are of the same kind
pub looking_moved : {rules : List ℤ} {arrangement row : List ℕ} {t t' : Tally} {a trail a' trail' : List ℕ} → Looking rules arrangement row t a trail → Moved (length a) row t a trail t' a' trail' → Looking rules arrangement row t' a' trail'
looking_moved {rules} {arrangement} {row} {t} {t'} {a} {trail} {a'} {trail'} h m =
    let long : length a ≡ length a' = sym m.searching.state.size in
    record {
      few = omega (arith, h.few);
      fit = subst (λ (n : ℕ). fits n (clauses rules) ≡ true) long h.fit;
      located = h.located;
      searching = subst (λ (n : ℕ). Searching n row a' trail' t'.settled t'.broken) long m.searching;
    }

pub following_moved : {rules : List ℤ} {arrangement row : List ℕ} {t t' : Tally} {a trail a' trail' : List ℕ} → Following rules arrangement row t a trail
    → Moved (length a) row t a trail t' a' trail' → Following rules arrangement row t' a' trail'
following_moved {rules} {arrangement} h m =
    record { looking = looking_moved h.looking m; beside = subst (λ (n : ℕ). Beside n rules arrangement) (sym m.searching.state.size) h.beside }

-- what a clause asks for decides what looking at it does
abbrev pub look_by : List ℕ → ℕ → Pending → Unit → Option Pending
look_by row d p Conflict = None
look_by row d p (Literal x) = make_hold row d p (Some x)
look_by row d p Nothing = Some p

pub look_by_lem : (row : List ℕ) (d : ℕ) (p : Pending) (c : List ℤ) → look row d p c ≡ look_by row d p (asks p.values c)
look_by_lem row d p c = go (is_falsified p.values c) (is_unit p.values c) (find (is_unassigned p.values) c)
  where
    go : (s u : Bool) (o : Option ℤ) → cond s None (cond u (make_hold row d p o) (Some p)) ≡ look_by row d p (cond s Conflict (cond u (unit_of o) Nothing))
    go true u o = refl
    go false true None = refl
    go false true (Some x) = refl
    go false false o = refl

asks_found : (a : List ℕ) (c : List ℤ) (x : ℤ) → asks a c ≡ Literal x → find (is_unassigned a) c ≡ Some x
asks_found a c x e = go (is_falsified a c) (is_unit a c) (find (is_unassigned a) c) e
  where
    go : (s u : Bool) (o : Option ℤ) → cond s Conflict (cond u (unit_of o) Nothing) ≡ Literal x → o ≡ Some x
    go true u o q = cc
    go false true None q = cc
    go false true (Some y) q = cc
    go false false o q = cc

-- a clause is looked at: its number k, and what it asks for
module _ {rules : List ℤ} {arrangement row : List ℕ} {t : Tally} {a trail : List ℕ} (h : Looking rules arrangement row t a trail) (d : ℕ) (k : ℕ) (low : 0 < k) (high : k ≤ length (clauses rules)) where
  abbrev c : List ℤ
  c = get_or (clauses rules) (k - 1) []

  abbrev outcome : ℕ → Option Pending
  outcome head = look row d (pending head t a trail) c

  pub look_conflict : asks a c ≡ Conflict → LookedBy (length a) row outcome t a trail a trail (Err (record { tally = t }))
  look_conflict e = (λ head l. look_by_lem row d (pending head t a trail) c ∙ ap (look_by row d (pending head t a trail)) e, moved_none h.searching)

  pub look-nothing : asks a c ≡ Nothing → LookedBy (length a) row outcome t a trail a trail (Ok t)
  look-nothing e = (λ head l. look_by_lem row d (pending head t a trail) c ∙ ap (look_by row d (pending head t a trail)) e, moved_none h.searching)

  module _ (x : ℤ) (e : asks a c ≡ Literal x) where
    member : Memᴰ x c × (is_unassigned a x ≡ true)
    member = find_member (is_unassigned a) c (asks_found a c x e)

    pub inside : (0 < variable x) × (variable x ≤ length a)
    inside = fits_at (length a) (clauses rules) h.fit (member_at [] (clauses rules) (k - 1) (omega arith)) member.0

    free : value a (variable x) ≡ 2
    free = eqb-true (value a (variable x)) 2 member.1

    pub room : t.settled < length a
    room = not_all (length a) row a trail t.settled t.broken h.searching (variable x) (wanted x) inside.0 inside.1 free (wanted_bit x)

    module _ {t' : Tally} {a' trail' : List ℕ} (told : AssignedTo row (variable x) (wanted x) t a trail t' a' trail') where
      moved : Moved (length a) row t a trail t' a' trail'
      moved =
          record {
            grown = assigned_grown told h.searching inside.0 inside.1 free (wanted_bit x);
            searching = assigned_searching told h.searching inside.0 inside.1 free (wanted_bit x);
          }

      next : (head : ℕ) → head ≤ t.settled → (b : Bool) → ltb d t'.broken ≡ b → outcome head ≡ cond b None (Some (pending head t' a' trail'))
      next head l b q =
          look_by_lem row d (pending head t a trail) c
          ∙ ap (look_by row d (pending head t a trail)) e
          ∙ ap₂ (λ (u : Bool) (p : Pending). cond u None (Some p)) (ap (λ (v : List ℕ). ltb d (disagreement row v)) (sym told.values) ∙ ap (ltb d) (sym moved.searching.breaks) ∙ q) queued
        where
          queued : record { values = satisfy a x; queue = slice head t.settled trail ++ (variable x ∷ []) } ≡ pending head t' a' trail'
          queued =
              ap₂ (λ (v q : List ℕ). record { values = v; queue = q }) (sym told.values)
              (sym (ap₂ (λ (m : ℕ) (l : List ℕ). slice head m l) told.settled told.order ∙ slice-stored trail head t.settled (variable x) l (omega (arith, room, h.searching.long))))

      pub look_over : d < t'.broken → LookedBy (length a) row outcome t a trail a' trail' (Err (record { tally = t' }))
      look_over l = (λ head q. next head q true (lt-ltb d t'.broken l), moved)

      pub look-held : t'.broken ≤ d → LookedBy (length a) row outcome t a trail a' trail' (Ok t')
      look-held l = (λ head q. next head q false (le-ltb d t'.broken l), moved)
