-- What stands between two variables that are fixed: a state of the search, and the variables 1 to v in it as the first model within d has them.
use Rattle.std.specs.Prelude.{◌≡◌, List, ℕ, ℤ, length}
use Rattle.std.proofs.Common.{sym, subst}
use Rattle.formula.specs.Formula.{clauses}
use Rattle.rule_list.specs.Sound.{SoundList}
use Rattle.walk_tally.specs.declared.Tally.{Tally}
use Rattle.walk_propagation.specs.Searching.{Searching}
use Rattle.search_meaning.specs.Fits.{sound_fits}
use Rattle.walk_unit_queue.specs.Due.{NoneDue}
use Rattle.walk_unit_queue.proofs.Theorems.{settled_none_due}
use Rattle.walk.specs.Propagation.{propagate}
use Rattle.nearest_first_choice.specs.Refining.{Refining, refining_propagated, refining_alive}

-- for as many variables as the assignment is long
pub record Fixed (rules : List ℤ) (row : List ℕ) (d v : ℕ) (t : Tally) (a trail c : List ℕ) : Type 0 where
  pub searching : Searching (length a) row a trail t.settled t.broken
  pub refining : Refining (length a) (clauses rules) row d v a c

-- and propagation has nothing to do
pub record Fixing (rules : List ℤ) (row : List ℕ) (d v : ℕ) (t : Tally) (a trail c : List ℕ) : Type 0 where
  pub fixed : Fixed rules row d v t a trail c
  pub quiet : NoneDue (clauses rules) a

-- from what is said of n variables
pub fixed_of : {rules : List ℤ} {row : List ℕ} {d v : ℕ} {t : Tally} {a trail c : List ℕ} (n : ℕ) → Searching n row a trail t.settled t.broken → Refining n (clauses rules) row d v a c → Fixed rules row d v t a trail c
fixed_of {rules} {row} {d} {v} {t} {a} {trail} {c} n h r =
    record {
      searching = subst (λ (k : ℕ). Searching k row a trail t.settled t.broken) long h;
      refining = subst (λ (k : ℕ). Refining k (clauses rules) row d v a c) long r;
    }
  where
    long : n ≡ length a
    long = sym h.state.size

-- what propagation leaves, with n variables and a sound list
pub settled : {rules : List ℤ} {row : List ℕ} {d v : ℕ} {t' : Tally} {a a' trail' c : List ℕ} (n : ℕ) → SoundList n rules → Refining n (clauses rules) row d v a c → a' ≡ propagate (clauses rules) a
    → Searching n row a' trail' t'.settled t'.broken → Fixing rules row d v t' a' trail' c
settled {rules} {row} {d} {v} {t'} {a} {a'} {trail'} {c} n sound r e s =
    record {
      fixed = fixed_of n s (subst (λ (l : List ℕ). Refining n (clauses rules) row d v l c) (sym e) (refining_propagated r));
      quiet = rw e (settled_none_due n (clauses rules) (sound_fits n rules sound) row d r.state (refining_alive r));
    }
