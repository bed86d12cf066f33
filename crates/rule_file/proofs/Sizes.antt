-- How much a sound list holds.
use Rattle.std.specs.Prelude.{◌≡◌, refl, Bool, true, false, cond, List, ◌∷◌, ℕ, suc, ◌≤◌, ◌<◌, ℤ, length, None, Some}
use Rattle.std.proofs.Common.{sym, ap, arith}
use Rattle.std.proofs.lemmas.Option.{none-some}
use Rattle.formula.specs.Formula.{closes, clauses}
use Rattle.limits.specs.Limits.{max_clauses}
use Rattle.rule_list.specs.Laws.{zeros, zeros-clauses}
use Rattle.rule_list_soundness.specs.Laws.{length-flat}
use Rattle.rule_list_soundness.specs.Soundness.{sound}
use Rattle.rule_list.specs.Sound.{SoundList, Scan, stands, after, unclosed, bad_rule}

-- an element that stands, and a sound list after it
pub sound_step : (n : ℕ) (s : Scan) (i : ℕ) (x : ℤ) (l : List ℤ) → bad_rule n s i (x ∷ l) ≡ None → (stands n s x ≡ true) × (bad_rule n (after s x) (suc i) l ≡ None)
sound_step n s i x l e = go (stands n s x) e
  where
    go : (t : Bool) → cond t (bad_rule n (after s x) (suc i) l) (Some i) ≡ None → (t ≡ true) × (bad_rule n (after s x) (suc i) l ≡ None)
    go true f = (refl, f)
    go false f = absurd (none-some i (sym f))

-- where a sound list goes on, a closing zero is still to come
pub zeros-some : (n : ℕ) (s : Scan) (i : ℕ) (x : ℤ) (l : List ℤ) → bad_rule n s i (x ∷ l) ≡ None → 0 < zeros (x ∷ l)
zeros-some n s i x l e = go (closes x) refl (zeros-clauses n (after s x) (suc i) l (sound_step n s i x l e).1).1
  where
    go : (b : Bool) → closes x ≡ b → (unclosed (after s x).clause ≡ true → 0 < zeros l) → 0 < zeros (x ∷ l)
    go true f later = rw (f) (omega arith)
    go false f later = rw (f) ((rw (f) at later) refl)

-- it has at most 9,000 clauses and 31,000 literals
pub sound_clauses : (n : ℕ) (l : List ℤ) → SoundList n l → length (clauses l) ≤ max_clauses
sound_clauses n l e = (sound n l e).few

pub sound_length : (n : ℕ) (l : List ℤ) → SoundList n l → length l ≤ 40000
sound_length n l e =
    let s = sound n l e in
    omega (arith, s.few, s.small, ap length s.closed, length-flat (clauses l))
