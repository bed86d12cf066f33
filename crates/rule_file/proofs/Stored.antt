-- What a number of a file adds to the list that is stored: nothing, a closing zero, or a literal.
use Rattle.std.specs.Prelude.{◌≡◌, refl, Bool, true, false, not, ◌&&◌, List, [], ◌∷◌, ℕ, ◌+◌, ◌≤◌, ◌<◌, eqb, ℤ, get_or, None, Some}
use Rattle.std.proofs.Common.{sym, ap, true≢false, add-one, le-ltb}
use Rattle.std.proofs.lemmas.Bool.{lt-leb}
use Rattle.literal.specs.Literal.{variable}
use Rattle.literal.specs.Slots.{slot}
use Rattle.formula.specs.Formula.{closes}
use Rattle.rule_list.specs.Laws.{scan}
use Rattle.rule_list.specs.Sound.{Scan, may_join}
use Rattle.rule_list.specs.Stamps.{Stamped, stamp_tells}
use Rattle.rule_file.specs.Format.{repeats, past, bad_token, stored}

-- A repeat is no cause to refuse, however many literals there are: "Entry counts are taken after dropping repeats." (document 02, L3)
pub repeat_passes : (n c : ℕ) (s : Scan) (place : ℕ) (x : ℤ) → repeats s x ≡ true → s.clauses < c → variable x ≤ n → bad_token n c s place (Some x) ≡ None
repeat_passes n c s place x e h k = go (closes x) refl (may_join s.clause x) refl
  where
    go : (z : Bool) → closes x ≡ z → (j : Bool) → may_join s.clause x ≡ j → bad_token n c s place (Some x) ≡ None
    go true f j g = absurd (true≢false (sym (rw (f) at e)))
    go false f true g = absurd (true≢false (sym (rw (f, g) at e)))
    go false f false g = rw (lt-leb c s.clauses h, f, g, le-ltb n (variable x) k)

-- a number x in front of others, after k clauses, m literals and those of the open clause
module _ (k m : ℕ) (clause : List ℤ) (x : ℤ) (l : List ℤ) where
  abbrev read : Scan
  read = scan k m clause

  -- the stamp at its slot tells whether it is a repeat
  pub stamp_repeats : (stamps : List ℕ) → Stamped stamps (k + 1) clause → not (closes x) && eqb (get_or stamps (slot x) 0) (k + 1) ≡ repeats read x
  stamp_repeats stamps s = ap (λ (b : Bool). not (closes x) && b) (stamp_tells stamps (k + 1) clause x s)

  pub repeat_dropped : repeats read x ≡ true → (past read x ≡ read) × (stored read (x ∷ l) ≡ stored read l)
  repeat_dropped e = (rw e, rw e)

  pub zero-stored : closes x ≡ true → (past read x ≡ scan (k + 1) m []) × (stored read (x ∷ l) ≡ x ∷ stored (scan (k + 1) m []) l)
  zero-stored z = (rw (z, add-one k), rw (z, add-one k))

  pub literal-stored : closes x ≡ false → repeats read x ≡ false → (past read x ≡ scan k (m + 1) (x ∷ clause)) × (stored read (x ∷ l) ≡ x ∷ stored (scan k (m + 1) (x ∷ clause)) l)
  literal-stored z e = (rw (e, z, add-one m), rw (e, z, add-one m))
