-- What a number without a fault tells.
use Rattle.std.specs.Prelude.{◌≡◌, refl, Bool, true, false, cond, not, ◌&&◌, ℕ, ◌≤◌, ◌<◌, ltb, leb, ℤ, Option, None, Some}
use Rattle.std.proofs.Common.{leb-false, ltb-false}
use Rattle.literal.specs.Literal.{variable, closes}
use Rattle.limits.specs.Limits.{max_literals}
use Rattle.rule_file_token_faults.specs.Fault.{fault_of}

module _ (n c k m : ℕ) (x : ℤ) (r : Bool) (fine : fault_of n c k m x r ≡ None) where
  pub open_clause : k < c
  open_clause = go (leb c k) refl fine
    where
      go : (t : Bool) → leb c k ≡ t → cond {A = Option ℕ} t (Some 6) (cond (closes x) None (cond (not r && leb max_literals m) (Some 7) (cond (ltb n (variable x)) (Some 4) None))) ≡ None → k < c
      go true f g = cc
      go false f g = leb-false c k f

  -- a literal
  module _ (z : closes x ≡ false) where
    pub literal_inside : variable x ≤ n
    literal_inside = go (leb c k) (not r && leb max_literals m) (ltb n (variable x)) refl (rw (z) at fine)
      where
        go : (t u o : Bool) → ltb n (variable x) ≡ o → cond {A = Option ℕ} t (Some 6) (cond u (Some 7) (cond o (Some 4) None)) ≡ None → variable x ≤ n
        go true u o h g = cc
        go false true o h g = cc
        go false false true h g = cc
        go false false false h g = ltb-false n (variable x) h

    pub literal_fits : r ≡ false → m < max_literals
    literal_fits e = go (leb c k) (leb max_literals m) refl (ltb n (variable x)) (rw (z, e) at fine)
      where
        go : (t u : Bool) → leb max_literals m ≡ u → (o : Bool) → cond {A = Option ℕ} t (Some 6) (cond u (Some 7) (cond o (Some 4) None)) ≡ None → m < max_literals
        go true u f o g = cc
        go false true f o g = cc
        go false false f o g = leb-false max_literals m f
