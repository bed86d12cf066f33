-- Which literals a clause without its repeats has: those of the clause.
use Rattle.std.specs.Prelude.{◌≡◌, refl, ◌↔◌, ◌⊎◌, Bool, true, false, cond, ℤ}
use Rattle.std.proofs.Common.{sym, ◌∙◌, inl, inr}
use mathlib.Core.List.Memᴰ
use mathlib.Core.List.{List, [], ◌∷◌, Memᴰ}
use Rattle.formula.specs.Formula.{any}
use Rattle.rule_list.specs.Sound.{may_join}
use Rattle.choices.proofs.Lists.{any_at, any_member}
use Rattle.rule_file_repeats.specs.Once.{once, without_repeats}
use Rattle.rule_file_repeats.proofs.Once.{repeat_read}

-- what is kept stood in the clause
kept_stood : (read c : List ℤ) {y : ℤ} → Memᴰ y (once read c) → Memᴰ y c
kept_stood read [] m = m
kept_stood read (x ∷ c) {y} m = go (may_join read x) m (kept_stood (x ∷ read) c) (kept_stood read c)
  where
    go : (b : Bool) → Memᴰ y (cond b (x ∷ once (x ∷ read) c) (once read c)) → (Memᴰ y (once (x ∷ read) c) → Memᴰ y c)
        → (Memᴰ y (once read c) → Memᴰ y c) → Memᴰ y (x ∷ c)
    go true (Memᴰ.head e) joined dropped = Memᴰ.head e
    go true (Memᴰ.tail q) joined dropped = Memᴰ.tail (joined q)
    go false q joined dropped = Memᴰ.tail (dropped q)

-- what stood there is kept, or it was read before
stood_kept : (read c : List ℤ) {y : ℤ} → Memᴰ y c → Memᴰ y read ⊎ Memᴰ y (once read c)
stood_kept read [] m = inr m
stood_kept read (x ∷ c) {y} m = go (may_join read x) refl (stood_kept (x ∷ read) c) (stood_kept read c) (Memᴰ.cases_cons m)
  where
    behind : Memᴰ y (x ∷ read) ⊎ Memᴰ y (once (x ∷ read) c) → Memᴰ y read ⊎ Memᴰ y (x ∷ once (x ∷ read) c)
    behind (inl (Memᴰ.head e)) = inr (Memᴰ.head e)
    behind (inl (Memᴰ.tail q)) = inl q
    behind (inr q) = inr (Memᴰ.tail q)

    go : (b : Bool) → may_join read x ≡ b → (Memᴰ y c → Memᴰ y (x ∷ read) ⊎ Memᴰ y (once (x ∷ read) c))
        → (Memᴰ y c → Memᴰ y read ⊎ Memᴰ y (once read c)) → (y ≡ x) ⊎ Memᴰ y c
        → Memᴰ y read ⊎ Memᴰ y (cond b (x ∷ once (x ∷ read) c) (once read c))
    go true f joined dropped (inl e) = inr (Memᴰ.head e)
    go true f joined dropped (inr q) = behind (joined q)
    go false f joined dropped (inl e) = inl (Memᴰ.cast e ((repeat_read read x).0 f))
    go false f joined dropped (inr q) = dropped q

-- A literal stands in a clause without its repeats exactly when it stands in the clause; so do both of two opposite ones.
pub same_members : (c : List ℤ) (y : ℤ) → Memᴰ y (without_repeats c) ↔ Memᴰ y c
same_members c y = (kept_stood [] c, λ m. go (stood_kept [] c m))
  where
    go : Memᴰ y [] ⊎ Memᴰ y (without_repeats c) → Memᴰ y (without_repeats c)
    go (inl q) = absurd (Memᴰ.not-nil q)
    go (inr q) = q

-- where two clauses have the same literals, some literal of the one passes a test exactly when one of the other does
pub any_same : (p : ℤ → Bool) (c e : List ℤ) → ((y : ℤ) → Memᴰ y c ↔ Memᴰ y e) → any p c ≡ any p e
any_same p c e h = go (any p c) refl (any p e) refl
  where
    over : (c e : List ℤ) → ((y : ℤ) → Memᴰ y c → Memᴰ y e) → any p c ≡ true → any p e ≡ true
    over c e h t = let found = any_member p c t in any_at p (h found.0 found.1) found.2

    go : (b : Bool) → any p c ≡ b → (d : Bool) → any p e ≡ d → b ≡ d
    go true f true g = refl
    go true f false g = sym (over c e (λ y. (h y).0) f) ∙ g
    go false f true g = sym f ∙ over e c (λ y. (h y).1) g
    go false f false g = refl
