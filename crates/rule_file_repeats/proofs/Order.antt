-- "An equal entry is stored once, at its first place." (document 02, L3): no literal stands twice, and what comes later never alters what was stored.
use Rattle.std.specs.Prelude.{◌≡◌, refl, ◌↔◌, ◌⊎◌, Bool, true, false, cond, ℤ}
use Rattle.std.proofs.Common.{sym, ap, subst, ◌∙◌, inl, inr, true≢false}
use mathlib.Core.List.Memᴰ
use mathlib.Core.List.{List, [], ◌∷◌, ◌++◌, append-nil, cons≢nil, Memᴰ}
use Rattle.literal.specs.Literal.{variable, wanted, is_literal}
use Rattle.rule_list.specs.Sound.{may_join}
use Rattle.rule_file_repeats.proofs.Members.{any_same}
use Rattle.rule_file_repeats.specs.Once.{once, without_repeats}
use Rattle.rule_file_repeats.proofs.Once.{repeat_read}

-- what is kept was not read before
kept_new : (read c : List ℤ) {y : ℤ} → Memᴰ y (once read c) → Memᴰ y read → ⊥
kept_new read [] m r = Memᴰ.not-nil m
kept_new read (x ∷ c) {y} m r = go (may_join read x) refl m (kept_new (x ∷ read) c) (kept_new read c)
  where
    go : (b : Bool) → may_join read x ≡ b → Memᴰ y (cond b (x ∷ once (x ∷ read) c) (once read c))
        → (Memᴰ y (once (x ∷ read) c) → Memᴰ y (x ∷ read) → ⊥) → (Memᴰ y (once read c) → Memᴰ y read → ⊥) → ⊥
    go true f (Memᴰ.head e) joined dropped = true≢false (sym f ∙ (repeat_read read x).1 (Memᴰ.cast (sym e) r))
    go true f (Memᴰ.tail q) joined dropped = joined q (Memᴰ.tail r)
    go false f q joined dropped = dropped q r

-- so nothing is kept twice
twice : (read c before behind : List ℤ) (x : ℤ) → once read c ≡ before ++ x ∷ behind → Memᴰ x behind → ⊥
twice read [] [] behind x e m = cons≢nil (sym e)
twice read [] (y ∷ before) behind x e m = cons≢nil (sym e)
twice read (z ∷ c) before behind x e m = go (may_join read z) before e (λ (p : List ℤ). twice (z ∷ read) c p behind x) (λ (p : List ℤ). twice read c p behind x)
  where
    go : (b : Bool) (p : List ℤ) → cond b (z ∷ once (z ∷ read) c) (once read c) ≡ p ++ x ∷ behind
        → ((q : List ℤ) → once (z ∷ read) c ≡ q ++ x ∷ behind → Memᴰ x behind → ⊥) → ((q : List ℤ) → once read c ≡ q ++ x ∷ behind → Memᴰ x behind → ⊥) → ⊥
    go true [] e joined dropped =
        let first : x ≡ z = cc in
        let rest : behind ≡ once (z ∷ read) c = cc in
        kept_new (z ∷ read) c (subst (Memᴰ x) rest m) (Memᴰ.head first)
    go true (y ∷ p) e joined dropped = let rest : once (z ∷ read) c ≡ p ++ x ∷ behind = cc in joined p rest m
    go false p e joined dropped = dropped p e m

-- A literal of a clause without its repeats does not stand there again behind its place.
pub never_twice : (c before behind : List ℤ) (x : ℤ) → without_repeats c ≡ before ++ x ∷ behind → Memᴰ x behind → ⊥
never_twice c before behind x = twice [] c before behind x

-- what is kept has no repeats
again : (read c : List ℤ) → once read (once read c) ≡ once read c
again read [] = refl
again read (x ∷ c) = go (may_join read x) refl (again (x ∷ read) c) (again read c)
  where
    go : (b : Bool) → may_join read x ≡ b → once (x ∷ read) (once (x ∷ read) c) ≡ once (x ∷ read) c → once read (once read c) ≡ once read c
        → once read (cond b (x ∷ once (x ∷ read) c) (once read c)) ≡ cond b (x ∷ once (x ∷ read) c) (once read c)
    go true f joined dropped = rw (f, joined)
    go false f joined dropped = dropped

-- Nor are there more repeats to drop.
pub no_more : (c : List ℤ) → without_repeats (without_repeats c) ≡ without_repeats c
no_more c = again [] c

-- of the literals read only which they are matters
by_members : (read other c : List ℤ) → ((y : ℤ) → Memᴰ y read ↔ Memᴰ y other) → once read c ≡ once other c
by_members read other [] h = refl
by_members read other (x ∷ c) h =
    rw (any_same (is_literal (variable x) (wanted x)) read other h, by_members (x ∷ read) (x ∷ other) c more, by_members read other c h)
  where
    front : (l k : List ℤ) → ((y : ℤ) → Memᴰ y l → Memᴰ y k) → (y : ℤ) → Memᴰ y (x ∷ l) → Memᴰ y (x ∷ k)
    front l k g y (Memᴰ.head e) = Memᴰ.head e
    front l k g y (Memᴰ.tail m) = Memᴰ.tail (g y m)

    more : (y : ℤ) → Memᴰ y (x ∷ read) ↔ Memᴰ y (x ∷ other)
    more y = (front read other (λ z. (h z).0) y, front other read (λ z. (h z).1) y)

-- two parts of a clause, one behind the other, after literals read
parts : (read c e : List ℤ) → once read (c ++ e) ≡ once read c ++ once (c ++ read) e
parts read [] e = refl
parts read (x ∷ c) e = go (may_join read x) refl (parts (x ∷ read) c e) (parts read c e)
  where
    turned : (y : ℤ) → Memᴰ y (c ++ x ∷ read) ↔ Memᴰ y (x ∷ (c ++ read))
    turned y = (λ m. forth (Memᴰ.append_cases c m), λ m. back (Memᴰ.cases_cons m))
      where
        forth : Memᴰ y c ⊎ Memᴰ y (x ∷ read) → Memᴰ y (x ∷ (c ++ read))
        forth (inl m) = Memᴰ.tail (Memᴰ.append_left read m)
        forth (inr (Memᴰ.head q)) = Memᴰ.head q
        forth (inr (Memᴰ.tail m)) = Memᴰ.tail (Memᴰ.append_right c m)

        later : Memᴰ y c ⊎ Memᴰ y read → Memᴰ y (c ++ x ∷ read)
        later (inl m) = Memᴰ.append_left (x ∷ read) m
        later (inr m) = Memᴰ.append_right c (Memᴰ.tail m)

        back : (y ≡ x) ⊎ Memᴰ y (c ++ read) → Memᴰ y (c ++ x ∷ read)
        back (inl q) = Memᴰ.append_right c (Memᴰ.head q)
        back (inr m) = later (Memᴰ.append_cases c m)

    doubled : Memᴰ x read → (y : ℤ) → Memᴰ y (c ++ read) ↔ Memᴰ y (x ∷ (c ++ read))
    doubled r y = (λ m. Memᴰ.tail m, λ m. back (Memᴰ.cases_cons m))
      where
        back : (y ≡ x) ⊎ Memᴰ y (c ++ read) → Memᴰ y (c ++ read)
        back (inl q) = Memᴰ.append_right c (Memᴰ.cast q r)
        back (inr m) = m

    go : (b : Bool) → may_join read x ≡ b → once (x ∷ read) (c ++ e) ≡ once (x ∷ read) c ++ once (c ++ x ∷ read) e → once read (c ++ e) ≡ once read c ++ once (c ++ read) e
        → cond b (x ∷ once (x ∷ read) (c ++ e)) (once read (c ++ e)) ≡ cond b (x ∷ once (x ∷ read) c) (once read c) ++ once (x ∷ (c ++ read)) e
    go true f joined dropped =
        ap (λ (l : List ℤ). x ∷ l) (joined ∙ ap (λ (l : List ℤ). once (x ∷ read) c ++ l) (by_members (c ++ x ∷ read) (x ∷ (c ++ read)) e turned))
    go false f joined dropped = dropped ∙ ap (λ (l : List ℤ). once read c ++ l) (by_members (c ++ read) (x ∷ (c ++ read)) e (doubled ((repeat_read read x).0 f)))

-- What is kept of the first part of a clause stays as it is, whatever comes behind; of the second part those follow that are not equal to an earlier one of either.
pub in_order : (c e : List ℤ) → without_repeats (c ++ e) ≡ without_repeats c ++ once c e
in_order c e = parts [] c e ∙ ap (λ (read : List ℤ). without_repeats c ++ once read e) (append-nil c)

-- So a literal that stood before adds nothing, and one that did not comes last.
pub repeat_adds-nothing : (c e : List ℤ) (x : ℤ) → Memᴰ x c → without_repeats (c ++ x ∷ e) ≡ without_repeats (c ++ e)
repeat_adds-nothing c e x m = in_order c (x ∷ e) ∙ rw ((repeat_read c x).1 m) (sym (in_order c e))

pub new_comes_last : (c : List ℤ) (x : ℤ) → (Memᴰ x c → ⊥) → without_repeats (c ++ x ∷ []) ≡ without_repeats c ++ x ∷ []
new_comes_last c x none = in_order c (x ∷ []) ∙ go (may_join c x) refl
  where
    go : (b : Bool) → may_join c x ≡ b → without_repeats c ++ cond b (x ∷ []) [] ≡ without_repeats c ++ x ∷ []
    go true f = refl
    go false f = absurd (none ((repeat_read c x).0 f))
