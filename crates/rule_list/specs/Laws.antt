-- The equations by which proofs scan a rule list, element by element.
use Rattle.std.specs.Prelude.{◌≡◌, refl, Bool, true, false, cond, List, [], ◌∷◌, ℕ, suc, ◌+◌, ◌≤◌, ◌<◌, ℤ, pos, length, get_or, drop, None, Some}
use Rattle.std.proofs.Common.{sym, ap, ◌∙◌, zero-lt-suc, add-one, arith, drop_of_length-le, drop-cons, lt-ltb, le-ltb, le-leb, eq-eqb, ne_eqb}
use Rattle.std.proofs.lemmas.Option.{none-some}
use Rattle.std.proofs.lemmas.Bool.{lt-leb}
use Rattle.literal.specs.Literal.{variable}
use Rattle.formula.specs.Formula.{closes, onto, clauses, literals}
use Rattle.limits.specs.Limits.{max_clauses, max_literals}
use Rattle.rule_list.specs.Sound.{Scan, may_join, stands, unclosed, bad_rule}

-- a rule list, after k clauses, m literals and the literals c of the open clause: what may come next, and what may not
abbrev pub scan : ℕ → ℕ → List ℤ → Scan
scan k m c = record { clauses = k; literals = m; clause = c }

module _ (n k m : ℕ) (c : List ℤ) (list : List ℤ) (i : ℕ) (h : i < length list) where
  abbrev x : ℤ
  x = get_or list i (pos 0)

  pub rule_closed : variable x ≡ 0 → k < max_clauses → bad_rule n (scan k m c) i (drop i list) ≡ bad_rule n (scan (k + 1) m []) (i + 1) (drop (i + 1) list)
  rule_closed z r = rw (drop-cons list i (pos 0) h, eq-eqb (variable x) 0 z, lt-ltb k max_clauses r, add-one i, add-one k)

  pub rule_clauses : variable x ≡ 0 → max_clauses ≤ k → bad_rule n (scan k m c) i (drop i list) ≡ Some i
  rule_clauses z r = rw (drop-cons list i (pos 0) h, eq-eqb (variable x) 0 z, le-ltb k max_clauses r)

  pub rule_literal : (variable x ≡ 0 → ⊥) → variable x ≤ n → m < max_literals → may_join c x ≡ true
      → bad_rule n (scan k m c) i (drop i list) ≡ bad_rule n (scan k (m + 1) (x ∷ c)) (i + 1) (drop (i + 1) list)
  rule_literal z v r j =
      rw (drop-cons list i (pos 0) h, ne_eqb (variable x) 0 z, le-leb (variable x) n v, lt-ltb m max_literals r, j, add-one i, add-one m)

  pub rule_outside : (variable x ≡ 0 → ⊥) → n < variable x → bad_rule n (scan k m c) i (drop i list) ≡ Some i
  rule_outside z v = rw (drop-cons list i (pos 0) h, ne_eqb (variable x) 0 z, lt-leb (variable x) n v)

  pub rule_literals : (variable x ≡ 0 → ⊥) → variable x ≤ n → max_literals ≤ m → bad_rule n (scan k m c) i (drop i list) ≡ Some i
  rule_literals z v r =
      rw (drop-cons list i (pos 0) h, ne_eqb (variable x) 0 z, le-leb (variable x) n v, le-ltb m max_literals r)

  pub rule_twice : (variable x ≡ 0 → ⊥) → variable x ≤ n → m < max_literals → may_join c x ≡ false → bad_rule n (scan k m c) i (drop i list) ≡ Some i
  rule_twice z v r j =
      rw (drop-cons list i (pos 0) h, ne_eqb (variable x) 0 z, le-leb (variable x) n v, lt-ltb m max_literals r, j)

pub rule_end : (n k m : ℕ) (c : List ℤ) (list : List ℤ) (i : ℕ) → length list ≤ i
    → bad_rule n (scan k m c) i (drop i list) ≡ cond (unclosed c) (Some i) None
rule_end n k m c list i h = rw (drop_of_length-le list h)

-- the closing zeros of a list, and its other elements
abbrev pub zeros : List ℤ → ℕ
zeros [] = 0
zeros (x ∷ list) = cond (closes x) (suc (zeros list)) (zeros list)

abbrev pub nonzeros : List ℤ → ℕ
nonzeros [] = 0
nonzeros (x ∷ list) = cond (closes x) (nonzeros list) (suc (nonzeros list))

-- of a sound list these are its clauses and literals
literals-onto : (x : ℤ) (f : List (List ℤ)) → literals (onto x f) ≡ suc (literals f)
literals-onto x [] = refl
literals-onto x (c ∷ f) = omega arith

pub nonzeros-literals : (list : List ℤ) → nonzeros list ≡ literals (clauses list)
nonzeros-literals [] = refl
nonzeros-literals (x ∷ list) = go (closes x) (nonzeros-literals list)
  where
    go : (b : Bool) → nonzeros list ≡ literals (clauses list)
        → cond b (nonzeros list) (suc (nonzeros list)) ≡ literals (cond b ([] ∷ clauses list) (onto x (clauses list)))
    go true e = omega arith
    go false e = ap suc e ∙ sym (literals-onto x (clauses list))

length-onto : (x : ℤ) (f : List (List ℤ)) → 0 < length f → length (onto x f) ≡ length f
length-onto x [] h = omega arith
length-onto x (c ∷ f) h = refl

abbrev Counted : Scan → List ℤ → Type 0
Counted s list = (zeros list ≡ length (clauses list)) × (unclosed s.clause ≡ true → 0 < zeros list)

pub zeros-clauses : (n : ℕ) (s : Scan) (i : ℕ) (list : List ℤ) → bad_rule n s i list ≡ None → Counted s list
zeros-clauses n s i [] e = (refl, λ u. absurd (none-some i (sym ((ap (λ (b : Bool). cond b (Some i) None) (sym u) ∙ e)))))
zeros-clauses n s i (y ∷ list) e = go (closes y) (stands n s y) e (λ (t : Scan). zeros-clauses n t (suc i) list)
  where
    shut : Scan
    shut = scan (suc s.clauses) s.literals []

    more : Scan
    more = scan s.clauses (suc s.literals) (y ∷ s.clause)

    go : (z b : Bool) → cond b (bad_rule n (cond z shut more) (suc i) list) (Some i) ≡ None
        → ((t : Scan) → bad_rule n t (suc i) list ≡ None → Counted t list)
        → (cond z (suc (zeros list)) (zeros list) ≡ length (cond z ([] ∷ clauses list) (onto y (clauses list))))
        × (unclosed s.clause ≡ true → 0 < cond z (suc (zeros list)) (zeros list))
    go z false f ih = absurd (none-some i (sym f))
    go true true f ih = (ap suc (ih shut f).0, λ u. zero-lt-suc (zeros list))
    go false true f ih =
        let r = ih more f in
        let p : 0 < zeros list = r.1 refl in
        (r.0 ∙ sym (length-onto y (clauses list) (omega (arith, r.0))), λ u. p)

-- what is left of a list to count: at its first element, and at its end
pub zeros-zero : (list : List ℤ) (i : ℕ) → i < length list → variable (get_or list i (pos 0)) ≡ 0
    → (zeros (drop i list) ≡ suc (zeros (drop (i + 1) list))) × (nonzeros (drop i list) ≡ nonzeros (drop (i + 1) list))
zeros-zero list i h z =
    let e = eq-eqb (variable (get_or list i (pos 0))) 0 z in
    (rw (drop-cons list i (pos 0) h, e, add-one i), rw (drop-cons list i (pos 0) h, e, add-one i))

pub zeros-literal : (list : List ℤ) (i : ℕ) → i < length list → (variable (get_or list i (pos 0)) ≡ 0 → ⊥)
    → (zeros (drop i list) ≡ zeros (drop (i + 1) list)) × (nonzeros (drop i list) ≡ suc (nonzeros (drop (i + 1) list)))
zeros-literal list i h z =
    let e = ne_eqb (variable (get_or list i (pos 0))) 0 z in
    (rw (drop-cons list i (pos 0) h, e, add-one i), rw (drop-cons list i (pos 0) h, e, add-one i))

pub zeros_end : (list : List ℤ) (i : ℕ) → length list ≤ i → (zeros (drop i list) ≡ 0) × (nonzeros (drop i list) ≡ 0)
zeros_end list i h = (rw (drop_of_length-le list h), rw (drop_of_length-le list h))
