-- The equations by which proofs go through a closed list, clause by clause.
use Rattle.std.specs.Prelude.{◌≡◌, refl, Bool, true, false, cond, ◌&&◌, ◌||◌, List, [], ◌∷◌, ℕ, suc, ◌+◌, ◌-◌, ◌*◌, ◌≤◌, ◌<◌, ℤ, pos, length, get_or, take, drop}
use Rattle.std.proofs.Common.{sym, ap, ap₂, ◌∙◌, zero-le, suc-le-suc, not-suc-le-zero, zero-lt-suc, arith, add-one, length-drop, drop_of_length-le, drop-cons, drop-drop, length-take-le}
use Rattle.std.specs.List.{list_any, list_all}
use Rattle.literal.specs.Slots.{is_at, slot-literal}
use Rattle.formula.specs.Formula.{any, all, contains, closes, onto, clauses, clause_length, satisfied, models}

-- std's words for some element that passes a test, and for each
pub list_any_is : {A : Type 0} (p : A → Bool) (l : List A) → list_any p l ≡ any p l
list_any_is p [] = refl
list_any_is p (x ∷ l) = ap (λ (b : Bool). p x || b) (list_any_is p l)

pub list_all_is : {A : Type 0} (p : A → Bool) (l : List A) → list_all p l ≡ all p l
list_all_is p [] = refl
list_all_is p (x ∷ l) = ap (λ (b : Bool). p x && b) (list_all_is p l)

-- a list that is not empty is its first clause, what closes it, and the rest
split : (b : Bool) (x : ℤ) (l : List ℤ) → ((h : 0 < length l) → clauses l ≡ take (clause_length l) l ∷ clauses (drop (suc (clause_length l)) l))
    → cond b ([] ∷ clauses l) (onto x (clauses l)) ≡ take (cond b 0 (suc (clause_length l))) (x ∷ l) ∷ clauses (drop (suc (cond b 0 (suc (clause_length l)))) (x ∷ l))
split true x l ih = refl
split false x [] ih = refl
split false x (y ∷ l) ih = ap (onto x) (ih (zero-lt-suc (length l)))

pub clauses_split : (l : List ℤ) → 0 < length l → clauses l ≡ take (clause_length l) l ∷ clauses (drop (suc (clause_length l)) l)
clauses_split [] h = absurd (not-suc-le-zero h)
clauses_split (x ∷ l) h = split (closes x) x l (clauses_split l)

-- the first clause from an index on: at its closing 0, at a literal, and past the end
pub length-closed : (l : List ℤ) (i : ℕ) → i < length l → closes (get_or l i (pos 0)) ≡ true → clause_length (drop i l) ≡ 0
length-closed l i h e = rw (drop-cons l i (pos 0) h, e)

pub length-literal : (l : List ℤ) (i : ℕ) → i < length l → closes (get_or l i (pos 0)) ≡ false → clause_length (drop i l) ≡ suc (clause_length (drop (i + 1) l))
length-literal l i h e = rw (drop-cons l i (pos 0) h, e, add-one i)

pub length_past : (l : List ℤ) (i : ℕ) → length l ≤ i → clause_length (drop i l) ≡ 0
length_past l i h = rw (drop_of_length-le l h)

-- a test over what is left of a list: at its first element, and at its end
pub any_here : (p : ℤ → Bool) (l : List ℤ) (i : ℕ) → i < length l → p (get_or l i (pos 0)) ≡ true → any p (drop i l) ≡ true
any_here p l i h e = rw (drop-cons l i (pos 0) h, e)

pub any_later : (p : ℤ → Bool) (l : List ℤ) (i : ℕ) → i < length l → p (get_or l i (pos 0)) ≡ false → any p (drop i l) ≡ any p (drop (i + 1) l)
any_later p l i h e = rw (drop-cons l i (pos 0) h, e, add-one i)

pub any_past : (p : ℤ → Bool) (l : List ℤ) (i : ℕ) → length l ≤ i → any p (drop i l) ≡ false
any_past p l i h = rw (drop_of_length-le l h)

pub length_inside : (l : List ℤ) → clause_length l ≤ length l
length_inside [] = zero-le
length_inside (x ∷ l) = shorter (closes x) (length_inside l)
  where
    shorter : (b : Bool) → clause_length l ≤ length l → cond b 0 (suc (clause_length l)) ≤ suc (length l)
    shorter true h = zero-le
    shorter false h = suc-le-suc h

-- the clause that begins at i ends inside the list
pub end_inside : (l : List ℤ) (i e : ℕ) → i ≤ length l → e ≡ i + clause_length (drop i l) → e ≤ length l
end_inside l i e h q = omega (arith, length_inside (drop i l), length-drop i l)

-- and it has as many literals as there are places up to its end
pub clause_long : (l : List ℤ) (i e : ℕ) → i ≤ length l → e ≡ i + clause_length (drop i l) → length (take (e - i) (drop i l)) ≡ e - i
clause_long l i e h q = length-take-le (e - i) (drop i l) (omega (arith, length-drop i l, end_inside l i e h q))

-- from i on, the formula is the clause from i to its end e, and the formula from e + 1 on
pub clauses_step : (l : List ℤ) (i e : ℕ) → i < length l → e ≡ i + clause_length (drop i l)
    → clauses (drop i l) ≡ take (e - i) (drop i l) ∷ clauses (drop (e + 1) l)
clauses_step l i e h q =
    let n : ℕ = clause_length (drop i l) in
    let back : n ≡ e - i = omega arith in
    let next : i + suc n ≡ e + 1 = omega arith in
    clauses_split (drop i l) (omega (arith, length-drop i l))
    ∙ ap₂ (λ (k : ℕ) (r : List ℤ). take k (drop i l) ∷ clauses r) back (drop-drop (suc n) i l ∙ ap (λ (k : ℕ). drop k l) next)

-- and it is satisfied where the clause is, which r says, and the rest is
pub models_step : (a : List ℕ) (l : List ℤ) (i e : ℕ) (r : Bool) → i < length l → e ≡ i + clause_length (drop i l)
    → r ≡ satisfied a (take (e - i) (drop i l)) → models a (clauses (drop i l)) ≡ r && models a (clauses (drop (e + 1) l))
models_step a l i e r h q s =
    ap (models a) (clauses_step l i e h q) ∙ ap (λ (b : Bool). b && models a (clauses (drop (e + 1) l))) (sym s)

pub models_past : (a : List ℕ) (l : List ℤ) (i : ℕ) → length l ≤ i → models a (clauses (drop i l)) ≡ true
models_past a l i h = rw (drop_of_length-le l h)

-- a clause holds the literal of a slot
pub slot_clause : (v b : ℕ) → b < 2 → (c : List ℤ) → any (is_at (2 * v + b)) c ≡ contains v b c
slot_clause v b h [] = refl
slot_clause v b h (x ∷ c) = ap₂ ◌||◌ (slot-literal v b h x) (slot_clause v b h c)
