-- The laws of the list form.
use Rattle.std.specs.Prelude.{◌≡◌, refl, Bool, true, false, not, ◌&&◌, ◌||◌, List, [], ◌∷◌, ◌++◌, ℕ, ◌+◌, ◌≤◌, leb, eqb, ℤ, pos, length}
use Rattle.std.proofs.Common.{sym, ap, ap₂, ◌∙◌, append_assoc, arith, length-append, leb-true, le-leb, ne_eqb}
use Rattle.std.proofs.lemmas.Bool.{false≢true, not-true}
use Rattle.literal.specs.Literal.{variable, value, wanted}
use Rattle.formula.specs.Formula.{all, closes, onto, clauses, literals, satisfied, models}
use Rattle.rule_list.specs.Sound.{may_join}
use Rattle.rule_list_soundness.specs.Flat.{flat, zero_free, joining, well_formed}

-- both halves of a conjunction, and back
pub and_left : (b c : Bool) → b && c ≡ true → b ≡ true
and_left true c h = refl
and_left false c h = h

pub and_right : (b c : Bool) → b && c ≡ true → c ≡ true
and_right true c h = h
and_right false c h = absurd (false≢true h)

pub and_both : (b c : Bool) → b ≡ true → c ≡ true → b && c ≡ true
and_both b c h k = rw (h, k)

-- a test of every element of two lists, one after the other
pub all_append {ℓ} : {A : Type ℓ} (p : A → Bool) (f g : List A) → all p (f ++ g) ≡ all p f && all p g
all_append p [] g = refl
all_append p (c ∷ f) g = step (p c) (all_append p f g)
  where
    step : (b : Bool) → all p (f ++ g) ≡ all p f && all p g → b && all p (f ++ g) ≡ (b && all p f) && all p g
    step true ih = ih
    step false ih = refl

-- a test that follows from another
pub all_weaken {ℓ} : {A : Type ℓ} (p q : A → Bool) → ((x : A) → p x ≡ true → q x ≡ true) → (f : List A) → all p f ≡ true → all q f ≡ true
all_weaken p q h [] e = refl
all_weaken p q h (x ∷ f) e =
    and_both (q x) (all q f) (h x (and_left (p x) (all p f) e)) (all_weaken p q h f (and_right (p x) (all p f) e))

pub flat_append : (f g : List (List ℤ)) → flat (f ++ g) ≡ flat f ++ flat g
flat_append [] g = refl
flat_append (c ∷ f) g = ap (λ (l : List ℤ). c ++ pos 0 ∷ l) (flat_append f g) ∙ sym (append_assoc c (pos 0 ∷ flat f) (flat g))

pub length-flat : (f : List (List ℤ)) → length (flat f) ≡ literals f + length f
length-flat [] = refl
length-flat (c ∷ f) = omega (arith, length-append c (pos 0 ∷ flat f), length-flat f)

pub literals-append : (f g : List (List ℤ)) → literals (f ++ g) ≡ literals f + literals g
literals-append [] g = omega arith
literals-append (c ∷ f) g = omega (arith, literals-append f g)

-- the first clause read back, and then the rest
clause_back : (c : List ℤ) (l : List ℤ) → all (λ (x : ℤ). not (closes x)) c ≡ true → clauses (c ++ pos 0 ∷ l) ≡ c ∷ clauses l
clause_back [] l h = refl
clause_back (x ∷ c) l h =
    rw (not-true (closes x) (and_left (not (closes x)) (all (λ (y : ℤ). not (closes y)) c) h))
    (ap (onto x) (clause_back c l (and_right (not (closes x)) (all (λ (y : ℤ). not (closes y)) c) h)))

-- a formula is what its list form holds
pub clauses-flat : (f : List (List ℤ)) → zero_free f ≡ true → clauses (flat f) ≡ f
clauses-flat [] h = refl
clauses-flat (c ∷ f) h =
    clause_back c (flat f) (and_left (all (λ (x : ℤ). not (closes x)) c) (zero_free f) h)
    ∙ ap (λ (g : List (List ℤ)). c ∷ g) (clauses-flat f (and_right (all (λ (x : ℤ). not (closes x)) c) (zero_free f) h))

-- what a clause with a first literal that may join says of that literal, and of the rest
pub record Joined (n : ℕ) (read : List ℤ) (x : ℤ) (c : List ℤ) : Type 0 where
  pub literal : closes x ≡ false
  pub range : variable x ≤ n
  pub apart : may_join read x ≡ true
  pub rest : joining n (x ∷ read) c ≡ true

pub joined : (n : ℕ) (read : List ℤ) (x : ℤ) (c : List ℤ) → joining n read (x ∷ c) ≡ true → Joined n read x c
joined n read x c h =
    let may : not (closes x) && (leb (variable x) n && may_join read x) ≡ true = and_left _ (joining n (x ∷ read) c) h in
    let fits : leb (variable x) n && may_join read x ≡ true = and_right (not (closes x)) _ may in
    record {
      literal = not-true (closes x) (and_left (not (closes x)) _ may);
      range = leb-true (variable x) n (and_left (leb (variable x) n) _ fits);
      apart = and_right (leb (variable x) n) (may_join read x) fits;
      rest = and_right (not (closes x) && (leb (variable x) n && may_join read x)) (joining n (x ∷ read) c) h;
    }

pub joins : (n : ℕ) (read : List ℤ) (x : ℤ) (c : List ℤ) → Joined n read x c → joining n read (x ∷ c) ≡ true
joins n read x c h = rw (h.literal, le-leb (variable x) n h.range, h.apart, h.rest)

-- a literal joins where its variable is new
pub may_join_new : (u : ℤ) (read : List ℤ) (x : ℤ) → (variable x ≡ variable u → ⊥) → may_join read x ≡ true → may_join (u ∷ read) x ≡ true
may_join_new u read x h e = rw (ne_eqb (variable u) (variable x) (λ (q : variable u ≡ variable x). h (sym q))) e

-- a clause over n variables is one over more, and holds no 0
pub joining_more : (n m : ℕ) (read c : List ℤ) → n ≤ m → joining n read c ≡ true → joining m read c ≡ true
joining_more n m read [] h e = refl
joining_more n m read (x ∷ c) h e =
    let j : Joined n read x c = joined n read x c e in
    joins m read x c
    (record { literal = j.literal; range = omega arith; apart = j.apart; rest = joining_more n m (x ∷ read) c h j.rest })

joining-zero_free : (n : ℕ) (read c : List ℤ) → joining n read c ≡ true → all (λ (x : ℤ). not (closes x)) c ≡ true
joining-zero_free n read [] e = refl
joining-zero_free n read (x ∷ c) e =
    let j : Joined n read x c = joined n read x c e in
    rw (j.literal, joining-zero_free n (x ∷ read) c j.rest)

-- and so is a formula
pub well_formed_more : (n m : ℕ) (f : List (List ℤ)) → n ≤ m → well_formed n f ≡ true → well_formed m f ≡ true
well_formed_more n m f h = all_weaken (joining n []) (joining m []) (λ (c : List ℤ). joining_more n m [] c h) f

pub well_formed-zero_free : (n : ℕ) (f : List (List ℤ)) → well_formed n f ≡ true → zero_free f ≡ true
well_formed-zero_free n f = all_weaken (joining n []) (all (λ (x : ℤ). not (closes x))) (joining-zero_free n []) f

pub clauses_formed : (n : ℕ) (f : List (List ℤ)) → well_formed n f ≡ true → clauses (flat f) ≡ f
clauses_formed n f e = clauses-flat f (well_formed-zero_free n f e)

-- what a formula over n variables says rests on the values of these alone
pub satisfied_by_values : (n : ℕ) (a b : List ℕ) → ((v : ℕ) → v ≤ n → value a v ≡ value b v) → (read c : List ℤ) → joining n read c ≡ true → satisfied a c ≡ satisfied b c
satisfied_by_values n a b h read [] e = refl
satisfied_by_values n a b h read (x ∷ c) e =
    let j : Joined n read x c = joined n read x c e in
    ap₂ ◌||◌ (ap (λ (w : ℕ). eqb w (wanted x)) (h (variable x) j.range)) (satisfied_by_values n a b h (x ∷ read) c j.rest)

pub models_by_values : (n : ℕ) (a b : List ℕ) → ((v : ℕ) → v ≤ n → value a v ≡ value b v) → (f : List (List ℤ)) → well_formed n f ≡ true → models a f ≡ models b f
models_by_values n a b h [] e = refl
models_by_values n a b h (c ∷ f) e =
    ap₂ ◌&&◌
    (satisfied_by_values n a b h [] c (and_left (joining n [] c) (well_formed n f) e))
    (models_by_values n a b h f (and_right (joining n [] c) (well_formed n f) e))
