-- What the soundness test of a rule list says of its clauses: a list is sound exactly when it is the list form of a well-formed formula within the file's limits.
use Rattle.std.specs.Prelude.{◌≡◌, refl, Bool, true, false, cond, not, ◌&&◌, List, [], ◌∷◌, ◌++◌, ℕ, suc, ◌+◌, ◌≤◌, ◌<◌, leb, ltb, ℤ, pos, negsuc, length, Option, None, Some}
use Rattle.std.proofs.Common.{sym, ap, ◌∙◌, arith, leb-true, le-leb, ltb-true, lt-ltb, eqb-true}
use Rattle.std.proofs.lemmas.Bool.{false≢true}
use Rattle.literal.specs.Literal.{variable}
use Rattle.formula.specs.Formula.{closes, onto, clauses, literals}
use Rattle.limits.specs.Limits.{max_clauses, max_literals}
use Rattle.rule_list.specs.Sound.{SoundList, may_join, Scan, unread, stands, after, unclosed, bad_rule}
use Rattle.rule_list_soundness.specs.Flat.{flat, joining, well_formed}
use Rattle.rule_list_soundness.specs.Laws.{and_left, and_right, and_both, Joined, joined, joins, all_append, flat_append, clauses_formed, well_formed_more}

-- what a list that is sound for n is
pub record Sound (n : ℕ) (list : List ℤ) : Type 0 where
  pub closed : list ≡ flat (clauses list)
  pub formed : well_formed n (clauses list) ≡ true
  pub few : length (clauses list) ≤ max_clauses
  pub small : literals (clauses list) ≤ max_literals

-- what is left of a formula after the literals read of its first clause
abbrev going : ℕ → List ℤ → List (List ℤ) → Bool
going n read [] = not (unclosed read)
going n read (c ∷ f) = joining n read c && well_formed n f

whole : (n : ℕ) (f : List (List ℤ)) → going n [] f ≡ true → well_formed n f ≡ true
whole n [] e = refl
whole n (c ∷ f) e = e

-- the same, of what is left of a list after what s says was read
record Rest (n : ℕ) (s : Scan) (list : List ℤ) : Type 0 where
  closed : list ≡ flat (clauses list)
  formed : going n s.clause (clauses list) ≡ true
  few : s.clauses + length (clauses list) ≤ max_clauses
  small : s.literals + literals (clauses list) ≤ max_literals

-- a test that did not fail
passed : {A : Type 0} (b : Bool) (o : Option A) (x : A) → cond b o (Some x) ≡ None → (b ≡ true) × (o ≡ None)
passed true o x e = (refl, e)
passed false o x e = let z : ◌≡◌ {A = ℕ} 0 1 = cc in absurd (omega arith)

-- the end of a list
ended : (n : ℕ) (s : Scan) (i : ℕ) → s.clauses ≤ max_clauses → s.literals ≤ max_literals → bad_rule n s i [] ≡ None → Rest n s []
ended n s i hc hl e = record { closed = refl; formed = shut s.clause e; few = omega arith; small = omega arith }
  where
    shut : (c : List ℤ) → cond (unclosed c) (Some i) None ≡ None → not (unclosed c) ≡ true
    shut [] q = refl
    shut (x ∷ c) q = let z : ◌≡◌ {A = ℕ} 0 1 = cc in absurd (omega arith)

-- a closing 0, and what is left after it
closing : (n : ℕ) (s : Scan) (list : List ℤ) → Rest n (record { clauses = suc s.clauses; literals = s.literals; clause = [] }) list → Rest n s (pos 0 ∷ list)
closing n s list r =
    record {
      closed = ap (λ (l : List ℤ). pos 0 ∷ l) r.closed;
      formed = whole n (clauses list) r.formed;
      few = omega arith;
      small = omega arith;
    }

-- a literal in front of a formula
record Onto (n : ℕ) (read : List ℤ) (x : ℤ) (list : List ℤ) (f : List (List ℤ)) : Type 0 where
  closed : x ∷ list ≡ flat (onto x f)
  formed : going n read (onto x f) ≡ true
  few : length (onto x f) ≡ length f
  small : literals (onto x f) ≡ suc (literals f)

in_front : (n : ℕ) (read : List ℤ) (x : ℤ) (list : List ℤ) (f : List (List ℤ)) → closes x ≡ false → leb (variable x) n && may_join read x ≡ true
    → list ≡ flat f → going n (x ∷ read) f ≡ true → Onto n read x list f
in_front n read x list [] e m q g = absurd (false≢true g)
in_front n read x list (c ∷ f) e m q g =
    record {
      closed = ap (λ (l : List ℤ). x ∷ l) q;
      formed =
          and_both (joining n read (x ∷ c)) (well_formed n f)
          (joins n read x c
          (record {
            literal = e;
            range = leb-true (variable x) n (and_left (leb (variable x) n) (may_join read x) m);
            apart = and_right (leb (variable x) n) (may_join read x) m;
            rest = and_left (joining n (x ∷ read) c) (well_formed n f) g;
          }))
          (and_right (joining n (x ∷ read) c) (well_formed n f) g);
      few = refl;
      small = omega arith;
    }

literal : (n : ℕ) (s : Scan) (x : ℤ) (list : List ℤ) → closes x ≡ false → leb (variable x) n && may_join s.clause x ≡ true
    → Rest n (record { clauses = s.clauses; literals = suc s.literals; clause = x ∷ s.clause }) list → Rest n s (x ∷ list)
literal n s x list e m r =
    let o : Onto n s.clause x list (clauses list) = in_front n s.clause x list (clauses list) e m r.closed r.formed in
    let q : clauses (x ∷ list) ≡ onto x (clauses list) = rw e in
    record {
      closed = o.closed ∙ sym (ap flat q);
      formed = ap (going n s.clause) q ∙ o.formed;
      few = omega (arith, ap length q);
      small = omega (arith, ap literals q);
    }

-- what may come next is a 0 that closes, or a literal
stands-zero : (n : ℕ) (s : Scan) → stands n s (pos 0) ≡ true → s.clauses < max_clauses
stands-zero n s h = ltb-true s.clauses max_clauses h

is_zero : (x : ℤ) → closes x ≡ true → x ≡ pos 0
is_zero (pos k) e = ap pos (eqb-true k 0 e)
is_zero (negsuc k) e = absurd (omega (arith, eqb-true (suc k) 0 e))

rest : (n : ℕ) (list : List ℤ) (s : Scan) (i : ℕ) → s.clauses ≤ max_clauses → s.literals ≤ max_literals → bad_rule n s i list ≡ None → Rest n s list
rest n [] s i hc hl e = ended n s i hc hl e
rest n (x ∷ list) s i hc hl e = step (closes x) refl (passed (stands n s x) (bad_rule n (after s x) (suc i) list) i e) (rest n list)
  where
    step : (b : Bool) → closes x ≡ b → (stands n s x ≡ true) × (bad_rule n (after s x) (suc i) list ≡ None)
        → ((t : Scan) (j : ℕ) → t.clauses ≤ max_clauses → t.literals ≤ max_literals → bad_rule n t j list ≡ None → Rest n t list) → Rest n s (x ∷ list)
    step true q h ih =
        let z : x ≡ pos 0 = is_zero x q in
        let t : stands n s (pos 0) ≡ true = rw z at h.0 in
        let u : bad_rule n (after s (pos 0)) (suc i) list ≡ None = rw z at h.1 in
        rw z (closing n s list (ih (after s (pos 0)) (suc i) (stands-zero n s t) hl u))
    step false q h ih =
        let u : leb (variable x) n && (ltb s.literals max_literals && may_join s.clause x) ≡ true = rw q at h.0 in
        let v : ltb s.literals max_literals && may_join s.clause x ≡ true = and_right (leb (variable x) n) (ltb s.literals max_literals && may_join s.clause x) u in
        let w : leb (variable x) n ≡ true = and_left (leb (variable x) n) (ltb s.literals max_literals && may_join s.clause x) u in
        let a : Scan = record { clauses = s.clauses; literals = suc s.literals; clause = x ∷ s.clause } in
        literal n s x list q
        (and_both (leb (variable x) n) (may_join s.clause x) w (and_right (ltb s.literals max_literals) (may_join s.clause x) v))
        (ih a (suc i) hc
        (ltb-true s.literals max_literals (and_left (ltb s.literals max_literals) (may_join s.clause x) v))
        (rw q at h.1))

-- a clause that stands is read to its end
through : (n : ℕ) (c : List ℤ) (s : Scan) (i : ℕ) (list : List ℤ) → joining n s.clause c ≡ true → s.clauses < max_clauses → s.literals + length c ≤ max_literals
    → ((k j : ℕ) → k ≡ s.literals + length c → bad_rule n (record { clauses = suc s.clauses; literals = k; clause = [] }) j list ≡ None)
    → bad_rule n s i (c ++ pos 0 ∷ list) ≡ None
through n [] s i list e hc hl next = rw (lt-ltb s.clauses max_clauses hc) (next s.literals (suc i) (omega arith))
through n (x ∷ c) s i list e hc hl next =
    let j : Joined n s.clause x c = joined n s.clause x c e in
    rw (j.literal, le-leb (variable x) n j.range, lt-ltb s.literals max_literals (omega arith), j.apart)
    (through n c (record { clauses = s.clauses; literals = suc s.literals; clause = x ∷ s.clause }) (suc i) list j.rest hc (omega arith)
    (λ (k m : ℕ) (q : k ≡ suc s.literals + length c). next k m (omega arith)))

formula : (n : ℕ) (f : List (List ℤ)) (c l i : ℕ) → well_formed n f ≡ true → c + length f ≤ max_clauses → l + literals f ≤ max_literals
    → bad_rule n (record { clauses = c; literals = l; clause = [] }) i (flat f) ≡ None
formula n [] c l i e hc hl = refl
formula n (d ∷ f) c l i e hc hl =
    through n d (record { clauses = c; literals = l; clause = [] }) i (flat f) (and_left (joining n [] d) (well_formed n f) e) (omega arith) (omega arith)
    (λ (k j : ℕ) (q : k ≡ l + length d). formula n f (suc c) k j (and_right (joining n [] d) (well_formed n f) e) (omega arith) (omega arith))

-- A list that passes the test is the list form of its clauses, which are well-formed over n and within the limits of the file.
pub sound : (n : ℕ) (list : List ℤ) → SoundList n list → Sound n list
sound n list e =
    let r : Rest n unread list = rest n list unread 0 (omega arith) (omega arith) e in
    record { closed = r.closed; formed = whole n (clauses list) r.formed; few = omega arith; small = omega arith }

-- And the list form of every formula that is well-formed over n and within those limits passes the test.
pub flat_sound : (n : ℕ) (f : List (List ℤ)) → well_formed n f ≡ true → length f ≤ max_clauses → literals f ≤ max_literals → SoundList n (flat f)
flat_sound n f e hc hl = formula n f 0 0 0 e (omega arith) (omega arith)

-- A formula behind a sound list: its clauses come after the list's own.
pub behind : (n : ℕ) (list : List ℤ) (f : List (List ℤ)) → Sound n list → list ++ flat f ≡ flat (clauses list ++ f)
behind n list f s = ap (λ (l : List ℤ). l ++ flat f) s.closed ∙ sym (flat_append (clauses list) f)

pub clauses-behind : (n m : ℕ) (list : List ℤ) (f : List (List ℤ)) → Sound n list → n ≤ m → well_formed m f ≡ true → clauses (list ++ flat f) ≡ clauses list ++ f
clauses-behind n m list f s h e =
    ap clauses (behind n list f s)
    ∙ clauses_formed m (clauses list ++ f)
    (all_append (joining m []) (clauses list) f ∙ and_both (well_formed m (clauses list)) (well_formed m f) (well_formed_more n m (clauses list) h s.formed) e)
