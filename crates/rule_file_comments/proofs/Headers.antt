-- What follows from the definitions of specs/Headers.antt.
use Rattle.std.specs.Prelude.{◌≡◌, refl, Bool, true, false, cond, not, ◌&&◌, List, [], ◌∷◌, ◌++◌, ◌⊎◌, ℕ, suc, ◌+◌, ◌<◌, eqb, leb, ltb, length, get_or, drop, Option, None, Some}
use Rattle.std.proofs.Common.{sym, ap, ap₂, subst, ◌∙◌, true≢false, append_assoc, inl, inr, arith, length-append, get_or-drop, eqb-true, ltb-true}
use Rattle.std.proofs.Math.Bool.{and-false, and-eq-true_iff}
use Rattle.std.proofs.lemmas.Option.{none-some, same_Some}
use Rattle.std.proofs.lemmas.Bool.{not-true, not-false}
use Rattle.formula.specs.Formula.{all}
use Rattle.decimal.specs.Decimal.{number, is_digit, only_digits}
use Rattle.rule_file.specs.Format.{preamble, starts_with, without, before, beyond, Header, header, numbered}
use Rattle.rule_file.proofs.Laws.{leading_through, run_ends}
use Rattle.rule_file.proofs.RoundTrip.{header_parts}
use Rattle.rule_file_comments.specs.Lines.{ends_line}
use Rattle.rule_file_comments.specs.Headers.{HeaderOf}

-- the bytes of a header: its two fields
numbered-size : (o p : Option ℕ) (size : ℕ) (h : Header) → numbered o p size ≡ Some h → size ≡ h.size
numbered-size None p size h e = absurd (none-some h e)
numbered-size (Some n) None size h e = absurd (none-some h e)
numbered-size (Some n) (Some c) size h e =
    ap (λ (g : Header). g.size) (same_Some (record { variables = n; clauses = c; size = size }) h e)

module _ (s : List ℕ) (h : Header) (e : header s ≡ Some h) where
  abbrev n_bytes : List ℕ
  n_bytes = before 32 (drop 6 s)

  abbrev n_rest : List ℕ
  n_rest = beyond 32 (drop 6 s)

  abbrev c_bytes : List ℕ
  c_bytes = before 10 n_rest

  parts : (h.size ≡ 6 + (suc (length n_bytes) + suc (length c_bytes))) × (length c_bytes < length n_rest)
  parts = go (starts_with preamble s) (ltb (length c_bytes) (length n_rest)) refl e
    where
      size : ℕ
      size = 6 + (suc (length n_bytes) + suc (length c_bytes))

      go : (t u : Bool) → ltb (length c_bytes) (length n_rest) ≡ u → cond (t && u) (numbered (number n_bytes) (number c_bytes) size) None ≡ Some h
          → (h.size ≡ size) × (length c_bytes < length n_rest)
      go true true f g = (sym (numbered-size (number n_bytes) (number c_bytes) size h g), ltb-true (length c_bytes) (length n_rest) f)
      go true false f g = absurd (none-some h g)
      go false u f g = absurd (none-some h g)

  pub header-some : 0 < h.size
  header-some = omega (arith, parts.0)

  -- the last of them is a line feed
  pub header_feed : (k : ℕ) → h.size ≡ suc k → get_or s k 0 ≡ 10
  header_feed k f =
      let there : 6 + (suc (length n_bytes) + length c_bytes) ≡ k = omega (arith, parts.0) in
      let byte : get_or n_rest (length c_bytes) 0 ≡ get_or s k 0 =
      get_or-drop (suc (length n_bytes)) (drop 6 s) (length c_bytes) 0 ∙ get_or-drop 6 s (suc (length n_bytes) + length c_bytes) 0 ∙ ap (λ (j : ℕ). get_or s j 0) there in
      let ends : not (eqb (get_or n_rest (length c_bytes) 0) 10) ≡ false = run_ends (λ (b : ℕ). not (eqb b 10)) n_rest parts.1 in
      sym byte ∙ eqb-true (get_or n_rest (length c_bytes) 0) 10 (not-false (eqb (get_or n_rest (length c_bytes) 0) 10) ends)

-- bytes up to the first that is stop, and behind it
record Found (stop : ℕ) (s : List ℕ) : Type 0 where
  front : List ℕ
  back : List ℕ
  free : without stop front ≡ true
  split : s ≡ front ++ stop ∷ back

find : (stop : ℕ) (s : List ℕ) → Found stop s ⊎ (without stop s ≡ true)
find stop [] = inr refl
find stop (b ∷ s) = go (eqb b stop) refl (find stop s)
  where
    go : (t : Bool) → eqb b stop ≡ t → Found stop s ⊎ (without stop s ≡ true) → Found stop (b ∷ s) ⊎ (without stop (b ∷ s) ≡ true)
    go true e rest = inl (record { front = []; back = s; free = refl; split = ap (λ (k : ℕ). k ∷ s) (eqb-true b stop e) })
    go false e (inl f) = inl (record { front = b ∷ f.front; back = f.back; free = rw (e) f.free; split = ap (λ (l : List ℕ). b ∷ l) f.split })
    go false e (inr h) = inr (rw (e) h)

-- whole lines have a line feed
no_line : (f : List ℕ) → without 10 f ≡ true → ends_line false f ≡ true → ⊥
no_line [] h e = true≢false (sym e)
no_line (b ∷ f) h e =
    let parts = (and-eq-true_iff (not (eqb b 10)) (without 10 f)).0 h in
    no_line f parts.1 (ap (λ (t : Bool). ends_line t f) (sym (not-true (eqb b 10) parts.0)) ∙ e)

-- whether a line begins with some bytes is told by that line, and then the others stand behind them
record Behind (p w : List ℕ) : Type 0 where
  rest : List ℕ
  split : w ≡ p ++ rest

line_starts : (p w x : List ℕ) → without 10 p ≡ true → starts_with p (w ++ 10 ∷ x) ≡ starts_with p (w ++ 10 ∷ [])
line_starts [] w x h = refl
line_starts (q ∷ p) [] x h = rw (not-true (eqb q 10) ((and-eq-true_iff (not (eqb q 10)) (without 10 p)).0 h).0)
line_starts (q ∷ p) (b ∷ w) x h = ap (λ (t : Bool). eqb q b && t) (line_starts p w x ((and-eq-true_iff (not (eqb q 10)) (without 10 p)).0 h).1)

started : (p w : List ℕ) → without 10 p ≡ true → starts_with p (w ++ 10 ∷ []) ≡ true → Behind p w
started [] w h e = record { rest = w; split = refl }
started (q ∷ p) [] h e =
    let same = not-true (eqb q 10) ((and-eq-true_iff (not (eqb q 10)) (without 10 p)).0 h).0 in
    absurd (true≢false (sym ((and-eq-true_iff (eqb q 10) (starts_with p [])).0 e).0 ∙ same))
started (q ∷ p) (b ∷ w) h e =
    let parts = (and-eq-true_iff (eqb q b) (starts_with p (w ++ 10 ∷ []))).0 e in
    let later = started p w ((and-eq-true_iff (not (eqb q 10)) (without 10 p)).0 h).1 parts.1 in
    record { rest = later.rest; split = ap₂ (λ (k : ℕ) (l : List ℕ). k ∷ l) (sym (eqb-true q b parts.0)) later.split }

-- a first field that no space ends has a line feed in it, and is no number
line_feed_digits : (v y : List ℕ) → only_digits (v ++ 10 ∷ y) ≡ false
line_feed_digits [] y = refl
line_feed_digits (b ∷ v) y = rw (line_feed_digits v y) (and-false (is_digit b))

pub no_number : (w : List ℕ) → only_digits w ≡ false → number w ≡ None
no_number w e = rw (e, and-false (leb (length w) 5), and-false (leb 1 (length w)))

unnumbered : (t : Bool) (o p : Option ℕ) (size : ℕ) → o ≡ None → cond t (numbered o p size) None ≡ None
unnumbered true o p size e = rw e
unnumbered false o p size e = refl

field_open : (v x : List ℕ) → without 32 v ≡ true → header (preamble ++ (v ++ 10 ∷ x)) ≡ None
field_open v x h =
    let field : before 32 (v ++ 10 ∷ x) ≡ v ++ 10 ∷ before 32 x = leading_through (λ (b : ℕ). not (eqb b 32)) v (10 ∷ x) h in
    let n : List ℕ = before 32 (v ++ 10 ∷ x) in
    let rest : List ℕ = beyond 32 (v ++ 10 ∷ x) in
    let c : List ℕ = before 10 rest in
    unnumbered (ltb (length c) (length rest)) (number n) (number c) (6 + (suc (length n) + suc (length c)))
    (ap number field ∙ no_number (v ++ 10 ∷ before 32 x) (line_feed_digits v (before 32 x)))

absent : {f : List ℕ} → ((x : List ℕ) → header (f ++ x) ≡ None) → HeaderOf f
absent e = record { found = None; same = e; fits = λ h g. absurd (none-some h g) }

all_behind : (p : ℕ → Bool) (a : List ℕ) (b : ℕ) (e : List ℕ) → all p (a ++ b ∷ e) ≡ true → all p e ≡ true
all_behind p [] b e h = ((and-eq-true_iff (p b) (all p e)).0 h).1
all_behind p (x ∷ a) b e h = all_behind p a b e ((and-eq-true_iff (p x) (all p (a ++ b ∷ e))).0 h).1

-- the two fields of a line that begins with the preamble
fields : (v r : List ℕ) → without 10 v ≡ true → HeaderOf ((preamble ++ v) ++ 10 ∷ r)
fields v r h = go (find 32 v)
  where
    joined : (x : List ℕ) → ((preamble ++ v) ++ 10 ∷ r) ++ x ≡ preamble ++ (v ++ 10 ∷ (r ++ x))
    joined x = ap (λ (s : List ℕ). preamble ++ s) (append_assoc v (10 ∷ r) x)

    go : Found 32 v ⊎ (without 32 v ≡ true) → HeaderOf ((preamble ++ v) ++ 10 ∷ r)
    go (inr k) = absent (λ x. ap header (joined x) ∙ field_open v (r ++ x) k)
    go (inl f) =
        let a : List ℕ = f.front in
        let e : List ℕ = f.back in
        let size : ℕ = 6 + (suc (length a) + suc (length e)) in
        let free : without 10 e ≡ true = all_behind (λ (b : ℕ). not (eqb b 10)) a 32 e (ap (without 10) (sym f.split) ∙ h) in
        let apart : (x : List ℕ) → v ++ 10 ∷ (r ++ x) ≡ a ++ 32 ∷ (e ++ 10 ∷ (r ++ x)) =
        λ x. ap (λ (s : List ℕ). s ++ 10 ∷ (r ++ x)) f.split ∙ append_assoc a (32 ∷ e) (10 ∷ (r ++ x)) in
        record {
          found = numbered (number a) (number e) size;
          same = λ x. ap header (joined x ∙ ap (λ (s : List ℕ). preamble ++ s) (apart x)) ∙ header_parts a e (r ++ x) f.free free;
          fits = λ k g. omega (
            arith,
            numbered-size (number a) (number e) size k g,
            length-append v (10 ∷ r),
            ap length f.split,
            length-append a (32 ∷ e),
          );
        }

first_line : (w r : List ℕ) → without 10 w ≡ true → HeaderOf (w ++ 10 ∷ r)
first_line w r h = go (starts_with preamble (w ++ 10 ∷ [])) refl
  where
    go : (t : Bool) → starts_with preamble (w ++ 10 ∷ []) ≡ t → HeaderOf (w ++ 10 ∷ r)
    go false e =
        absent (λ x. ap header (append_assoc w (10 ∷ r) x) ∙ other (w ++ 10 ∷ (r ++ x)) (line_starts preamble w (r ++ x) refl ∙ e))
      where
        other : (s : List ℕ) → starts_with preamble s ≡ false → header s ≡ None
        other s f = rw f
    go true e =
        let b : Behind preamble w = started preamble w refl e in
        subst (λ (s : List ℕ). HeaderOf (s ++ 10 ∷ r)) (sym b.split) (fields b.rest r (ap (without 10) (sym b.split) ∙ h))

pub header_of : (f : List ℕ) → ends_line false f ≡ true → HeaderOf f
header_of f e = go (find 10 f)
  where
    go : Found 10 f ⊎ (without 10 f ≡ true) → HeaderOf f
    go (inl l) = subst HeaderOf (sym l.split) (first_line l.front l.back l.free)
    go (inr h) = absurd (no_line f h e)
