-- The equations by which proofs read a header, byte by byte.
use Rattle.std.specs.Prelude.{◌≡◌, refl, Bool, true, false, cond, not, ◌&&◌, List, [], ◌∷◌, ℕ, suc, ◌+◌, ◌-◌, ◌≤◌, ◌<◌, eqb, ltb, length, get_or, take, drop, Option, None, Some}
use Rattle.std.proofs.Common.{sym, ap, ◌∙◌, not-suc-le-zero, add-one, arith, drop_of_length-le, length-take, length-drop, drop-cons, drop-drop, length-take-le, lt-ltb, le-ltb, eq-eqb, ne_eqb}
use Rattle.std.specs.Cmp.Lexicographic.{pointwise}
use Rattle.std.proofs.Math.Bool.{and-false}
use Rattle.decimal.specs.Decimal.{number}
use Rattle.rule_file.specs.Class.{letter_c, class_of}
use Rattle.rule_file.specs.Format.{past_comments, preamble, starts_with, before, beyond, Header, header, numbered}
use Rattle.rule_file_header.specs.Header.{header_as}
use Rattle.rule_file.proofs.Laws.{run_inside, run_take}

-- comment lines: a line that begins with c, one that does not, a byte inside, a line feed, the end
module _ (s : List ℕ) (i : ℕ) (h : i < length s) where
  pub comment_begins : class_of (get_or s i 0) ≡ letter_c → past_comments false i (drop i s) ≡ past_comments true (i + 1) (drop (i + 1) s)
  comment_begins e = rw (drop-cons s i 0 h, eq-eqb (class_of (get_or s i 0)) letter_c e, add-one i)

  pub comments_done : (class_of (get_or s i 0) ≡ letter_c → ⊥) → past_comments false i (drop i s) ≡ i
  comments_done e = rw (drop-cons s i 0 h, ne_eqb (class_of (get_or s i 0)) letter_c e)

  pub comment_goes_on : (b : Bool) → not (eqb (get_or s i 0) 10) ≡ b → past_comments true i (drop i s) ≡ past_comments b (i + 1) (drop (i + 1) s)
  comment_goes_on b e =
      rw (drop-cons s i 0 h)
      (ap (λ (t : Bool). past_comments t (suc i) (drop (suc i) s)) e ∙ ap (λ (j : ℕ). past_comments b j (drop j s)) (sym (add-one i)))

pub comments_end : (inside : Bool) (s : List ℕ) (i : ℕ) → length s ≤ i → past_comments inside i (drop i s) ≡ i
comments_end inside s i h = rw (drop_of_length-le s h)

-- the preamble byte by byte: too few bytes, one that agrees, one that does not
pub starts_short : (p s : List ℕ) → length s < length p → starts_with p s ≡ false
starts_short [] s h = absurd (not-suc-le-zero h)
starts_short (x ∷ p) [] h = refl
starts_short (x ∷ p) (b ∷ s) h = rw (starts_short p s (omega arith)) (and-false (eqb x b))

module _ (p s : List ℕ) (at i : ℕ) (hp : i < length p) (hs : at + i < length s) where
  pub starts_agree : get_or s (at + i) 0 ≡ get_or p i 0 → starts_with (drop i p) (drop (at + i) s) ≡ starts_with (drop (i + 1) p) (drop (at + (i + 1)) s)
  starts_agree e =
      let next : suc (at + i) ≡ at + suc i = omega arith in
      rw (drop-cons p i 0 hp, drop-cons s (at + i) 0 hs, eq-eqb (get_or p i 0) (get_or s (at + i) 0) (sym e), add-one i, next)

  pub starts_differ : (get_or s (at + i) 0 ≡ get_or p i 0 → ⊥) → starts_with (drop i p) (drop (at + i) s) ≡ false
  starts_differ e =
      rw (drop-cons p i 0 hp, drop-cons s (at + i) 0 hs, ne_eqb (get_or p i 0) (get_or s (at + i) 0) (λ f. e (sym f)))

-- the preamble, as the slice's own test takes it
pub starts_pointwise : (p s : List ℕ) → pointwise eqb p (take (length p) s) ≡ starts_with p s
starts_pointwise [] s = refl
starts_pointwise (x ∷ p) [] = refl
starts_pointwise (x ∷ p) (b ∷ s) = ap (λ (t : Bool). eqb x b && t) (starts_pointwise p s)

-- the answers, by the two numbers
module _ (at size : ℕ) (n c : List ℕ) where
  pub n_malformed : number n ≡ None → header_as at (numbered (number n) (number c) size) ≡ None
  n_malformed e = rw e

  pub c_malformed : (v : ℕ) → number n ≡ Some v → number c ≡ None → header_as at (numbered (number n) (number c) size) ≡ None
  c_malformed v e f = rw (e, f)

  pub both_read : (v k : ℕ) → number n ≡ Some v → number c ≡ Some k → header_as at (numbered (number n) (number c) size) ≡ Some (record { variables = v; clauses = k; next = at + size })
  both_read v k e f = rw (e, f)

-- the header of the bytes from a place on, by the places of its two numbers
module _ (s : List ℕ) (at n-end c-end : ℕ)
    (n-ends : n-end ≡ at + 6 + length (before 32 (drop (at + 6) s)))
    (c-ends : c-end ≡ n-end + 1 + length (before 10 (drop (n-end + 1) s))) where
  abbrev n_part : List ℕ
  n_part = take (n-end - (at + 6)) (drop (at + 6) s)

  abbrev c_part : List ℕ
  c_part = take (c-end - (n-end + 1)) (drop (n-end + 1) s)

  six : drop 6 (drop at s) ≡ drop (at + 6) s
  six = drop-drop 6 at s

  n_size : length (before 32 (drop (at + 6) s)) ≡ n-end - (at + 6)
  n_size = omega arith

  n_is : before 32 (drop 6 (drop at s)) ≡ n_part
  n_is =
      ap (before 32) six
      ∙ sym (run_take (λ (b : ℕ). not (eqb b 32)) (drop (at + 6) s))
      ∙ ap (λ (k : ℕ). take k (drop (at + 6) s)) n_size

  rest_is : beyond 32 (drop 6 (drop at s)) ≡ drop (n-end + 1) s
  rest_is =
      let k : ℕ = length (before 32 (drop (at + 6) s)) in
      let next : at + 6 + suc k ≡ n-end + 1 = omega arith in
      ap (beyond 32) six ∙ drop-drop (suc k) (at + 6) s ∙ ap (λ (j : ℕ). drop j s) next

  c_is : before 10 (beyond 32 (drop 6 (drop at s))) ≡ c_part
  c_is =
      let size : length (before 10 (drop (n-end + 1) s)) ≡ c-end - (n-end + 1) = omega arith in
      ap (before 10) rest_is
      ∙ sym (run_take (λ (b : ℕ). not (eqb b 10)) (drop (n-end + 1) s))
      ∙ ap (λ (k : ℕ). take k (drop (n-end + 1) s)) size

  abbrev filled : List ℕ → List ℕ → List ℕ → Option Header
  filled n rest c =
      cond (starts_with preamble (drop at s) && ltb (length c) (length rest)) (numbered (number n) (number c) (6 + (suc (length n) + suc (length c)))) None

  parts : header (drop at s) ≡ filled n_part (drop (n-end + 1) s) c_part
  parts = λ i. filled (n_is i) (rest_is i) (c_is i)

  pub header_at : starts_with preamble (drop at s) ≡ true → c-end < length s
      → header (drop at s) ≡ numbered (number n_part) (number c_part) (c-end + 1 - at)
  header_at e h =
      let inside : length c_part < length (drop (n-end + 1) s) =
      omega (arith, length-take (c-end - (n-end + 1)) (drop (n-end + 1) s), length-drop (n-end + 1) s) in
      let n-long : length n_part ≡ n-end - (at + 6) = length-take-le (n-end - (at + 6)) (drop (at + 6) s) (omega (arith, length-drop (at + 6) s)) in
      let c-long : length c_part ≡ c-end - (n-end + 1) = length-take-le (c-end - (n-end + 1)) (drop (n-end + 1) s) (omega (arith, length-drop (n-end + 1) s)) in
      let size : 6 + (suc (length n_part) + suc (length c_part)) ≡ c-end + 1 - at = omega (arith, n-long, c-long) in
      parts ∙ rw (e, lt-ltb (length c_part) (length (drop (n-end + 1) s)) inside, size)

  -- the answer, by the two numbers
  module _ (e : starts_with preamble (drop at s) ≡ true) (h : c-end < length s) where
    answer : header_as at (header (drop at s)) ≡ header_as at (numbered (number n_part) (number c_part) (c-end + 1 - at))
    answer = ap (header_as at) (header_at e h)

    pub no-n : number n_part ≡ None → header_as at (header (drop at s)) ≡ None
    no-n f = answer ∙ n_malformed at (c-end + 1 - at) n_part c_part f

    pub no-c : (v : ℕ) → number n_part ≡ Some v → number c_part ≡ None → header_as at (header (drop at s)) ≡ None
    no-c v f g = answer ∙ c_malformed at (c-end + 1 - at) n_part c_part v f g

    pub both_there : (v k : ℕ) → number n_part ≡ Some v → number c_part ≡ Some k
        → header_as at (header (drop at s)) ≡ Some (record { variables = v; clauses = k; next = c-end + 1 })
    both_there v k f g =
        let next : at + (c-end + 1 - at) ≡ c-end + 1 = omega arith in
        answer
        ∙ both_read at (c-end + 1 - at) n_part c_part v k f g
        ∙ ap (λ (j : ℕ). Some (record { variables = v; clauses = k; next = j })) next

  pub header_open : length s ≤ c-end → header (drop at s) ≡ None
  header_open h =
      let outside : length (drop (n-end + 1) s) ≤ length c_part =
      omega (arith, length-take (c-end - (n-end + 1)) (drop (n-end + 1) s), length-drop (n-end + 1) s) in
      parts ∙ rw (le-ltb (length c_part) (length (drop (n-end + 1) s)) outside, and-false (starts_with preamble (drop at s)))

pub header-other : (s : List ℕ) → starts_with preamble s ≡ false → header s ≡ None
header-other s e = rw e

-- a field ends inside the bytes, or where it begins
pub field-most : (stop : ℕ) (s : List ℕ) (from end : ℕ) → end ≡ from + length (before stop (drop from s)) → end ≤ from + (length s - from)
field-most stop s from end e = omega (arith, run_inside (λ (b : ℕ). not (eqb b stop)) (drop from s), length-drop from s)
