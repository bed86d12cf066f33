-- A clause of a closed list, told by the index at which it begins, and how it is read from there.
use Rattle.std.specs.Prelude.{◌≡◌, refl, Bool, true, false, ◌&&◌, List, [], ◌∷◌, ℕ, ◌+◌, ◌-◌, ◌≤◌, ◌<◌, ℤ, pos, length, get_or, take, drop}
use Rattle.std.proofs.Common.{sym, ap, ◌∙◌, add-one, arith, drop-cons}
use mir.Syntax.{w32}
use mir.Val.{SFits}
use Rattle.literal.specs.Literal.{closes, holds}
use Rattle.formula.specs.Formula.{any, clauses, clause_length, models}
use Rattle.formula.specs.Laws.{length-closed, length-literal, length_past, clauses_step}

-- the literals from index i up to the 0 that closes them
abbrev pub clause_at : ℕ → List ℤ → List ℤ
clause_at i l = take (clause_length (drop i l)) (drop i l)

module _ (l : List ℤ) (i : ℕ) where
  -- at a literal, at the closing 0, and past the end
  pub at_literal : i < length l → closes (get_or l i (pos 0)) ≡ false → clause_at i l ≡ get_or l i (pos 0) ∷ clause_at (i + 1) l
  at_literal h e = rw (length-literal l i h e, drop-cons l i (pos 0) h, add-one i)

  pub at_closed : i < length l → closes (get_or l i (pos 0)) ≡ true → clause_at i l ≡ []
  at_closed h e = rw (length-closed l i h e)

  pub at_past : length l ≤ i → clause_at i l ≡ []
  at_past h = rw (length_past l i h)

  -- the part of the list from i to the clause's end e is that clause
  module _ (e : ℕ) (q : e ≡ i + clause_length (drop i l)) where
    pub clause_at_lem : take (e - i) (drop i l) ≡ clause_at i l
    clause_at_lem = let n : e - i ≡ clause_length (drop i l) = omega arith in ap (λ (k : ℕ). take k (drop i l)) n

    pub clauses_at : i < length l → clauses (drop i l) ≡ clause_at i l ∷ clauses (drop (e + 1) l)
    clauses_at h = clauses_step l i e h q ∙ ap (λ (c : List ℤ). c ∷ clauses (drop (e + 1) l)) clause_at_lem

-- where the clause that begins at `from` ends, and whether one of its literals passes a test
pub record Tested (p : ℤ → Bool) (l : List ℤ) (from end : ℕ) (r : Bool) : Type 0 where
  pub ends : end ≡ from + clause_length (drop from l)
  pub verdict : r ≡ any p (clause_at from l)

-- a test of the code says what p does, of each number that the code can hold
abbrev pub Decides : (ℤ → Bool → Type 0) → (ℤ → Bool) → Type 0
Decides says p = (x : ℤ) → SFits w32 x → (r : Bool) → says x r → r ≡ p x

-- while it is read: no literal before i does
pub record Passing (p : ℤ → Bool) (l : List ℤ) (from i : ℕ) : Type 0 where
  pub far : from + clause_length (drop from l) ≡ i + clause_length (drop i l)
  pub none : any p (clause_at from l) ≡ any p (clause_at i l)

pub passing_start : (p : ℤ → Bool) (l : List ℤ) (from : ℕ) → Passing p l from from
passing_start p l from = record { far = refl; none = refl }

module _ (p : ℤ → Bool) (l : List ℤ) (from i : ℕ) (s : Passing p l from i) where
  -- the clause's end
  pub passing_closed : i < length l → closes (get_or l i (pos 0)) ≡ true → Tested p l from i false
  passing_closed h z =
      record { ends = omega (arith, s.far, length-closed l i h z); verdict = sym (s.none ∙ ap (any p) (at_closed l i h z)) }

  pub passing_past : length l ≤ i → Tested p l from i false
  passing_past h =
      record { ends = omega (arith, s.far, length_past l i h); verdict = sym (s.none ∙ ap (any p) (at_past l i h)) }

  module _ (h : i < length l) (literal : closes (get_or l i (pos 0)) ≡ false) where
    next : any p (clause_at from l) ≡ any p (get_or l i (pos 0) ∷ clause_at (i + 1) l)
    next = s.none ∙ ap (any p) (at_literal l i h literal)

    -- a literal that passes the test: the end is looked for after it
    pub passing_found : p (get_or l i (pos 0)) ≡ true → (e : ℕ) → e ≡ i + 1 + clause_length (drop (i + 1) l) → Tested p l from e true
    passing_found t e q = record { ends = omega (arith, s.far, length-literal l i h literal); verdict = sym (next ∙ rw t) }

    -- and one that does not
    pub passing_next : p (get_or l i (pos 0)) ≡ false → Passing p l from (i + 1)
    passing_next t = record { far = omega (arith, s.far, length-literal l i h literal); none = next ∙ rw t }

-- an assignment satisfies the formula where it satisfies the clause, which r says, and the rest
pub tested_models : (a : List ℕ) (l : List ℤ) (from end : ℕ) (r : Bool) → Tested (holds a) l from end r → from < length l
    → models a (clauses (drop from l)) ≡ r && models a (clauses (drop (end + 1) l))
tested_models a l from end r t h =
    ap (models a) (clauses_at l from end t.ends h) ∙ ap (λ (b : Bool). b && models a (clauses (drop (end + 1) l))) (sym t.verdict)
