-- The laws of adding a weight at each literal of a clause, and of marking its variables.
use Rattle.std.specs.Prelude.{◌≡◌, refl, Bool, true, false, cond, not, ◌||◌, List, ◌∷◌, ℕ, ◌+◌, ◌≤◌, ◌<◌, eqb, ℤ, pos, length, get_or, drop, set}
use Rattle.std.proofs.Common.{sym, ap, ap₂, ◌∙◌, add-one, arith, length-set, drop_of_length-le, drop-cons, get_or-set_same, get_or-set_other, eq-eqb, ne_eqb}
use Rattle.std.proofs.Math.Bool.{or-true, or-false, and-eq-true_iff}
use Rattle.std.proofs.Common.{ltb, ltb-true, ltb-false}
use Rattle.std.proofs.Math.Decide.{ℕ_discrete}
use Rattle.std.proofs.Math.ListN.{get_or-eq_default}
use Rattle.std.proofs.lemmas.Bool.{not-true}
use Rattle.literal.specs.Literal.{variable}
use Rattle.literal.specs.Slots.{slot, is_at}
use Rattle.formula.specs.Formula.{any}
use Rattle.walk.specs.Branching.{is_of, mentions}
use Rattle.walk_weighing.specs.Weights.{is_marked, distinct}

-- the literals of c before index k have been added to the weights: what is there and what is still to come is what was there and all of it
pub record Adding (c : List ℤ) (w : ℕ) (before now : List ℕ) (k : ℕ) : Type 0 where
  pub lengths : length now ≡ length before
  pub once : distinct (drop k c) ≡ true
  pub sums : (i : ℕ) → get_or now i 0 + cond (any (is_at i) (drop k c)) w 0 ≡ get_or before i 0 + cond (any (is_at i) c) w 0

pub adding_start : (c : List ℤ) (w : ℕ) (before : List ℕ) → distinct c ≡ true → Adding c w before before 0
adding_start c w before h = record { lengths = refl; once = h; sums = λ i. refl }

module _ (c : List ℤ) (w : ℕ) (before now : List ℕ) (k : ℕ) (s : Adding c w before now k) (h : k < length c) where
  abbrev x : ℤ
  x = get_or c k (pos 0)

  abbrev rest : List ℤ
  rest = drop (k + 1) c

  split : drop k c ≡ x ∷ rest
  split = rw (drop-cons c k (pos 0) h, add-one k)

  parts : (not (any (is_at (slot x)) rest) ≡ true) × (distinct rest ≡ true)
  parts =
      (and-eq-true_iff (not (any (is_at (slot x)) rest)) (distinct rest)).0 (sym (ap distinct split) ∙ s.once)

  -- what is there at the next literal's slot and the weight are no more than what was there and the weight
  pub adding_fits : get_or now (slot x) 0 + w ≤ get_or before (slot x) 0 + w
  adding_fits =
      let here : any (is_at (slot x)) (drop k c) ≡ true = ap (any (is_at (slot x))) split ∙ ap (λ (b : Bool). b || any (is_at (slot x)) rest) (eq-eqb (slot x) (slot x) refl) in
      let sum : get_or now (slot x) 0 + w ≡ get_or before (slot x) 0 + cond (any (is_at (slot x)) c) w 0 = sym (ap (λ (b : Bool). get_or now (slot x) 0 + cond b w 0) here) ∙ s.sums (slot x) in
      omega (arith, sum, most (any (is_at (slot x)) c))
    where
      most : (b : Bool) → cond b w 0 ≤ w
      most true = omega arith
      most false = omega arith

  pub adding_next : slot x < length now → Adding c w before (set now (slot x) (get_or now (slot x) 0 + w)) (k + 1)
  adding_next l =
      record {
        lengths = length-set now (slot x) (get_or now (slot x) 0 + w) ∙ s.lengths;
        once = parts.1;
        sums = λ i. elim (ℕ_discrete i (slot x)) [ yes e ↦ same i e | no e ↦ other i e ];
      }
    where
      now' : List ℕ
      now' = set now (slot x) (get_or now (slot x) 0 + w)

      same : (i : ℕ) → i ≡ slot x → get_or now' i 0 + cond (any (is_at i) rest) w 0 ≡ get_or before i 0 + cond (any (is_at i) c) w 0
      same i e =
          let none : any (is_at i) rest ≡ false = ap (λ (j : ℕ). any (is_at j) rest) e ∙ not-true (any (is_at (slot x)) rest) parts.0 in
          let stored : get_or now' i 0 ≡ get_or now i 0 + w = ap (λ (j : ℕ). get_or now' j 0) e ∙ get_or-set_same now (slot x) (get_or now (slot x) 0 + w) 0 l ∙ ap (λ (j : ℕ). get_or now j 0 + w) (sym e) in
          let here : any (is_at i) (drop k c) ≡ true = ap (any (is_at i)) split ∙ ap (λ (b : Bool). b || any (is_at i) rest) (eq-eqb (slot x) i (sym e)) in
          let all : get_or now i 0 + w ≡ get_or before i 0 + cond (any (is_at i) c) w 0 = sym (ap (λ (b : Bool). get_or now i 0 + cond b w 0) here) ∙ s.sums i in
          let left : cond (any (is_at i) rest) w 0 ≡ 0 = ap (λ (b : Bool). cond b w 0) none in
          omega arith

      other : (i : ℕ) → (i ≡ slot x → ⊥) → get_or now' i 0 + cond (any (is_at i) rest) w 0 ≡ get_or before i 0 + cond (any (is_at i) c) w 0
      other i e =
          let here : any (is_at i) (drop k c) ≡ any (is_at i) rest = ap (any (is_at i)) split ∙ ap (λ (b : Bool). b || any (is_at i) rest) (ne_eqb (slot x) i (λ q. e (sym q))) in
          ap₂ ◌+◌ (get_or-set_other now (slot x) i (get_or now (slot x) 0 + w) 0 e) (sym (ap (λ (b : Bool). cond b w 0) here)) ∙ s.sums i

pub adding_end : (c : List ℤ) (w : ℕ) (before now : List ℕ) (k : ℕ) → Adding c w before now k → length c ≤ k
    → (i : ℕ) → get_or now i 0 ≡ get_or before i 0 + cond (any (is_at i) c) w 0
adding_end c w before now k s h i =
    let left : cond (any (is_at i) (drop k c)) w 0 ≡ 0 = rw (drop_of_length-le c h) in
    omega (arith, s.sums i)

-- the variables of c before index k have been marked
pub record Marking (c : List ℤ) (before now : List ℕ) (k : ℕ) : Type 0 where
  pub lengths : length now ≡ length before
  pub marks : (v : ℕ) → is_marked now v || mentions v (drop k c) ≡ is_marked before v || mentions v c

pub marking_start : (c : List ℤ) (before : List ℕ) → Marking c before before 0
marking_start c before = record { lengths = refl; marks = λ v. refl }

module _ (c : List ℤ) (before now : List ℕ) (k : ℕ) (s : Marking c before now k) (h : k < length c) where
  abbrev y : ℤ
  y = get_or c k (pos 0)

  pub marking_next : variable y < length now → Marking c before (set now (variable y) 1) (k + 1)
  marking_next l =
      record {
        lengths = length-set now (variable y) 1 ∙ s.lengths;
        marks = λ v. elim (ℕ_discrete v (variable y)) [ yes e ↦ same v e | no e ↦ other v e ];
      }
    where
      later : List ℤ
      later = drop (k + 1) c

      here : (v : ℕ) → mentions v (drop k c) ≡ is_of v y || mentions v later
      here v = rw (drop-cons c k (pos 0) h, add-one k)

      same : (v : ℕ) → v ≡ variable y → is_marked (set now (variable y) 1) v || mentions v later ≡ is_marked before v || mentions v c
      same v e =
          let stored : is_marked (set now (variable y) 1) v ≡ true = eq-eqb (get_or (set now (variable y) 1) v 0) 1 (ap (λ (j : ℕ). get_or (set now (variable y) 1) j 0) e ∙ get_or-set_same now (variable y) 1 0 l) in
          let found : mentions v (drop k c) ≡ true = here v ∙ ap (λ (b : Bool). b || mentions v later) (eq-eqb (variable y) v (sym e)) in
          ap (λ (b : Bool). b || mentions v later) stored
          ∙ sym (ap (λ (b : Bool). is_marked now v || b) found ∙ or-true (is_marked now v))
          ∙ s.marks v

      other : (v : ℕ) → (v ≡ variable y → ⊥) → is_marked (set now (variable y) 1) v || mentions v later ≡ is_marked before v || mentions v c
      other v e =
          let kept : is_marked (set now (variable y) 1) v ≡ is_marked now v = ap (λ (j : ℕ). eqb j 1) (get_or-set_other now (variable y) v 1 0 e) in
          let passed : mentions v (drop k c) ≡ mentions v later = here v ∙ ap (λ (b : Bool). b || mentions v later) (ne_eqb (variable y) v (λ q. e (sym q))) in
          ap₂ ◌||◌ kept (sym passed) ∙ s.marks v

pub marking_end : (c : List ℤ) (before now : List ℕ) (k : ℕ) → Marking c before now k → length c ≤ k
    → (v : ℕ) → is_marked now v ≡ is_marked before v || mentions v c
marking_end c before now k s h v = sym (or-false (is_marked now v)) ∙ ap (λ (b : Bool). is_marked now v || b) (sym past) ∙ s.marks v
  where
    past : mentions v (drop k c) ≡ false
    past = rw (drop_of_length-le c h)

-- the numbers before index i are 0
pub record Clearing (before now : List ℕ) (i : ℕ) : Type 0 where
  pub lengths : length now ≡ length before
  pub zeros : (k : ℕ) → k < i → get_or now k 0 ≡ 0

pub clearing_start : (before : List ℕ) → Clearing before before 0
clearing_start before = record { lengths = refl; zeros = λ k h. absurd (omega arith) }

pub clearing_next : (before now : List ℕ) (i : ℕ) → Clearing before now i → i < length now → Clearing before (set now i 0) (i + 1)
clearing_next before now i s h =
    record {
      lengths = length-set now i 0 ∙ s.lengths;
      zeros = λ k l. elim (ℕ_discrete k i) [ yes e ↦ ap (λ (j : ℕ). get_or (set now i 0) j 0) e ∙ get_or-set_same now i 0 0 h | no e ↦ get_or-set_other now i k 0 0 e ∙ s.zeros k (omega arith) ];
    }

pub clearing_end : (before now : List ℕ) (i : ℕ) → Clearing before now i → length now ≤ i → (k : ℕ) → get_or now k 0 ≡ 0
clearing_end before now i s h k = go (ltb k (length now)) refl
  where
    go : (b : Bool) → ltb k (length now) ≡ b → get_or now k 0 ≡ 0
    go true e = s.zeros k (omega (arith, ltb-true k (length now) e))
    go false e = get_or-eq_default now 0 (ltb-false k (length now) e)
