-- Stamps: for each literal, at its slot, the number, from 1, of the last clause in which it was seen. They tell in one step whether the open clause, which is number k, holds a literal.
use Rattle.std.specs.Prelude.{◌≡◌, refl, Bool, true, false, not, ◌||◌, List, [], ◌∷◌, ℕ, ◌+◌, ◌≤◌, ◌<◌, ℤ, length, set}
use Rattle.std.proofs.Math.Path.{sym, ap}
use Rattle.std.proofs.Common.{◌∙◌, arith}
use Rattle.std.proofs.Math.Decide.{ℕ_discrete}
use Rattle.std.proofs.Math.Dec.{eqb}
use Rattle.std.proofs.Math.ListN.{get_or, length-set}
use Rattle.std.proofs.Math.Seq.{get_or-set_same, get_or-set_other}
use borrow.Author.Tests.{eq-eqb, ne_eqb}
use Rattle.literal.specs.Literal.{variable, wanted}
use Rattle.literal.specs.Slots.{slot, is_at, wanted_bit}
use Rattle.formula.specs.Formula.{any, contains}
use Rattle.formula.specs.Laws.{slot_clause}
use Rattle.rule_list.specs.Sound.{may_join}

-- how many slots there are: two for each of the numbers 0 to 640
abbrev pub slots : ℕ
slots = 1282

pub record Stamped (stamps : List ℕ) (k : ℕ) (c : List ℤ) : Type 0 where
  pub long : length stamps ≡ slots
  pub most : (j : ℕ) → get_or stamps j 0 ≤ k
  pub tells : (j : ℕ) → eqb (get_or stamps j 0) k ≡ any (is_at j) c

-- before the first clause; when a clause is closed; when a literal joins it
pub stamped_none : (stamps : List ℕ) → length stamps ≡ slots → ((j : ℕ) → get_or stamps j 0 ≡ 0) → Stamped stamps 1 []
stamped_none stamps l z =
    record { long = l; most = λ j. omega (arith, z j); tells = λ j. rw (z j) }

pub stamped_closed : (stamps : List ℕ) (k : ℕ) (c : List ℤ) → Stamped stamps k c → Stamped stamps (k + 1) []
stamped_closed stamps k c s =
    record {
      long = s.long;
      most = λ j. omega (arith, s.most j);
      tells = λ j. ne_eqb (get_or stamps j 0) (k + 1) (λ e. omega (arith, s.most j));
    }

module _ (stamps : List ℕ) (k : ℕ) (c : List ℤ) (x : ℤ) (s : Stamped stamps k c) (inside : slot x < slots) where
  stamps' : List ℕ
  stamps' = set stamps (slot x) k

  abbrev Joined : ℕ → Type 0
  Joined j = (get_or stamps' j 0 ≤ k) × (eqb (get_or stamps' j 0) k ≡ any (is_at j) (x ∷ c))

  joined_same : (j : ℕ) → j ≡ slot x → Joined j
  unfolding stamps'
  joined_same j e =
      let here : get_or stamps' j 0 ≡ k = ap (λ (i : ℕ). get_or stamps' i 0) e ∙ get_or-set_same stamps (slot x) k 0 (omega (arith, s.long)) in
      (omega (arith, here), eq-eqb (get_or stamps' j 0) k here ∙ sym (ap (λ (b : Bool). b || any (is_at j) c) (eq-eqb (slot x) j (sym e))))

  joined-other : (j : ℕ) → (j ≡ slot x → ⊥) → Joined j
  unfolding stamps'
  joined-other j e =
      let here : get_or stamps' j 0 ≡ get_or stamps j 0 = get_or-set_other stamps (slot x) j k 0 e in (
        omega (arith, here, s.most j),
        ap (λ (i : ℕ). eqb i k) here ∙ s.tells j
            ∙ sym (ap (λ (b : Bool). b || any (is_at j) c) (ne_eqb (slot x) j (λ q. e (sym q)))),
      )

  joined : (j : ℕ) → Joined j
  joined j = elim (ℕ_discrete j (slot x)) [ yes e ↦ joined_same j e | no e ↦ joined-other j e ]

  pub stamped_joined : Stamped (set stamps (slot x) k) k (x ∷ c)
  unfolding stamps'
  stamped_joined =
      record { long = length-set stamps (slot x) k ∙ s.long; most = λ j. (joined j).0; tells = λ j. (joined j).1 }

-- the stamp at a literal's slot says whether the literal may join
module _ (stamps : List ℕ) (k : ℕ) (c : List ℤ) (x : ℤ) (s : Stamped stamps k c) where
  holds : eqb (get_or stamps (slot x) 0) k ≡ contains (variable x) (wanted x) c
  holds = s.tells (slot x) ∙ slot_clause (variable x) (wanted x) (wanted_bit x) c

  pub stamp_free : eqb (get_or stamps (slot x) 0) k ≡ false → may_join c x ≡ true
  stamp_free e = ap not (sym holds ∙ e)

  pub stamp_taken : eqb (get_or stamps (slot x) 0) k ≡ true → may_join c x ≡ false
  stamp_taken e = ap not (sym holds ∙ e)

  pub stamp_tells : eqb (get_or stamps (slot x) 0) k ≡ not (may_join c x)
  stamp_tells = holds ∙ twice (contains (variable x) (wanted x) c)
    where
      twice : (b : Bool) → b ≡ not (not b)
      twice true = refl
      twice false = refl
