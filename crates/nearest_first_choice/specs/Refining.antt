-- From a model within a limit to the first one: the variables are fixed one after the other, from 1 upward, by any search that is right from a state (`Right` of crate walk).
use Rattle.std.specs.Prelude.{◌≡◌, refl, ◌⊎◌, Bool, true, false, List, ℕ, zero, suc, ◌+◌, ◌≤◌, ◌<◌, ℤ, length, replicate, Option, None, Some}
use Rattle.std.proofs.Common.{sym, ap, ◌∙◌, inl, inr, ⊎_elim, arith, ext_get_or}
use Rattle.std.proofs.Math.Decide.{ℕ_discrete}
use Rattle.literal.specs.Literal.{value}
use Rattle.distance.specs.Distance.{disagreement}
use Rattle.choices.specs.Choices.{Model}
use Rattle.choices.proofs.Choices.{choice_value}
use Rattle.choices.specs.Order.{Before, FirstWithin}
use Rattle.walk.specs.State.{State, assign}
use Rattle.walk.specs.Propagation.{propagate}
use Rattle.walk.specs.Walk.{Answer, is_dead_end}
use Rattle.walk.specs.Promises.{ModelWithin}
use Rattle.walk.specs.Extension.{Extends}
use Rattle.walk.proofs.Extension.{extends_refl, extends_trans, keeps_value}
use Rattle.walk.proofs.Assignment.{extends_assign, assign_extends, assign_state, assign_value}
use Rattle.walk.proofs.PropagationLaws.{propagate_state, propagate_extends, propagate_forced}
use Rattle.walk.proofs.WalkLaws.{dead_none}
use Rattle.walk.specs.Correctness.{Right}
use Rattle.walk.proofs.Correctness.{start_state, start_extends}

-- In the state a the variables 1 to v have the values that the first model within d has. The choice at hand, c, is a model within d that extends a, and every model within d extends a or comes after all that do.
pub record Refining (n : ℕ) (f : List (List ℤ)) (row : List ℕ) (d v : ℕ) (a c : List ℕ) : Type 0 where
  pub state : State n a
  pub fixed : (u : ℕ) → 0 < u → u ≤ v → value a u ≡ 2 → ⊥
  pub model : Model n f c
  pub limited : disagreement row c ≤ d
  pub extends : Extends c a
  pub others : (b : List ℕ) → Model n f b → disagreement row b ≤ d → Extends b a ⊎ ((e : List ℕ) → Extends e a → Before e b)

-- what a search from the state with a variable off comes to: the variable's value, and the choice at hand then
abbrev pub value_after : Option Answer → ℕ
value_after None = 1
value_after (Some x) = 0

abbrev pub hand_after : List ℕ → Option Answer → List ℕ
hand_after c None = c
hand_after c (Some x) = x.choice

value_bit : (o : Option Answer) → value_after o < 2
value_bit None = omega arith
value_bit (Some x) = omega arith

-- a search that is right from the state a with variable v off: its answer decides the value, and the choice at hand then
pub record Decided (n : ℕ) (f : List (List ℤ)) (row : List ℕ) (d : ℕ) (a : List ℕ) (v : ℕ) (c c' : List ℕ) (bit : ℕ) : Type 0 where
  pub answer : Option Answer
  pub right : Right n f row d (assign a v 0) answer
  pub value_is : bit ≡ value_after answer
  pub hand_is : c' ≡ hand_after c answer

-- at the start nothing is fixed
pub refining_start : (n : ℕ) (f : List (List ℤ)) (row : List ℕ) (d : ℕ) (c : List ℕ) → Model n f c → disagreement row c ≤ d → Refining n f row d 0 (replicate n 2) c
refining_start n f row d c m l =
    record {
      state = start_state n;
      fixed = λ u p q e. omega arith;
      model = m;
      limited = l;
      extends = start_extends n c;
      others = λ b k j. inl (start_extends n b);
    }

module _ {n : ℕ} {f : List (List ℤ)} {row : List ℕ} {d v : ℕ} {a c : List ℕ} (r : Refining n f row d v a c) where
  -- unit propagation loses no model, and finds no dead end
  pub refining_propagated : Refining n f row d v (propagate f a) c
  refining_propagated =
      record {
        state = propagate_state f r.state;
        fixed = λ u p q e. r.fixed u p q (kept u e);
        model = r.model;
        limited = r.limited;
        extends = propagate_forced f r.model.satisfies r.extends;
        others = λ b m l. ⊎_elim (λ e. inl (propagate_forced f m.satisfies e)) (λ h. inr (λ e k. h e (extends_trans k (propagate_extends f a)))) (r.others b m l);
      }
    where
      kept : (u : ℕ) → value (propagate f a) u ≡ 2 → value a u ≡ 2
      kept u e = elim (ℕ_discrete (value a u) 2) [ yes z ↦ z | no z ↦ absurd (z (sym (keeps_value (propagate_extends f a) u z) ∙ e)) ]

  pub refining_alive : is_dead_end f row d (propagate f a) ≡ false
  refining_alive = go (is_dead_end f row d (propagate f a)) refl
    where
      go : (t : Bool) → is_dead_end f row d (propagate f a) ≡ t → t ≡ false
      go true e = absurd (omega (arith, r.limited, dead_none (propagate_forced f r.model.satisfies r.extends) f row d e r.model.satisfies))
      go false e = refl

  -- at the end all are fixed
  pub refining_end : v ≡ n → FirstWithin n f row d c
  refining_end e = record { model = r.model; limited = r.limited; first = λ b m l. ⊎_elim (λ k. inl (same b m k)) (λ h. inr (h c r.extends)) (r.others b m l) }
    where
      same : (b : List ℕ) → Model n f b → Extends b a → c ≡ b
      same b m k =
          ext_get_or 2 c b (omega (arith, r.model.choice.size, m.choice.size))
          (λ i l. keeps_value r.extends (suc i) (all i l) ∙ sym (keeps_value k (suc i) (all i l)))
        where
          all : (i : ℕ) → i < length c → value a (suc i) ≡ 2 → ⊥
          all i l = r.fixed (suc i) (omega arith) (omega (arith, r.model.choice.size))

-- the next variable, u
module _ {n : ℕ} {f : List (List ℤ)} {row : List ℕ} {d v : ℕ} {a c : List ℕ} (r : Refining n f row d v a c) (u : ℕ) (next : u ≡ v + 1) (more : u ≤ n) where
  -- one more is fixed in a state that extends this one
  next_fixed : (b : List ℕ) → Extends b a → (value b u ≡ 2 → ⊥) → (w : ℕ) → 0 < w → w ≤ u → value b w ≡ 2 → ⊥
  next_fixed b k h w p q = elim (ℕ_discrete w u) [ yes z ↦ (λ e. h (ap (value b) (sym z) ∙ e)) | no z ↦ below z ]
    where
      below : (w ≡ u → ⊥) → value b w ≡ 2 → ⊥
      below z e = let s : value a w ≡ 2 → ⊥ = r.fixed w p (omega arith) in s (sym (keeps_value k w s) ∙ e)

  -- propagation has fixed it
  pub refining_fixed : (value a u ≡ 2 → ⊥) → Refining n f row d u a c
  refining_fixed h =
      record {
        state = r.state;
        fixed = next_fixed a (extends_refl a) h;
        model = r.model;
        limited = r.limited;
        extends = r.extends;
        others = r.others;
      }

  module _ (free : value a u ≡ 2) where
    assigned : (b : ℕ) → b < 2 → value (assign a u b) u ≡ 2 → ⊥
    assigned b l e = omega (arith, assign_value r.state u b (omega arith) (omega arith))

    -- a model within the limit that has it off: it is off in the first
    pub refining_off : (x : List ℕ) → Model n f x → disagreement row x ≤ d → Extends x (assign a u 0) → Refining n f row d u (assign a u 0) x
    refining_off x m l k =
        record {
          state = assign_state r.state u 0 (omega arith);
          fixed = next_fixed (assign a u 0) (assign_extends a u 0 free) (assigned 0 (omega arith));
          model = m;
          limited = l;
          extends = k;
          others = λ b p q. ⊎_elim (λ e. either b p e) (λ h. inr (λ e s. h e (extends_trans s (assign_extends a u 0 free)))) (r.others b p q);
        }
      where
        -- a model that has it on comes later: up to it both are as the state is
        later : (b : List ℕ) → Extends b a → value b u ≡ 1 → (e : List ℕ) → Extends e (assign a u 0) → Before e b
        later b k on e s =
            record {
              at = u;
              off = keeps_value s u (assigned 0 (omega arith)) ∙ assign_value r.state u 0 (omega arith) (omega arith);
              on = on;
              same = same;
            }
          where
            same : (w : ℕ) → w < u → value e w ≡ value b w
            same zero l = refl
            same (suc i) l =
                let s' : value a (suc i) ≡ 2 → ⊥ = r.fixed (suc i) (omega arith) (omega arith) in
                keeps_value (extends_trans s (assign_extends a u 0 free)) (suc i) s' ∙ sym (keeps_value k (suc i) s')

        either : (b : List ℕ) → Model n f b → Extends b a → Extends b (assign a u 0) ⊎ ((e : List ℕ) → Extends e (assign a u 0) → Before e b)
        either b p k =
            elim (ℕ_discrete (value b u) 0) [
              | yes z ↦ inl (extends_assign k u 0 z)
              | no z ↦ inr (later b k (omega (arith, choice_value n b p.choice u (omega arith) (omega arith))))
            ]

    -- no model within the limit has it off: it is on in all of them
    pub refining_on : ((b : List ℕ) → Model n f b → Extends b (assign a u 0) → d < disagreement row b) → Refining n f row d u (assign a u 1) c
    refining_on never =
        record {
          state = assign_state r.state u 1 (omega arith);
          fixed = next_fixed (assign a u 1) (assign_extends a u 1 free) (assigned 1 (omega arith));
          model = r.model;
          limited = r.limited;
          extends = on c r.model r.limited r.extends;
          others = λ b p q. ⊎_elim (λ e. inl (on b p q e)) (λ h. inr (λ e s. h e (extends_trans s (assign_extends a u 1 free)))) (r.others b p q);
        }
      where
        on : (b : List ℕ) → Model n f b → disagreement row b ≤ d → Extends b a → Extends b (assign a u 1)
        on b p q k =
            let not-off : value b u ≡ 0 → ⊥ = λ z. omega (arith, q, never b p (extends_assign k u 0 z)) in
            extends_assign k u 1 (omega (arith, choice_value n b p.choice u (omega arith) (omega arith)))

    -- the choice at hand has it off
    pub refining_kept : value c u ≡ 0 → Refining n f row d u (assign a u 0) c
    refining_kept z = refining_off c r.model r.limited (extends_assign r.extends u 0 z)

    -- a search that is right from the state with it off
    pub refining_searched : (o : Option Answer) → Right n f row d (assign a u 0) o → Refining n f row d u (assign a u (value_after o)) (hand_after c o)
    refining_searched None p = refining_on p
    refining_searched (Some x) p =
        let w : ModelWithin n f row d x = p.0 in
        refining_off x.choice w.model (omega (arith, w.own_count, w.limited)) p.1

    -- so its answer decides
    pub refining_decided : {c' : List ℕ} {bit : ℕ} → Decided n f row d a u c c' bit → (bit < 2) × Refining n f row d u (assign a u bit) c'
    refining_decided s = rw (s.value_is, s.hand_is) (value_bit s.answer, refining_searched s.answer s.right)
